-- What a client sees, read by read.
-- For the contracts of `heads_in` and `body_in`.
use Rattle.std.proofs.Common.{◌≡◌, ℕ, Bool, true, false, cond, ◌&&◌, List, [], ◌∷◌, ◌++◌, ◌+◌, length, length-append, drop, take, map, Option, Ok, refl, sym, ap, subst, ◌∙◌, append-nil, append_assoc, inl, inr, ◌⊎◌, IsFalse}
use Rattle.httparse.specs.Spans.{span_bytes, header_bytes}
use Rattle.httparse.specs.declared.spans.HeaderSpan.{HeaderSpan}
use Rattle.httparse.specs.declared.spans.ResponseSpans.{ResponseSpans}
use Rattle.httparse.specs.declared.spans.Span.{Span}
use Rattle.http1.specs.declared.client.Client.{Client}
use Rattle.http1.specs.declared.conn.Event.{Event}
use Rattle.http1.specs.declared.conn.Event.TheVariants.{NeedMore, Head, Informational, Data, End, Paused, Upgraded as UpgradedTo, Closed}
use Rattle.http1.specs.declared.conn.Progress.{Progress}
use Rattle.http1.specs.declared.conn.Reading.{Reading}
use Rattle.http1.specs.declared.conn.Reading.TheVariants as Reads
use Rattle.http1.specs.declared.decode.Decoder.{Decoder}
use Rattle.http1.specs.declared.decode.Decoder.TheVariants.{Length, Chunked, UntilClose}
use Rattle.http1.specs.Conn.{awaits_head, no_progress}
use Rattle.std.proofs.Math.Seq.{drop-length}
use Rattle.http1.specs.Decoder.{Starves, AwaitsTrailers}
use Rattle.http1.specs.Client.{new_client, closed_client, cut_short, client_eof, at_eof, is_written, ClientReads, ReadsAt, ReadsFirst, after_piece, is_interim}
use Rattle.http1.specs.ClientTrace.{Seen, SeenResponse, Trace, observe, nothing, reads, stops, peer_closes, IsBetween}
use Rattle.http1.specs.ServerTrace.{headers_at}
use Rattle.post_http.specs.Waits.{wait_in}
use Rattle.post_http.specs.Answers.{limits, LeadsTo, SeesBehind, SeesBody, Behind, with_body}

-- a read of all bytes that are there, in front of what is seen after it
pub reads_on : (c new : Client) (input : List ℕ) (spans : List HeaderSpan) (read : Progress ResponseSpans) (later : Seen) (rest : List ℕ) → ClientReads c input spans new read
    → Trace new (drop read.consumed input) later rest → Trace c input (observe c.method input spans read.event later) rest
reads_on c new input spans read later rest h t =
    subst (λ (s : List ℕ). Trace c s (observe c.method input spans read.event later) rest) (append-nil input)
    (reads c new input [] spans read later rest h (subst (λ (s : List ℕ). Trace new s later rest) (sym (append-nil (drop read.consumed input))) t))

pub sees_first : (bytes : List ℕ) (c : Client) → LeadsTo (new_client limits) c → SeesBehind 0 bytes c bytes
sees_first bytes c leads later rest t = (later, [], leads bytes later rest t, refl, refl)

-- the same, of a read whose event is this one
reads_event : (c new : Client) (input : List ℕ) (spans : List HeaderSpan) (read : Progress ResponseSpans) (event : Event ResponseSpans) (later : Seen) (rest : List ℕ) → read.event ≡ event → ClientReads c input spans new read
    → Trace new (drop read.consumed input) later rest → Trace c input (observe c.method input spans event later) rest
reads_event c new input spans read event later rest e h t =
    subst (λ (x : Event ResponseSpans). Trace c input (observe c.method input spans x later) rest) e (reads_on c new input spans read later rest h t)

-- a response with a head
abbrev seen_head : Client → List ℕ → List HeaderSpan → ResponseSpans → Seen → SeenResponse
seen_head c input spans r later = record {
  method = c.method;
  minor = r.version;
  status = r.code;
  reason = span_bytes input r.reason;
  headers = headers_at input spans r.headers;
  body = later.body;
}

-- an interim head is one response more in front
pub sees_interim : (count : ℕ) (bytes : List ℕ) (c new : Client) (input : List ℕ) (spans : List HeaderSpan) (read : Progress ResponseSpans) (r : ResponseSpans) → read.event ≡ Informational r → SeesBehind count bytes c input
    → ClientReads c input spans new read → SeesBehind (count + 1) bytes new (drop read.consumed input)
sees_interim count bytes c new input spans read r e sees h later rest t =
    let s = sees (observe c.method input spans (Informational r) later) rest (reads_event c new input spans read (Informational r) later rest e h t) in
    let one : List SeenResponse = seen_head c input spans r later ∷ [] in
    (s.0, s.1 ++ one, s.2, s.3 ∙ sym (append_assoc s.1 one later.responses), length-append s.1 one ∙ ap (λ n. n + 1) s.4)

-- a read of one event that is the read of another one
same_event : (consumed : ℕ) (e f : Event ResponseSpans) → (let x : Progress ResponseSpans = record { consumed = consumed; event = e } in x) ≡ no_progress f → e ≡ f
same_event consumed e f h = ap (λ (p : Progress ResponseSpans). p.event) h

-- the head of an answer that isn't interim
head_in : (at : Reading) (c new : Client) (input : List ℕ) (spans : List HeaderSpan) (consumed : ℕ) (r : ResponseSpans) → ReadsAt at c input spans new (record { consumed = consumed; event = Head r }) → IsFalse (is_interim r.code)
head_in Reads.Head c new input spans consumed r h = first (awaits_head c.writing) h
  where
    first : (b : Bool) → ReadsFirst b c input spans new (record { consumed = consumed; event = Head r }) → IsFalse (is_interim r.code)
    first true h = let e : Head r ≡ Paused = same_event consumed (Head r) Paused h.1 in cc
    first false h = h.0
head_in (Reads.Body d) c new input spans consumed r h = absurd h.1
head_in Reads.Done c new input spans consumed r h = let e : Head r ≡ Closed = same_event consumed (Head r) Closed h.0 in cc
head_in Reads.Upgraded c new input spans consumed r h = let e : Head r ≡ UpgradedTo = same_event consumed (Head r) UpgradedTo h.0 in cc
head_in Reads.Closed c new input spans consumed r h = let e : Head r ≡ Closed = same_event consumed (Head r) Closed h.0 in cc
head_in (Reads.Failed f) c new input spans consumed r h = absurd h

-- the read with its event
at_event : (c new : Client) (input : List ℕ) (spans : List HeaderSpan) (read : Progress ResponseSpans) (event : Event ResponseSpans) → read.event ≡ event → ClientReads c input spans new read
    → ClientReads c input spans new (record { consumed = read.consumed; event = event })
at_event c new input spans read event e h = subst (λ (x : Event ResponseSpans). ClientReads c input spans new (record { consumed = read.consumed; event = x })) e h

-- behind the head of a final answer its body is seen
pub sees_final : (count : ℕ) (bytes : List ℕ) (c new : Client) (input : List ℕ) (spans : List HeaderSpan) (read : Progress ResponseSpans) (r : ResponseSpans) (wait : Option ℕ) → read.event ≡ Head r → SeesBehind count bytes c input
    → ClientReads c input spans new read → wait ≡ wait_in (map (header_bytes input) (take r.headers spans))
    → Behind new bytes r.code wait (drop read.consumed input)
sees_final count bytes c new input spans read r wait is_head sees h e later rest none t =
    let s = sees (observe c.method input spans (Head r) later) rest (reads_event c new input spans read (Head r) later rest is_head h t) in
    let last = seen_head c input spans r later in
    (last, record { seen = s.0; rest = rest; trace = s.2; before = s.1; are = s.3 ∙ ap (λ (rs : List SeenResponse). s.1 ++ last ∷ rs) none; is_final = head_in c.reading c new input spans read.consumed r (at_event c new input spans read (Head r) is_head h) }, refl, e, refl)

-- a piece of the body stands behind those before it
pub body_more : (start : Client) (bytes so_far : List ℕ) (c new : Client) (input : List ℕ) (spans : List HeaderSpan) (read : Progress ResponseSpans) (s : Span) → read.event ≡ Data s → SeesBody start bytes so_far c input
    → ClientReads c input spans new read → SeesBody start bytes (so_far ++ span_bytes input s) new (drop read.consumed input)
body_more start bytes so_far c new input spans read s e sees h later rest t =
    let P = λ (xs : List ℕ). Trace start bytes (record later { body = record (later.body) { bytes = xs } }) rest in
    subst P (sym (append_assoc so_far (span_bytes input s) later.body.bytes))
    (sees (observe c.method input spans (Data s) later) rest (reads_event c new input spans read (Data s) later rest e h t))

-- the whole body was seen
abbrev pub SeesAll : (start : Client) (bytes body : List ℕ) → Type 0
SeesAll start bytes body = (later : Seen) × (rest : List ℕ) × Trace start bytes later rest × (later.responses ≡ []) × (body ≡ later.body.bytes)

-- behind the end of a message the client is in no body
between_cycle : (c : Client) (keeps : Bool) → IsBetween (cond keeps (new_client c.limits) (closed_client c)).reading
between_cycle c true = tt
between_cycle c false = tt

end_in : (at : Reading) (c new : Client) (input : List ℕ) (spans : List HeaderSpan) (consumed count : ℕ) → ReadsAt at c input spans new (record { consumed = consumed; event = End count }) → IsBetween new.reading
end_in Reads.Head c new input spans consumed count h = first (awaits_head c.writing) h
  where
    first : (b : Bool) → ReadsFirst b c input spans new (record { consumed = consumed; event = End count }) → IsBetween new.reading
    first true h = let e : End count ≡ Paused = same_event consumed (End count) Paused h.1 in cc
    first false h = absurd h
end_in (Reads.Body d) c new input spans consumed count h =
    let moved : Client = record c { reading = Reads.Done } in
    let same : new ≡ after_piece c Reads.Done = subst (λ (r : Reading). new ≡ after_piece c r) h.1.0 h.2 in
    subst (λ (z : Client). IsBetween z.reading) (sym same) (between_cycle moved (moved.keep_alive && is_written moved.writing))
end_in Reads.Done c new input spans consumed count h = let e : End count ≡ Closed = same_event consumed (End count) Closed h.0 in cc
end_in Reads.Upgraded c new input spans consumed count h = let e : End count ≡ UpgradedTo = same_event consumed (End count) UpgradedTo h.0 in cc
end_in Reads.Closed c new input spans consumed count h = let e : End count ≡ Closed = same_event consumed (End count) Closed h.0 in cc
end_in (Reads.Failed f) c new input spans consumed count h = absurd h

pub body_end : (start : Client) (bytes so_far : List ℕ) (c new : Client) (input : List ℕ) (spans : List HeaderSpan) (read : Progress ResponseSpans) (count : ℕ) → read.event ≡ End count → SeesBody start bytes so_far c input
    → ClientReads c input spans new read → (all : SeesAll start bytes so_far) × (all.1 ≡ drop read.consumed input)
body_end start bytes so_far c new input spans read count e sees h =
    let rest : List ℕ = drop read.consumed input in
    let ends = end_in c.reading c new input spans read.consumed count (at_event c new input spans read (End count) e h) in
    let t = reads_event c new input spans read (End count) nothing rest e h (stops new rest ends) in
    ((with_body so_far (observe c.method input spans (End count) nothing), rest, sees (observe c.method input spans (End count) nothing) rest t, refl, sym (append-nil so_far)), refl)

-- what ends where the peer closes is a body that runs until then, of which nothing is left
abbrev Closes : (new : Client) (left : List ℕ) → Type 0
Closes new left = (new.reading ≡ Reads.Body UntilClose) × (left ≡ [])

idle_eof : (c : Client) (count : ℕ) → (at_eof Reads.Head c).0 ≡ Ok (End count) → ⊥
idle_eof c count h = go (awaits_head c.writing) h
  where
    go : (b : Bool) → (cond b (Ok Closed, closed_client c) (cut_short c)).0 ≡ Ok (End count) → ⊥
    go true h = cc h
    go false h = cc h

close_body : (d nd : Decoder) (c : Client) (input : List ℕ) (len count : ℕ) → Starves d input nd len → (at_eof (Reads.Body nd) (record c { reading = Reads.Body nd })).0 ≡ Ok (End count)
    → (nd ≡ UntilClose) × (drop len input ≡ [])
close_body d (Length left) c input len count s h = absurd (cc h)
close_body d (Chunked chunks max_len) c input len count s h = absurd (cc h)
close_body d UntilClose c input len count s h = (refl, all s.drained)
  where
    all : (len ≡ length input) ⊎ AwaitsTrailers UntilClose (length (drop len input)) → drop len input ≡ []
    all (inl e) = ap (λ (n : ℕ). drop n input) e ∙ drop-length input
    all (inr a) = absurd a

close_in : (at : Reading) (c new : Client) (input : List ℕ) (spans : List HeaderSpan) (consumed count : ℕ) → c.reading ≡ at → ReadsAt at c input spans new (record { consumed = consumed; event = NeedMore })
    → (client_eof new).0 ≡ Ok (End count) → Closes new (drop consumed input)
close_in Reads.Head c new input spans consumed count is h closed = first (awaits_head c.writing) h
  where
    first : (b : Bool) → ReadsFirst b c input spans new (record { consumed = consumed; event = NeedMore }) → Closes new (drop consumed input)
    first true h = let e : NeedMore ≡ Paused = same_event consumed NeedMore Paused h.1 in cc
    first false h = absurd (idle_eof c count (subst (λ (r : Reading). (at_eof r c).0 ≡ Ok (End count)) is (subst (λ (z : Client). (client_eof z).0 ≡ Ok (End count)) h.1 closed)))
close_in (Reads.Body d) c new input spans consumed count is h closed =
    let nd = h.1.0 in
    let same : new ≡ record c { reading = Reads.Body nd } = subst (λ (r : Reading). new ≡ after_piece c r) h.1.1 h.2 in
    let r = close_body d nd c input consumed count h.1.2 (subst (λ (z : Client). (client_eof z).0 ≡ Ok (End count)) same closed) in
    (ap (λ (z : Client). z.reading) same ∙ ap Reads.Body r.0, r.1)
close_in Reads.Done c new input spans consumed count is h closed = let e : NeedMore ≡ Closed = same_event consumed NeedMore Closed h.0 in cc
close_in Reads.Upgraded c new input spans consumed count is h closed = let e : NeedMore ≡ UpgradedTo = same_event consumed NeedMore UpgradedTo h.0 in cc
close_in Reads.Closed c new input spans consumed count is h closed = let e : NeedMore ≡ Closed = same_event consumed NeedMore Closed h.0 in cc
close_in (Reads.Failed f) c new input spans consumed count is h closed = absurd h

pub body_close : (start : Client) (bytes so_far : List ℕ) (c new : Client) (input : List ℕ) (spans : List HeaderSpan) (read : Progress ResponseSpans) (count : ℕ) → read.event ≡ NeedMore → SeesBody start bytes so_far c input
    → ClientReads c input spans new read → (client_eof new).0 ≡ Ok (End count) → SeesAll start bytes so_far
body_close start bytes so_far c new input spans read count e sees h closed =
    let ends = close_in c.reading c new input spans read.consumed count refl (at_event c new input spans read NeedMore e h) closed in
    let t = reads_event c new input spans read NeedMore nothing [] e h (subst (λ (s : List ℕ). Trace new s nothing []) (sym ends.1) (peer_closes new ends.0)) in
    (with_body so_far nothing, [], sees nothing [] t, refl, sym (append-nil so_far))
