-- The bytes of an entry are read as that entry, and any bytes are one entry at most.
-- For the laws, and for reading::entry_in.
use Rattle.std.proofs.Common.{◌≡◌, ◌⊎◌, inl, inr, ℕ, ◌+◌, ◌<◌, ◌^◌, Bool, true, false, List, [], ◌∷◌, ◌++◌, length, Option, Some, None, Result, Ok, Err, cond, refl, sym, ◌∙◌, ap, subst, arith, append_assoc}
use Rattle.std.proofs.lemmas.List.{append-nil}
use Rattle.std.proofs.lemmas.Nat.{from_le_bytes-to_le_bytes_2, from_le_bytes-to_le_bytes_8}
use Rattle.std.proofs.lemmas.Bool.Decides.{nat_tests}
use Rattle.std.specs.Prelude.{nat_lt, ◌==◌, if◌then◌else◌, IfOk, IfErr, MatchResult}
use Rattle.std.specs.Int.{w16, w64, to_le_bytes, from_le_bytes}
use Rattle.otlp_types.specs.declared.arrival.Arrival.{Arrival}
use Rattle.otlp_types.specs.declared.arrival.Record.{Record}
use Rattle.otlp_types.specs.declared.arrival.Item.{Item}
use Rattle.otlp_types.specs.declared.arrival.Item.TheVariants.{Span, Tick, End}
use Rattle.otlp_types.specs.declared.request.Request.{Request}
use Rattle.otlp_flatten.specs.Flat.{records_of}
use Rattle.otlp_reading.specs.Decoding.{IsRequest}
use Rattle.span_ids.specs.declared.keys.ArrivalKey.{ArrivalKey}
use Rattle.journal_entry.specs.declared.entry.JournalEntry.{JournalEntry}
use Rattle.journal_entry.specs.declared.error.EntryError.{EntryError}
use Rattle.journal_entry.specs.declared.error.EntryError.TheVariants as faults
use Rattle.journal_entry.specs.Bytes.{request_with, text_of, bit, bytes_of_answers, bytes_of_decisions, bytes_of_arrival, bytes_of_item, bytes_with, bytes_of_entry}
use Rattle.journal_entry.specs.Reading.{Front, ◌>>=◌, byte_at, mark_at, number_at, short_number_at, with_answer, decisions_at, Framed, tick, ended, span, Frame, alone, arrival_at, item_at, frame_behind, frame_of, IsTextOf, IsFramed, IsUnread, IsEntry, IsNoEntry}
use Rattle.journal_entry.specs.Seen.{IsItem}
use Rattle.journal_entry.specs.ReadsBack.{ArrivalReadsBack, ReadsBack, EntriesAreRead, BytesTellEntries, BytesAreOneEntry}
use Rattle.journal_entry.proofs.Decisions.{ended as ended_at, next, refused, granted}

-- ---- numbers

pub number_put : (n : ℕ) (left : List ℕ) → n < 2 ^ 64 → number_at (to_le_bytes w64 n ++ left) ≡ Ok (n, left)
unfolding number_at
number_put n left h =
    ap (λ b. let r : Front ℕ = cond b (Err faults.Short) (Ok (from_le_bytes w64 (to_le_bytes w64 n), left)) in r) (let e : nat_lt (length (to_le_bytes w64 n ++ left)) 8 ≡ false = grind (arith, nat_tests) in e)
    ∙ ap (λ m. let r : Front ℕ = Ok (m, left) in r) (from_le_bytes-to_le_bytes_8 n h)

pub short_number_put : (n : ℕ) (left : List ℕ) → n < 2 ^ 16 → short_number_at (to_le_bytes w16 n ++ left) ≡ Ok (n, left)
unfolding short_number_at
short_number_put n left h =
    ap (λ b. let r : Front ℕ = cond b (Err faults.Short) (Ok (from_le_bytes w16 (to_le_bytes w16 n), left)) in r) (let e : nat_lt (length (to_le_bytes w16 n ++ left)) 2 ≡ false = grind (arith, nat_tests) in e)
    ∙ ap (λ m. let r : Front ℕ = Ok (m, left) in r) (from_le_bytes-to_le_bytes_2 n h)

-- ---- the limiter's answers

one_more : (b : Bool) (a : List Bool) (r : Front (List (List Bool))) → ((r >>= (λ x. Ok (a ∷ x.0, x.1))) >>= with_answer b) ≡ (r >>= (λ x. Ok ((b ∷ a) ∷ x.0, x.1)))
one_more b a (Ok x) = refl
one_more b a (Err e) = refl

answer_put : (b : Bool) (s : List ℕ) → decisions_at (bit b ∷ s) ≡ (decisions_at s >>= with_answer b)
answer_put true s = granted s
answer_put false s = refused s

answers_put : (a : List Bool) (s : List ℕ) → decisions_at (bytes_of_answers a ++ s) ≡ (decisions_at s >>= (λ x. Ok (a ∷ x.0, x.1)))
answers_put [] s = next s
answers_put (b ∷ a) s =
    answer_put b (bytes_of_answers a ++ s)
    ∙ ap (λ (r : Front (List (List Bool))). r >>= with_answer b) (answers_put a s)
    ∙ one_more b a (decisions_at s)

pub decisions_put : (ds : List (List Bool)) (left : List ℕ) → decisions_at (bytes_of_decisions ds ++ left) ≡ Ok (ds, left)
decisions_put [] left = ended_at left
decisions_put (a ∷ later) left =
    ap decisions_at (append_assoc (bytes_of_answers a) (bytes_of_decisions later) left)
    ∙ answers_put a (bytes_of_decisions later ++ left)
    ∙ ap (λ (r : Front (List (List Bool))). r >>= (λ x. let q : Front (List (List Bool)) = Ok (a ∷ x.0, x.1) in q)) (decisions_put later left)

-- ---- items

-- an item, as it is framed
framed : Item → Framed
framed (Tick m) = tick m
framed (End s) = ended s
framed (Span a) = span a.key a.moment (text_of a.rec)

tick_put : (m : ℕ) → m < 2 ^ 64 → (number_at (to_le_bytes w64 m) >>= alone tick) ≡ Ok (tick m)
tick_put m h = ap (λ (r : Front ℕ). r >>= alone tick) (ap number_at (sym (append-nil (to_le_bytes w64 m))) ∙ number_put m [] h)

end_put : (s : ℕ) → s < 2 ^ 16 → (short_number_at (to_le_bytes w16 s) >>= alone ended) ≡ Ok (ended s)
end_put s h = ap (λ (r : Front ℕ). r >>= alone ended) (ap short_number_at (sym (append-nil (to_le_bytes w16 s))) ∙ short_number_put s [] h)

arrival_put : (lane ordinal number moment : ℕ) (text : List ℕ) → lane < 2 ^ 16 → ordinal < 2 ^ 64 → number < 2 ^ 64 → moment < 2 ^ 64
    → arrival_at (to_le_bytes w16 lane ++ (to_le_bytes w64 ordinal ++ (to_le_bytes w64 number ++ (to_le_bytes w64 moment ++ text))))
    ≡ Ok (span (record { conn = record { lane = lane; ordinal = ordinal }; number = number }) moment text)
arrival_put lane ordinal number moment text a b c d =
    ap (λ (r : Front ℕ). r >>= (λ l. number_at l.1 >>= (λ o. number_at o.1 >>= (λ n. number_at n.1 >>= (λ m. let q : Result Framed EntryError = Ok (span (record { conn = record { lane = l.0; ordinal = o.0 }; number = n.0 }) m.0 m.1) in q)))))
    (short_number_put lane (to_le_bytes w64 ordinal ++ (to_le_bytes w64 number ++ (to_le_bytes w64 moment ++ text))) a)
    ∙ ap (λ (r : Front ℕ). r >>= (λ o. number_at o.1 >>= (λ n. number_at n.1 >>= (λ m. let q : Result Framed EntryError = Ok (span (record { conn = record { lane = lane; ordinal = o.0 }; number = n.0 }) m.0 m.1) in q))))
    (number_put ordinal (to_le_bytes w64 number ++ (to_le_bytes w64 moment ++ text)) b)
    ∙ ap (λ (r : Front ℕ). r >>= (λ n. number_at n.1 >>= (λ m. let q : Result Framed EntryError = Ok (span (record { conn = record { lane = lane; ordinal = ordinal }; number = n.0 }) m.0 m.1) in q)))
    (number_put number (to_le_bytes w64 moment ++ text) c)
    ∙ ap (λ (r : Front ℕ). r >>= (λ m. let q : Result Framed EntryError = Ok (span (record { conn = record { lane = lane; ordinal = ordinal }; number = number }) m.0 m.1) in q))
    (number_put moment text d)

item_put : (it : Item) → ReadsBack it → item_at (bytes_of_item it) ≡ Ok (framed it)
unfolding framed
item_put (Tick m) h = tick_put m h
item_put (End s) h = end_put s h
item_put (Span a) h = arrival_put a.key.conn.lane a.key.conn.ordinal a.key.number a.moment (text_of a.rec) h.lane h.ordinal h.number h.moment

item_is : (it : Item) → ReadsBack it → IsFramed (framed it) it
unfolding framed
item_is (Tick m) h = refl
item_is (End s) h = refl
item_is (Span a) h = (a.rec, (request_with a.rec, h.text, refl), refl)

-- ---- an entry

frame_end : (refused lost : Bool) (ds : List (List Bool)) (item : List ℕ) (it : Framed) → item_at item ≡ Ok it
    → (decisions_at (bytes_of_decisions ds ++ item) >>= (λ answers. item_at answers.1 >>= (λ it. let q : Result Frame EntryError = Ok (record { refused = refused; lost = lost; answers = answers.0; item = it }) in q)))
    ≡ Ok (record { refused = refused; lost = lost; answers = ds; item = it })
frame_end refused lost ds item it known =
    ap (λ (r : Front (List (List Bool))). r >>= (λ answers. item_at answers.1 >>= (λ it. let q : Result Frame EntryError = Ok (record { refused = refused; lost = lost; answers = answers.0; item = it }) in q))) (decisions_put ds item)
    ∙ ap (λ (r : Result Framed EntryError). r >>= (λ it. let q : Result Frame EntryError = Ok (record { refused = refused; lost = lost; answers = ds; item = it }) in q)) known

frame_put : (refused lost : Bool) (ds : List (List Bool)) (item : List ℕ) (it : Framed) → item_at item ≡ Ok it
    → frame_of (bytes_with refused lost ds item) ≡ Ok (record { refused = refused; lost = lost; answers = ds; item = it })
frame_put true true ds item it known = frame_end true true ds item it known
frame_put true false ds item it known = frame_end true false ds item it known
frame_put false true ds item it known = frame_end false true ds item it known
frame_put false false ds item it known = frame_end false false ds item it known

pub is_read : (e : JournalEntry) → ReadsBack e.item → IsEntry (bytes_of_entry e) e
is_read e h = (framed e.item, frame_put e.refused e.lost e.answers (bytes_of_item e.item) (framed e.item) (item_put e.item h), item_is e.item h)

-- ---- one entry at most

ok_is : {A : Type 0} (r : Result A EntryError) (a b : A) → r ≡ Ok a → r ≡ Ok b → a ≡ b
ok_is r a b e f = cc

one_request : (text : List ℕ) (a b : Request) → IsRequest true text a → IsRequest true text b → a ≡ b
one_request text a b (d, json, is) (d', json', is') = cc (json.1, json'.1)

one_record : (text : List ℕ) (r s : Record) → IsTextOf text r → IsTextOf text s → r ≡ s
one_record text r s (a, isa, ra) (b, isb, rb) = let e : a ≡ b = one_request text a b isa isb in cc

one_item : (f : Framed) (x y : Item) → IsFramed f x → IsFramed f y → x ≡ y
one_item (tick m) x y p q = p ∙ sym q
one_item (ended s) x y p q = p ∙ sym q
one_item (span key moment text) x y (r, isr, p) (s, iss, q) = p ∙ ap (λ r. Span (record { key = key; moment = moment; rec = r })) (one_record text r s isr iss) ∙ sym q

pub bytes_are_one_entry_lem : BytesAreOneEntry
bytes_are_one_entry_lem bytes e f (i, ei, pi) (j, fj, pj) =
    let same : (let x : Frame = record { refused = e.refused; lost = e.lost; answers = e.answers; item = i } in x) ≡ record { refused = f.refused; lost = f.lost; answers = f.answers; item = j } =
    ok_is (frame_of bytes) _ _ ei fj in
    let item : e.item ≡ f.item = one_item j e.item f.item (subst (λ k. IsFramed k e.item) (ap (λ x. x.item) same) pi) pj in
    ap (λ (x : Frame). let q : JournalEntry = record { item = e.item; refused = x.refused; lost = x.lost; answers = x.answers } in q) same
    ∙ ap (λ (it : Item). let q : JournalEntry = record { item = it; refused = f.refused; lost = f.lost; answers = f.answers } in q) item

pub entries_are_read_lem : EntriesAreRead
entries_are_read_lem e h = (is_read e h, λ other is. bytes_are_one_entry_lem (bytes_of_entry e) other e is (is_read e h))

pub bytes_tell_entries_lem : BytesTellEntries
bytes_tell_entries_lem e f he hf same = bytes_are_one_entry_lem (bytes_of_entry f) e f (subst (λ b. IsEntry b e) same (is_read e he)) (is_read f hf)

-- ---- what entry_in answers

not_both : (i : Framed) (it : Item) → IsUnread i → IsFramed i it → ⊥
not_both (tick m) it unread framed = unread
not_both (ended s) it unread framed = unread
not_both (span key moment text) it unread (r, is, same) = unread r is

no_entry : (bytes : List ℕ) (e : JournalEntry) (error : EntryError) → IsNoEntry bytes error → IsEntry bytes e → ⊥
no_entry bytes e error (inl fault) (i, is, framed) = cc
no_entry bytes e error (inr (f, found, unread, name)) (i, is, framed) =
    let same : f ≡ record { refused = e.refused; lost = e.lost; answers = e.answers; item = i } = ok_is (frame_of bytes) f _ found is in
    not_both i e.item (subst IsUnread (ap (λ (x : Frame). x.item) same) unread) framed

pub back_of : (bytes : List ℕ) (r : Result JournalEntry EntryError) → IfOk r (IsEntry bytes) → IfErr r (λ error. (error ≡ faults.NoMemory) ⊎ IsNoEntry bytes error)
    → (e : JournalEntry) → ReadsBack e.item → bytes ≡ bytes_of_entry e → MatchResult r (λ found. found ≡ e) (λ error. error ≡ faults.NoMemory)
back_of bytes (Ok found) is none e back same = bytes_are_one_entry_lem bytes found e is (subst (λ (b : List ℕ). IsEntry b e) (sym same) (is_read e back))
back_of bytes (Err error) is none e back same =
    elim none [
      | inl memory ↦ memory
      | inr found ↦ absurd (no_entry bytes e error found (subst (λ (b : List ℕ). IsEntry b e) (sym same) (is_read e back)))
    ]

frame_is : (bytes l₁ l₂ l₃ l₄ : List ℕ) (version : ℕ) (refused lost : Bool) (answers : List (List Bool)) → byte_at bytes ≡ Ok (version, l₁) → version ≡ 1
    → mark_at l₁ ≡ Ok (refused, l₂) → mark_at l₂ ≡ Ok (lost, l₃) → decisions_at l₃ ≡ Ok (answers, l₄)
    → frame_of bytes ≡ (item_at l₄ >>= (λ it. let q : Result Frame EntryError = Ok (record { refused = refused; lost = lost; answers = answers; item = it }) in q))
frame_is bytes l₁ l₂ l₃ l₄ version refused lost answers v one r l a =
    ap (λ (x : Front ℕ). x >>= (λ n. let q : Result Frame EntryError = if n.0 == 1 then frame_behind n.1 else Err faults.Version in q)) v
    ∙ ap (λ (n : ℕ). let q : Result Frame EntryError = if n == 1 then frame_behind l₁ else Err faults.Version in q) one
    ∙ ap (λ (x : Front Bool). x >>= (λ refused. mark_at refused.1 >>= (λ lost. decisions_at lost.1 >>= (λ answers. item_at answers.1 >>= (λ it. let q : Result Frame EntryError = Ok (record { refused = refused.0; lost = lost.0; answers = answers.0; item = it }) in q))))) r
    ∙ ap (λ (x : Front Bool). x >>= (λ lost. decisions_at lost.1 >>= (λ answers. item_at answers.1 >>= (λ it. let q : Result Frame EntryError = Ok (record { refused = refused; lost = lost.0; answers = answers.0; item = it }) in q)))) l
    ∙ ap (λ (x : Front (List (List Bool))). x >>= (λ answers. item_at answers.1 >>= (λ it. let q : Result Frame EntryError = Ok (record { refused = refused; lost = lost; answers = answers.0; item = it }) in q))) a

with_item : (bytes : List ℕ) (r : Result Framed EntryError) (e : JournalEntry)
    → frame_of bytes ≡ (r >>= (λ it. let q : Result Frame EntryError = Ok (record { refused = e.refused; lost = e.lost; answers = e.answers; item = it }) in q))
    → IsItem r e.item → IsEntry bytes e
with_item bytes (Ok it) e framed is = (it, framed, is)
with_item bytes (Err error) e framed is = absurd is

pub entry_found : (bytes l₁ l₂ l₃ l₄ : List ℕ) (version : ℕ) (e : JournalEntry) → byte_at bytes ≡ Ok (version, l₁) → version ≡ 1
    → mark_at l₁ ≡ Ok (e.refused, l₂) → mark_at l₂ ≡ Ok (e.lost, l₃) → decisions_at l₃ ≡ Ok (e.answers, l₄) → IsItem (item_at l₄) e.item → IsEntry bytes e
entry_found bytes l₁ l₂ l₃ l₄ version e v one r l a is = with_item bytes (item_at l₄) e (frame_is bytes l₁ l₂ l₃ l₄ version e.refused e.lost e.answers v one r l a) is
