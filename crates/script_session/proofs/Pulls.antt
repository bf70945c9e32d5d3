-- Spans go into the batch, and batches to the sink.
-- For the contracts of `end_all`, `pull`, `pull_all` and `count_dropped`.
use Rattle.std.proofs.Common.{◌≡◌, ◌≢◌, ℕ, ◌+◌, ◌<◌, ◌≤◌, ◌==◌, Bool, true, false, Option, List, [], ◌∷◌, ◌++◌, length, refl, sym, ap, subst, ◌∙◌, arith, append_assoc, append-nil, if◌then◌else◌}
use Rattle.std.specs.List.{AllByRecursion}
use Rattle.std.proofs.lemmas.Grind.{flat_map-append}
use Rattle.std.proofs.lemmas.Bool.Decides.{nat_tests}
use Rattle.otlp_types.specs.declared.arrival.Arrival.{Arrival}
use Rattle.released_spans.specs.declared.shipment.Shipment.TheVariants.{Span}
use Rattle.span_sink.specs.LineSinks.{LineSinkState}
use Rattle.span_exporter.specs.declared.answer.Flushed.{Flushed}
use Rattle.span_exporter.specs.declared.answer.Flushed.TheVariants.{Handed, BatchDropped, Empty}
use Rattle.span_exporter.specs.declared.answer.Pulled.{Pulled}
use Rattle.span_exporter.specs.declared.answer.Pulled.TheVariants.{Added, AddedFull}
use Rattle.span_exporter.specs.Exports.{ExporterState, with_shipment, answer_to, Sends}
use Rattle.span_ids.specs.declared.outcome.Reason.{Reason}
use Rattle.journal_theory.specs.Fate.{is_same_reason}
use Rattle.drop_ledger.specs.declared.count.Count.{Count}
use Rattle.drop_ledger.specs.declared.count.Count.TheVariants.{Received, Handed as HandedOver, Dropped}
use Rattle.script_run.specs.Sending.{SentBatch, spans_of, AreBatches, SendsAll, SendsInBatches}
use Rattle.script_run.specs.Counts.{counted_for}
use Rattle.script_session.specs.Adding.{Adds, at_count, at_reasons, counted_in}
use Rattle.script_session.specs.Pulling.{PullsAll, GoesOn, Export}
use Rattle.script_session.specs.Staying.{Adds-none}
use Rattle.script_session.proofs.Adds.{Adds-then, Adds-same, counted-append, counted-one, none-dropped, dropped-more}

pub SendsAll-append : (old mid new : LineSinkState) (xs ys : List SentBatch) → SendsAll old xs mid → SendsAll mid ys new → SendsAll old (xs ++ ys) new
SendsAll-append old mid new [] ys p q = let P = λ (s : LineSinkState). SendsAll s ys new in subst P p q
SendsAll-append old mid new (x ∷ xs) ys p q = (p.0, p.1, SendsAll-append p.0 mid new xs ys p.2 q)

spans_of-append : (xs ys : List SentBatch) → spans_of (xs ++ ys) ≡ spans_of xs ++ spans_of ys
spans_of-append xs ys = flat_map-append (λ (one : SentBatch). one.batch) xs ys

all_append : {A : Type 0} (P : A → Type 0) (xs ys : List A) → AllByRecursion P xs → AllByRecursion P ys → AllByRecursion P (xs ++ ys)
all_append P [] ys a b = b
all_append P (x ∷ xs) ys a b = (a.0, all_append P xs ys a.1 b)

-- what stays of the exporter over two calls
pub goes-on-then : (a b c : Export) → GoesOn a b → GoesOn b c → GoesOn a c
goes-on-then a b c p q = (q.0 ∙ p.0, λ down. q.1 (p.1 down))

regroup : (f g p q a h : ℕ) → a ≡ p + q → h ≡ f + g → h + a ≡ (f + p) + (g + q)
regroup f g p q a h e d = omega arith

pub PullsAll-append : (a b c : Export) (xs ys : List Arrival) (f g : Reason → ℕ) → PullsAll a xs f b → PullsAll b ys g c → PullsAll a (xs ++ ys) (λ reason. f reason + g reason) c
PullsAll-append a b c xs ys f g p q = record {
  batches = p.batches ++ q.batches;
  full = all_append (λ (sent : SentBatch). length sent.batch ≡ a.0.size) p.batches q.batches p.full
      (let P = λ (n : ℕ). AllByRecursion (λ (sent : SentBatch). length sent.batch ≡ n) q.batches in subst P p.size q.full);
  are_all = ap (λ zs. zs ++ c.0.batch) (spans_of-append p.batches q.batches) ∙ append_assoc (spans_of p.batches) (spans_of q.batches) c.0.batch
      ∙ ap (λ zs. spans_of p.batches ++ zs) q.are_all ∙ sym (append_assoc (spans_of p.batches) b.0.batch ys)
      ∙ ap (λ zs. zs ++ ys) p.are_all ∙ append_assoc a.0.batch xs ys;
  sends = SendsAll-append a.0.sink b.0.sink c.0.sink p.batches q.batches p.sends q.sends;
  adds = Adds-then a.1 b.1 c.1 _ _ _ (λ k.
      regroup (at_reasons f k) (at_reasons g k) (counted_in p.batches k) (counted_in q.batches k) (counted_in (p.batches ++ q.batches) k) (at_reasons (λ reason. f reason + g reason) k)
      (counted-append p.batches q.batches k) (dropped-more f g k)) p.adds q.adds;
  size = q.size ∙ p.size;
  ends = q.ends ∙ p.ends;
}

is_full : (n m : ℕ) → AddedFull ≡ (if n == m then AddedFull else Added) → n ≡ m
is_full n m e = same (n == m) refl e
  where
    same : (b : Bool) → (n == m) ≡ b → AddedFull ≡ (if b then AddedFull else Added) → n ≡ m
    same true t e = grind (arith, nat_tests)
    same false t e = cc

not_full : (p : Pulled) (n m : ℕ) → p ≡ (if n == m then AddedFull else Added) → (p ≡ AddedFull → ⊥) → n ≢ m
not_full p n m e other same = other (e ∙ chosen (n == m) (grind (arith, nat_tests)))
  where
    chosen : (b : Bool) → b ≡ true → (if b then AddedFull else Added) ≡ AddedFull
    chosen true t = refl
    chosen false t = cc

-- what was sent is counted, and no span was dropped
adds-sent : (r n : Option (List ℕ)) (one : SentBatch) → Adds r (λ count. counted_for count one.flushed) n → Adds r (λ count. at_reasons (λ reason. 0) count + counted_in (one ∷ []) count) n
adds-sent r n one adds = Adds-same r n _ _ (λ k. alone _ _ _ (none-dropped k) (counted-one one k)) adds
  where
    alone : (z a f : ℕ) → z ≡ 0 → a ≡ f → z + a ≡ f
    alone z a f e d = omega arith

-- the span filled the batch, which was sent
pub pulled-full : (old mid new : ExporterState) (r n : Option (List ℕ)) (a : Arrival) (policy : Option ℕ) → length old.batch < old.size → mid ≡ with_shipment (Span a policy) old → AddedFull ≡ answer_to (Span a policy) old mid
    → new.batch ≡ [] → new.size ≡ mid.size → new.ends ≡ mid.ends
    → ((flushed : Flushed) × Sends mid.sink mid.batch flushed new.sink × Adds r (λ count. counted_for count flushed) n)
    → PullsAll (old, r) (a ∷ []) (λ reason. 0) (new, n)
pulled-full old mid new r n a policy room is full emptied size ends sent =
    let full' : length mid.batch ≡ mid.size = is_full (length mid.batch) mid.size full in
    let size_is = ap (λ (e : ExporterState). e.size) is in
    let sink_is = ap (λ (e : ExporterState). e.sink) is in
    let one : SentBatch = record { batch = mid.batch; flushed = sent.0 } in
    let P = λ (s : LineSinkState). SendsAll s (one ∷ []) new.sink in
    record {
      batches = one ∷ [];
      full = (full' ∙ size_is, tt);
      are_all = ap (λ zs. (mid.batch ++ []) ++ zs) emptied ∙ append-nil (mid.batch ++ []) ∙ append-nil mid.batch ∙ ap (λ (e : ExporterState). e.batch) is;
      sends = subst P sink_is (new.sink, sent.1, refl);
      adds = adds-sent r n one sent.2;
      size = size ∙ size_is;
      ends = ends ∙ ap (λ (e : ExporterState). e.ends) is;
    }

-- the batch is open still
pub pulled-part : (old new : ExporterState) (r : Option (List ℕ)) (a : Arrival) (policy : Option ℕ) → new ≡ with_shipment (Span a policy) old → PullsAll (old, r) (a ∷ []) (λ reason. 0) (new, r)
pulled-part old new r a policy is = record {
  batches = [];
  full = tt;
  are_all = ap (λ (e : ExporterState). e.batch) is;
  sends = ap (λ (e : ExporterState). e.sink) is;
  adds = Adds-none r _ (λ k. let z = none-dropped k in omega (arith, z));
  size = ap (λ (e : ExporterState). e.size) is;
  ends = ap (λ (e : ExporterState). e.ends) is;
}

-- ---- the last batch of a line

batches_full : (size : ℕ) → 0 < size → (bs : List SentBatch) → AllByRecursion (λ (sent : SentBatch). length sent.batch ≡ size) bs → AreBatches size bs
batches_full size some [] all = tt
batches_full size some (b ∷ []) all = let e = all.0 in (omega arith, omega arith)
batches_full size some (b ∷ c ∷ bs) all = (all.0, batches_full size some (c ∷ bs) all.1)

batches_push : (size : ℕ) (last : SentBatch) → 0 < length last.batch → length last.batch ≤ size → (bs : List SentBatch) → AllByRecursion (λ (sent : SentBatch). length sent.batch ≡ size) bs
    → AreBatches size (bs ++ last ∷ [])
batches_push size last some within [] all = (some, within)
batches_push size last some within (b ∷ []) all = (all.0, (some, within))
batches_push size last some within (b ∷ c ∷ bs) all = (all.0, batches_push size last some within (c ∷ bs) all.1)

-- nothing was sent, and nothing is counted for it
none_sent : (old new : LineSinkState) (flushed : Flushed) → Sends old [] flushed new → (new ≡ old) × ((k : Count) → counted_for k flushed ≡ 0)
none_sent old new Empty s = (s.1, none_counted)
  where
    none_counted : (k : Count) → counted_for k Empty ≡ 0
    none_counted Received = refl
    none_counted HandedOver = refl
    none_counted (Dropped reason) = refl
none_sent old new (Handed n) s = let some : 0 < n = s.0 in let none : n ≡ 0 = s.1 in absurd (omega arith)
none_sent old new (BatchDropped n reason) s = let some : 0 < n = s.0 in let none : n ≡ 0 = s.1 in absurd (omega arith)

-- spans went in batches, for which this is counted
pub record Went (size : ℕ) (old : LineSinkState) (spans : List Arrival) (counted : Count → ℕ) (new : LineSinkState) : Type 0 where
  pub batches : List SentBatch
  pub sends : SendsInBatches size old spans batches new
  pub counts : (k : Count) → counted_in batches k ≡ counted k

sends_rest : (size : ℕ) → 0 < size → (old mid new : LineSinkState) (bs : List SentBatch) (rest spans : List Arrival) (flushed : Flushed)
    → AllByRecursion (λ (sent : SentBatch). length sent.batch ≡ size) bs → spans_of bs ++ rest ≡ spans → SendsAll old bs mid → length rest < size
    → Sends mid rest flushed new → Went size old spans (λ k. counted_in bs k + counted_for k flushed) new
sends_rest size some old mid new bs [] spans flushed all are sends room sent = record {
  batches = bs;
  sends = record {
    are_batches = batches_full size some bs all;
    are_all = sym (append-nil (spans_of bs)) ∙ are;
    sends = let P = λ (s : LineSinkState). SendsAll old bs s in subst P (sym (none_sent mid new flushed sent).0) sends;
  };
  counts = λ k. let z = (none_sent mid new flushed sent).1 k in omega (arith, z);
}
sends_rest size some old mid new bs (a ∷ rest) spans flushed all are sends room sent =
    let last : SentBatch = record { batch = a ∷ rest; flushed = flushed } in
    record {
      batches = bs ++ last ∷ [];
      sends = record {
        are_batches = batches_push size last (omega arith) (omega arith) bs all;
        are_all = spans_of-append bs (last ∷ []) ∙ ap (λ zs. spans_of bs ++ zs) (append-nil (a ∷ rest)) ∙ are;
        sends = SendsAll-append old mid new bs (last ∷ []) sends (new, sent, refl);
      };
      counts = λ k. counted-append bs (last ∷ []) k ∙ ap (λ n. counted_in bs k + n) (counted-one last k);
    }

no_spans : {A : Type 0} (xs : List A) → length xs ≡ 0 → xs ≡ []
no_spans [] e = refl
no_spans (x ∷ xs) e = absurd (omega arith)

-- what was pulled into an empty batch, and the rest sent, went in batches
pub sent-in_batches : (old mid : Export) (new : LineSinkState) (spans : List Arrival) (dropped : Reason → ℕ) (flushed : Flushed) → length old.0.batch ≡ 0 → (p : PullsAll old spans dropped mid)
    → length mid.0.batch < mid.0.size → Sends mid.0.sink mid.0.batch flushed new → Went old.0.size old.0.sink spans (λ k. counted_in p.batches k + counted_for k flushed) new
sent-in_batches old mid new spans dropped flushed empty p room sent =
    let size_is : mid.0.size ≡ old.0.size = p.size in
    sends_rest old.0.size (omega arith) old.0.sink mid.0.sink new p.batches mid.0.batch spans flushed p.full
    (p.are_all ∙ ap (λ zs. zs ++ spans) (no_spans old.0.batch empty)) p.sends (omega arith) sent
