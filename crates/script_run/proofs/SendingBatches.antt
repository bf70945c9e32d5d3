-- The exporter of the core pulls the spans of batches, and hands each batch over or gives it up.
-- For the contract of `scripts_are_runs_of_the_core`.
use Rattle.std.proofs.Common.{◌≡◌, ℕ, ◌+◌, ◌<◌, ◌≤◌, Bool, true, false, cond, not, ◌||◌, nat_lt, List, [], ◌∷◌, ◌++◌, map, flat_map, length, Some, None, inl, inr, refl, ap, sym, ◌∙◌, arith, append_assoc, append-nil, length-append}
use Rattle.std.specs.List.{sum_by}
use Rattle.std.proofs.lemmas.Bool.Decides.{nat_tests}
use Rattle.std.proofs.lemmas.List.Sums.{sum_by-cons}
use Rattle.otlp_types.specs.declared.arrival.Arrival.{Arrival}
use Rattle.span_ids.specs.declared.outcome.Reason.{Reason}
use Rattle.span_ids.specs.declared.outcome.Reason.TheVariants.{InvalidId, QueueFull, NoMemory, Evicted, NotSampled, LateNotSampled, ExporterDown}
use Rattle.journal_theory.specs.Fate.{DroppedSpan, counts, is_same_reason, under}
use Rattle.span_sink.specs.LineSinks.{LineSinkState}
use Rattle.span_exporter.specs.Exports.{Sends, DropsBatch}
use Rattle.span_exporter.specs.declared.answer.Flushed.{Flushed}
use Rattle.span_exporter.specs.declared.answer.Flushed.TheVariants.{Handed as WasHanded, BatchDropped, Empty}
use Rattle.drop_ledger.specs.declared.count.Count.TheVariants.{Handed, Dropped}
use Rattle.span_sink.specs.Manners.{refuses}
use Rattle.world_theory.specs.World.{CoreConfig, World as Core}
use Rattle.world_theory.specs.Step.{pull, hand, fail, drop_batch, is_empty, pull_from, drop_batch_applies}
use Rattle.script_run.specs.Sending.{SentBatch, spans_of, AreBatches, SendsAll}
use Rattle.script_run.specs.World.{OutputEvent, replied, was_sent}
use Rattle.script_run.specs.Counts.{counted_for, counted_at}
use Rattle.script_run.specs.Writing.{handed_with, handed_in}
use Rattle.script_run.proofs.QuietRuns.{Leads, leads_same, leads_one, leads_then}
use Rattle.journal_theory.proofs.Counted.{under_append, under_counts}

-- ---- tests and counts

-- where neither test holds
unless_either : {X : Type 0} (a b : Bool) (x : X) → a ≡ false → b ≡ false → cond (a || b) None (Some x) ≡ Some x
unless_either true b x e f = absurd (cc e)
unless_either false true x e f = absurd (cc f)
unless_either false false x e f = refl

-- what holds something is not empty
not_empty : (spans : List Arrival) → 0 < length spans → is_empty spans ≡ false
not_empty [] h = absurd (omega (arith, h))
not_empty (a ∷ spans) h = refl

-- the test of an order that holds
lt_true : (m n : ℕ) → m < n → nat_lt m n ≡ true
lt_true m n h = grind (arith, nat_tests)

-- ---- batches and events

-- each batch holds something, and no more than this
abbrev pub AllFit : (size : ℕ) → List SentBatch → Type 0
AllFit size [] = Unit {0}
AllFit size (one ∷ more) = (0 < length one.batch) × (length one.batch ≤ size) × AllFit size more

-- batches of a size that is not 0 fit
pub batches_fit : (size : ℕ) (batches : List SentBatch) → 0 < size → AreBatches size batches → AllFit size batches
batches_fit size [] l h = tt
batches_fit size (last ∷ []) l h = (h.0, h.1, tt)
batches_fit size (one ∷ next ∷ more) l h = (omega (arith, l, h.0), omega (arith, h.0), batches_fit size (next ∷ more) l h.1)

-- a batch is handed over before others
handed_more : (flushed : Flushed) (batch : List Arrival) (xs ys : List (List Arrival)) → handed_with flushed batch (xs ++ ys) ≡ handed_with flushed batch xs ++ ys
handed_more (WasHanded n) batch xs ys = refl
handed_more (BatchDropped n why) batch xs ys = refl
handed_more Empty batch xs ys = refl

-- the batches that were handed over in some events and then in others
pub handed_append : (events more : List OutputEvent) → handed_in (events ++ more) ≡ handed_in events ++ handed_in more
handed_append [] more = refl
handed_append (replied reply ∷ events) more = handed_append events more
handed_append (was_sent sent ∷ events) more = ap (handed_with sent.flushed sent.batch) (handed_append events more) ∙ handed_more sent.flushed sent.batch (handed_in events) (handed_in more)

-- the spans of batches and then of others
pub spans_append : (xs ys : List (List Arrival)) → length (flat_map (λ (b : List Arrival). b) (xs ++ ys)) ≡ length (flat_map (λ (b : List Arrival). b) xs) + length (flat_map (λ (b : List Arrival). b) ys)
spans_append [] ys = omega arith
spans_append (x ∷ xs) ys = omega (arith, spans_append xs ys, length-append x (flat_map (λ (b : List Arrival). b) (xs ++ ys)), length-append x (flat_map (λ (b : List Arrival). b) xs))

-- the spans of one batch are handed over as it is counted
one_handed : (flushed : Flushed) (batch : List Arrival) (rest : List (List Arrival)) (old new : LineSinkState) → Sends old batch flushed new
    → length (flat_map (λ (b : List Arrival). b) (handed_with flushed batch rest)) ≡ counted_for Handed flushed + length (flat_map (λ (b : List Arrival). b) rest)
one_handed (WasHanded n) batch rest old new h = omega (arith, h.1, length-append batch (flat_map (λ (b : List Arrival). b) rest))
one_handed (BatchDropped n why) batch rest old new h = omega arith
one_handed Empty batch rest old new h = omega arith

-- the spans that were handed over in the batches are those that are counted so
pub handed_counted : (batches : List SentBatch) (old new : LineSinkState) → SendsAll old batches new
    → length (flat_map (λ (b : List Arrival). b) (handed_in (map was_sent batches))) ≡ sum_by (counted_at Handed) (map was_sent batches)
handed_counted [] old new h = refl
handed_counted (one ∷ more) old new h = omega (
  arith,
  one_handed one.flushed one.batch (handed_in (map was_sent more)) old h.0 h.1,
  handed_counted more h.0 new h.2,
  sum_by-cons (counted_at Handed) (was_sent one) (map was_sent more),
)

-- ---- the steps

or_true : (b : Bool) → b || true ≡ true
or_true true = refl
or_true false = refl

module _ (c : CoreConfig) (k : Core) where
  -- the core where the exporter's parts are these
  abbrev pub sending : (exported batch : List Arrival) → (handed : List (List Arrival)) → (counted : List DroppedSpan) → (down : Bool) → Core
  sending X B H C down = record k { exported = X; batch = B; handed = H; counted = C; down = down }

  -- the exporter pulls these spans into the open batch
  pulls_all : (xs more B : List Arrival) (H : List (List Arrival)) (C : List DroppedSpan) (down : Bool) → length B + length xs ≤ c.batch_size
      → Leads c (sending (xs ++ more) B H C down) (sending more (B ++ xs) H C down)
  pulls_all [] more B H C down l = leads_same c _ _ (ap (λ (z : List Arrival). sending more z H C down) (sym (append-nil B)))
  pulls_all (a ∷ xs) more B H C down l = leads_then c _ (sending (xs ++ more) (B ++ a ∷ []) H C down) _ (leads_one c _ _ pull one)
      (leads_then c _ _ _ (pulls_all xs more (B ++ a ∷ []) H C down (omega (arith, l, length-append B (a ∷ [])))) (leads_same c _ _ (ap (λ (z : List Arrival). sending more z H C down) (append_assoc B (a ∷ []) xs))))
    where
      below : nat_lt (length B) c.batch_size ≡ true
      below = lt_true (length B) c.batch_size (omega (arith, l))

      one : pull_from c (sending (a ∷ (xs ++ more)) B H C down) (a ∷ (xs ++ more)) ≡ Some (sending (xs ++ more) (B ++ a ∷ []) H C down)
      one = ap (λ b. cond b (Some (sending (xs ++ more) (B ++ a ∷ []) H C down)) None) below

  -- what became of the open batch
  record SentOne (batch : List Arrival) (flushed : Flushed) (old new : LineSinkState) (X : List Arrival) (H : List (List Arrival)) (C : List DroppedSpan) : Type 0 where
    counted : List DroppedSpan
    counts_more : (reason : Reason) → length (under reason counted) ≡ length (under reason C) + counted_for (Dropped reason) flushed
    leads : Leads c (sending X batch H C old.is_down) (sending X [] (H ++ handed_with flushed batch []) counted new.is_down)

  -- a batch is given up, where the reason applies
  gives_up : (batch X : List Arrival) (H : List (List Arrival)) (C : List DroppedSpan) (down : Bool) (why : Reason) → 0 < length batch → drop_batch_applies c (sending X batch H C down) why ≡ true
      → Leads c (sending X batch H C down) (sending X [] (H ++ []) (C ++ counts why batch) down)
  gives_up batch X H C down why l applies = leads_then c _ _ _ (leads_one c _ _ (drop_batch why) (unless_either (is_empty batch) (not (drop_batch_applies c (sending X batch H C down) why)) (sending X [] H (C ++ counts why batch) down) (not_empty batch l) (ap not applies)))
      (leads_same c _ _ (ap (λ (z : List (List Arrival)). sending X [] z (C ++ counts why batch) down) (sym (append-nil H))))

  -- a batch that is given up is counted under the reason
  given_up : (batch : List Arrival) (n : ℕ) (why : Reason) (old new : LineSinkState) (X : List Arrival) (H : List (List Arrival)) (C : List DroppedSpan) → n ≡ length batch
      → Leads c (sending X batch H C old.is_down) (sending X [] (H ++ []) (C ++ counts why batch) new.is_down) → SentOne batch (BatchDropped n why) old new X H C
  given_up batch n why old new X H C e h = record {
    counted = C ++ counts why batch;
    counts_more = λ reason. under_append reason C (counts why batch) ∙ ap (λ (z : ℕ). length (under reason C) + z) (under_counts reason why batch ∙ ap (λ (z : ℕ). cond (is_same_reason why reason) z 0) (sym e));
    leads = h;
  }

  -- the open batch is given up for one of the reasons that apply
  drops_batch_one : (batch : List Arrival) (n : ℕ) (why : Reason) (old new : LineSinkState) (X : List Arrival) (H : List (List Arrival)) (C : List DroppedSpan) → 0 < length batch → n ≡ length batch
      → DropsBatch why old batch new → SentOne batch (BatchDropped n why) old new X H C
  drops_batch_one batch n NoMemory old new X H C l e h = given_up batch n NoMemory old new X H C e
      (leads_then c _ _ _ (gives_up batch X H C old.is_down NoMemory l refl) (leads_same c _ _ (ap (λ (z : LineSinkState). sending X [] (H ++ []) (C ++ counts NoMemory batch) z.is_down) (sym h.1))))
  drops_batch_one batch n ExporterDown old new X H C l e (inl f) = given_up batch n ExporterDown old new X H C e
      (leads_then c _ (sending X batch H C true) _ (leads_one c _ _ fail (ap (λ b. cond b None (Some (sending X batch H C true))) f.2.was_up))
      (leads_then c _ _ _ (gives_up batch X H C true ExporterDown l (or_true (refuses c.manner))) (leads_same c _ _ (ap (λ b. sending X [] (H ++ []) (C ++ counts ExporterDown batch) b) (sym f.2.goes_down)))))
  drops_batch_one batch n ExporterDown old new X H C l e (inr f) = given_up batch n ExporterDown old new X H C e
      (leads_then c _ _ _ (gives_up batch X H C old.is_down ExporterDown l (ap (λ b. refuses c.manner || b) f.0 ∙ or_true (refuses c.manner))) (leads_same c _ _ (ap (λ (z : LineSinkState). sending X [] (H ++ []) (C ++ counts ExporterDown batch) z.is_down) (sym f.1))))
  drops_batch_one batch n InvalidId old new X H C l e h = absurd h
  drops_batch_one batch n QueueFull old new X H C l e h = absurd h
  drops_batch_one batch n Evicted old new X H C l e h = absurd h
  drops_batch_one batch n NotSampled old new X H C l e h = absurd h
  drops_batch_one batch n LateNotSampled old new X H C l e h = absurd h

  -- the open batch is handed over or given up
  sends_one : (batch : List Arrival) (flushed : Flushed) (old new : LineSinkState) (X : List Arrival) (H : List (List Arrival)) (C : List DroppedSpan) → 0 < length batch → Sends old batch flushed new → SentOne batch flushed old new X H C
  sends_one batch (WasHanded n) old new X H C l h = record {
    counted = C;
    counts_more = λ reason. omega arith;
    leads = leads_then c _ _ _ (leads_one c _ (sending X [] (H ++ batch ∷ []) C old.is_down) hand (unless_either (is_empty batch) old.is_down _ (not_empty batch l) h.2.2.was_up))
        (leads_same c _ _ (ap (λ b. sending X [] (H ++ batch ∷ []) C b) (h.2.2.was_up ∙ sym h.2.2.stays_up)));
  }
  sends_one batch (BatchDropped n why) old new X H C l h = drops_batch_one batch n why old new X H C l h.1 h.2
  sends_one batch Empty old new X H C l h = absurd (omega (arith, l, ap (λ (z : List Arrival). length z) h.0))

  -- what became of all batches
  pub record SentAll (batches : List SentBatch) (old new : LineSinkState) (H : List (List Arrival)) (C : List DroppedSpan) : Type 0 where
    pub counted : List DroppedSpan
    pub counts_more : (reason : Reason) → length (under reason counted) ≡ length (under reason C) + sum_by (counted_at (Dropped reason)) (map was_sent batches)
    pub leads : Leads c (sending (spans_of batches) [] H C old.is_down) (sending [] [] (H ++ handed_in (map was_sent batches)) counted new.is_down)

  -- one batch and then the others
  sent_more : (one : SentBatch) (more : List SentBatch) (old mid new : LineSinkState) (H : List (List Arrival)) (C : List DroppedSpan) → length one.batch ≤ c.batch_size
      → (first : SentOne one.batch one.flushed old mid (spans_of more) H C) → SentAll more mid new (H ++ handed_with one.flushed one.batch []) first.counted → SentAll (one ∷ more) old new H C
  sent_more one more old mid new H C fits first rest = record {
    counted = rest.counted;
    counts_more = λ reason. omega (arith, rest.counts_more reason, first.counts_more reason, sum_by-cons (counted_at (Dropped reason)) (was_sent one) (map was_sent more));
    leads = leads_then c _ _ _ (pulls_all one.batch (spans_of more) [] H C old.is_down (omega (arith, fits))) (leads_then c _ _ _ first.leads (leads_then c _ _ _ rest.leads
        (leads_same c _ _ (ap (λ (z : List (List Arrival)). sending [] [] z rest.counted new.is_down)
        (append_assoc H (handed_with one.flushed one.batch []) (handed_in (map was_sent more)) ∙ ap (λ (z : List (List Arrival)). H ++ z) (sym (handed_more one.flushed one.batch [] (handed_in (map was_sent more)))))))));
  }

  -- the batches are handed over or given up in turn
  pub sends_all : (batches : List SentBatch) (old new : LineSinkState) (H : List (List Arrival)) (C : List DroppedSpan) → AllFit c.batch_size batches → SendsAll old batches new → SentAll batches old new H C
  sends_all [] old new H C fit h = record {
    counted = C;
    counts_more = λ reason. omega arith;
    leads = leads_same c _ _ (ap (λ (z : List (List Arrival)). sending [] [] z C old.is_down) (sym (append-nil H)) ∙ ap (λ (z : LineSinkState). sending [] [] (H ++ []) C z.is_down) (sym h));
  }
  sends_all (one ∷ more) old new H C fit h = let first = sends_one one.batch one.flushed old h.0 (spans_of more) H C fit.0 h.1 in
      sent_more one more old h.0 new H C fit.1 first (sends_all more h.0 new (H ++ handed_with one.flushed one.batch []) first.counted fit.2 h.2)
