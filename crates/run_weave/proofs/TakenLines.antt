-- The lines that a destination took of the exporter's calls, and the batches that they are of.
-- For the contract of `workers_ran`.
use Rattle.std.proofs.Common.{◌≡◌, inl, inr, ℕ, ◌<◌, Bool, true, false, not, cond, List, [], ◌∷◌, ◌++◌, map, filter, flat_map, length, Option, Err, refl, sym, ap, subst, ◌∙◌, append-nil, arith}
use Rattle.std.specs.List.{AllByRecursion}
use Rattle.std.proofs.lemmas.List.{map-append}
use Rattle.std.proofs.lemmas.List.Elements.{filter-append}
use Rattle.std.proofs.lemmas.Grind.{flat_map-append}
use Rattle.otlp_types.specs.declared.arrival.Arrival.{Arrival}
use Rattle.released_spans.specs.declared.shipment.Shipment.TheVariants.{Span as ShippedSpan, End as ShippedEnd}
use Rattle.span_ids.specs.declared.outcome.Reason.{Reason}
use Rattle.span_ids.specs.declared.outcome.Reason.TheVariants.{InvalidId, QueueFull, NoMemory, Evicted, NotSampled, LateNotSampled, ExporterDown}
use Rattle.journal_theory.specs.Fate.{DroppedSpan, counts}
use Rattle.span_sink.specs.Manners.{Manner, prints_refused, prints}
use Rattle.span_sink.specs.Hands.{Handing, is_whole, handed_lines}
use Rattle.span_sink.specs.declared.sink.SinkFault.TheVariants.{Refused}
use Rattle.span_exporter.specs.declared.answer.Flushed.{Flushed}
use Rattle.span_exporter.specs.declared.answer.Flushed.TheVariants.{Handed, BatchDropped, Empty}
use Rattle.span_exporter.specs.Calls.{ExporterCall, pulled, flushed, noted, FlushedBatch, batches_flushed, AnswersFor, CallsHand, FlushHands}
use Rattle.span_exporter.specs.Batches.{line_records, IsLineOf}
use Rattle.span_exporter.specs.Work.{NotesNothing, calls_of}
use Rattle.span_weave.specs.Calls.{handed_by, counted_by as dropped_by, handed_in, counted_in}
use Rattle.journal_theory.proofs.ListFacts.{Each}
use Rattle.run_weave.specs.Ran.{IsBatchLine, AreLinesOf, TakenBatch, GivenUpBatch, spans_in}

-- a line of a batch with these policies is one of the batch
pub batch_line : (names : List (List ℕ)) (policies : List (Option ℕ)) (batch : List Arrival) (line : List ℕ) → IsLineOf (line_records names policies batch) line → IsBatchLine names batch line
batch_line [] policies batch line h = h
batch_line (name ∷ names) policies batch line h = (policies, h)

lines_append : (names : List (List ℕ)) (bs cs : List (List Arrival)) (ls ms : List (List ℕ)) → AreLinesOf names bs ls → AreLinesOf names cs ms → AreLinesOf names (bs ++ cs) (ls ++ ms)
lines_append names [] cs [] ms h k = k
lines_append names [] cs (l ∷ ls) ms h k = absurd h
lines_append names (b ∷ bs) cs [] ms h k = absurd h
lines_append names (b ∷ bs) cs (l ∷ ls) ms h k = (h.0, lines_append names bs cs ls ms h.1 k)

module _ (names : List (List ℕ)) (m : Manner) where
  hands_append : (xs ys : List Handing) → handed_lines m (xs ++ ys) ≡ handed_lines m xs ++ handed_lines m ys
  hands_append [] ys = refl
  hands_append (x ∷ xs) ys = go (is_whole m x.answer) (hands_append xs ys)
    where
      go : (b : Bool) → handed_lines m (xs ++ ys) ≡ handed_lines m xs ++ handed_lines m ys
          → map (λ (call : Handing). call.line) (cond b (x ∷ filter (λ (call : Handing). is_whole m call.answer) (xs ++ ys)) (filter (λ (call : Handing). is_whole m call.answer) (xs ++ ys)))
          ≡ map (λ (call : Handing). call.line) (cond b (x ∷ filter (λ (call : Handing). is_whole m call.answer) xs) (filter (λ (call : Handing). is_whole m call.answer) xs)) ++ handed_lines m ys
      go true e = ap (λ (z : List (List ℕ)). x.line ∷ z) e
      go false e = e

  -- ---- where no line that was refused was taken

  module _ (silent : prints m ≡ false) where
    flush_lines : (policies : List (Option ℕ)) (batch : List Arrival) (answer : Flushed) (hands : List Handing) → FlushHands (line_records names policies batch) answer hands → AreLinesOf names (handed_by answer batch) (handed_lines m hands)
    flush_lines policies batch Empty hands h = subst (λ (z : List Handing). AreLinesOf names [] (handed_lines m z)) (sym h) tt
    flush_lines policies batch (Handed n) hands h = subst (λ (z : List Handing). AreLinesOf names (batch ∷ []) (handed_lines m z)) (sym h.2) (batch_line names policies batch h.0 h.1, tt)
    flush_lines policies batch (BatchDropped n NoMemory) hands h = subst (λ (z : List Handing). AreLinesOf names [] (handed_lines m z)) (sym h) tt
    flush_lines policies batch (BatchDropped n ExporterDown) hands (inl h) = subst (λ (z : List Handing). AreLinesOf names [] (handed_lines m z)) (sym h.2) tt
    flush_lines policies batch (BatchDropped n ExporterDown) hands (inr (inl h)) = subst (λ (z : List Handing). AreLinesOf names [] (handed_lines m z)) (sym h) tt
    flush_lines policies batch (BatchDropped n ExporterDown) hands (inr (inr h)) = subst (λ (z : List Handing). AreLinesOf names [] (handed_lines m z)) (sym h.2)
        (subst (λ b. AreLinesOf names [] (map (λ (call : Handing). call.line) (cond b (record { line = h.0; answer = Err Refused } ∷ []) []))) (sym silent) tt)
    flush_lines policies batch (BatchDropped n InvalidId) hands h = absurd h
    flush_lines policies batch (BatchDropped n QueueFull) hands h = absurd h
    flush_lines policies batch (BatchDropped n Evicted) hands h = absurd h
    flush_lines policies batch (BatchDropped n NotSampled) hands h = absurd h
    flush_lines policies batch (BatchDropped n LateNotSampled) hands h = absurd h

    pub call_lines : (policies : List (Option ℕ)) (batch : List Arrival) (calls : List (ℕ × ExporterCall)) (hands : List Handing) → AllByRecursion (λ (x : ℕ × ExporterCall). NotesNothing x.1) calls → CallsHand names policies batch (calls_of calls) hands
        → AreLinesOf names (handed_in batch calls) (handed_lines m hands)
    call_lines policies batch [] hands quiet h = subst (λ (z : List Handing). AreLinesOf names [] (handed_lines m z)) (sym h) tt
    call_lines policies batch ((shard, pulled (ShippedSpan a policy) answer) ∷ calls) hands quiet h = call_lines (policies ++ policy ∷ []) (batch ++ a ∷ []) calls hands quiet.1 h
    call_lines policies batch ((shard, pulled (ShippedEnd s) answer) ∷ calls) hands quiet h = call_lines policies batch calls hands quiet.1 h
    call_lines policies batch ((shard, flushed answer) ∷ calls) hands quiet h =
        subst (λ (z : List (List ℕ)). AreLinesOf names (handed_by answer batch ++ handed_in [] calls) z) (sym (ap (handed_lines m) h.2 ∙ hands_append h.0 h.1))
        (lines_append names (handed_by answer batch) (handed_in [] calls) (handed_lines m h.0) (handed_lines m h.1) (flush_lines policies batch answer h.0 h.3) (call_lines [] [] calls h.1 quiet.1 h.4))
    call_lines policies batch ((shard, noted line answer) ∷ calls) hands quiet h = absurd quiet.0

-- ---- where those that were refused were taken, too

-- these lines were taken, of batches among which these were handed over; the others, and all that was counted, are of
-- the batches that were given up
pub record TakenOf (names : List (List ℕ)) (counted : List DroppedSpan) (handed : List (List Arrival)) (lines : List (List ℕ)) : Type 0 where
  pub taken : List TakenBatch
  pub of_batches : AreLinesOf names (spans_in taken) lines
  pub handed_are : spans_in (filter (λ (b : TakenBatch). b.is_handed) taken) ≡ handed
  pub given_up : List GivenUpBatch
  pub counted_are : counted ≡ flat_map (λ (b : GivenUpBatch). counts b.reason b.spans) given_up
  pub printed : spans_in (filter (λ (b : TakenBatch). not b.is_handed) taken) ≡ map (λ (b : GivenUpBatch). b.spans) (filter (λ (b : GivenUpBatch). b.is_printed) given_up)
  pub some : AllByRecursion (λ (b : GivenUpBatch). 0 < length b.spans) given_up

all_append : {A : Type 0} (P : A → Type 0) (xs ys : List A) → AllByRecursion P xs → AllByRecursion P ys → AllByRecursion P (xs ++ ys)
all_append P [] ys h k = k
all_append P (x ∷ xs) ys h k = (h.0, all_append P xs ys h.1 k)

taken_none : (names : List (List ℕ)) → TakenOf names [] [] []
taken_none names = record { taken = []; of_batches = tt; handed_are = refl; given_up = []; counted_are = refl; printed = refl; some = tt }

-- a batch was given up, and no line of it was taken
given_up_alone : (names : List (List ℕ)) (reason : Reason) (batch : List Arrival) → 0 < length batch → TakenOf names (counts reason batch) [] []
given_up_alone names reason batch some = record {
  taken = [];
  of_batches = tt;
  handed_are = refl;
  given_up = record { spans = batch; reason = reason; is_printed = false } ∷ [];
  counted_are = sym (append-nil (counts reason batch));
  printed = refl;
  some = (some, tt);
}

of_both : {A : Type 0} (is : A → Bool) (spans : A → List Arrival) (xs ys : List A) → map spans (filter is (xs ++ ys)) ≡ map spans (filter is xs) ++ map spans (filter is ys)
of_both is spans xs ys = ap (map spans) (filter-append is xs ys) ∙ map-append spans (filter is xs) (filter is ys)

taken_both : (names : List (List ℕ)) (c1 c2 : List DroppedSpan) (h1 h2 : List (List Arrival)) (l1 l2 : List (List ℕ)) → TakenOf names c1 h1 l1 → TakenOf names c2 h2 l2 → TakenOf names (c1 ++ c2) (h1 ++ h2) (l1 ++ l2)
taken_both names c1 c2 h1 h2 l1 l2 a b =
    let counted = λ (x : GivenUpBatch). counts x.reason x.spans in
    let refused = λ (x : TakenBatch). not x.is_handed in
    let spans = λ (x : TakenBatch). x.spans in
    let dropped = λ (x : GivenUpBatch). x.spans in
    let printed = λ (x : GivenUpBatch). x.is_printed in
    record {
      taken = a.taken ++ b.taken;
      of_batches = subst (λ (z : List (List Arrival)). AreLinesOf names z (l1 ++ l2)) (sym (map-append spans a.taken b.taken)) (lines_append names (spans_in a.taken) (spans_in b.taken) l1 l2 a.of_batches b.of_batches);
      handed_are = of_both (λ (x : TakenBatch). x.is_handed) spans a.taken b.taken
          ∙ ap (λ (z : List (List Arrival)). z ++ spans_in (filter (λ (x : TakenBatch). x.is_handed) b.taken)) a.handed_are
          ∙ ap (λ (z : List (List Arrival)). h1 ++ z) b.handed_are;
      given_up = a.given_up ++ b.given_up;
      counted_are = ap (λ (z : List DroppedSpan). z ++ c2) a.counted_are ∙ ap (λ (z : List DroppedSpan). flat_map counted a.given_up ++ z) b.counted_are
          ∙ sym (flat_map-append counted a.given_up b.given_up);
      printed = of_both refused spans a.taken b.taken
          ∙ ap (λ (z : List (List Arrival)). z ++ spans_in (filter refused b.taken)) a.printed
          ∙ ap (λ (z : List (List Arrival)). map dropped (filter printed a.given_up) ++ z) b.printed
          ∙ sym (of_both printed dropped a.given_up b.given_up);
      some = all_append (λ (x : GivenUpBatch). 0 < length x.spans) a.given_up b.given_up a.some b.some;
    }

some_spans : (n : ℕ) (batch : List Arrival) → 0 < n → n ≡ length batch → 0 < length batch
some_spans n batch some is = omega (arith, some, is)

abbrev printed_lines : List Handing → List (List ℕ)
printed_lines hands = handed_lines prints_refused hands

flush_taken : (names : List (List ℕ)) (policies : List (Option ℕ)) (batch : List Arrival) (answer : Flushed) (hands : List Handing) → AnswersFor batch answer → FlushHands (line_records names policies batch) answer hands → TakenOf names (dropped_by answer batch) (handed_by answer batch) (printed_lines hands)
flush_taken names policies batch Empty hands is h = subst (λ (z : List Handing). TakenOf names [] [] (printed_lines z)) (sym h) (taken_none names)
flush_taken names policies batch (Handed n) hands is h = subst (λ (z : List Handing). TakenOf names [] (batch ∷ []) (printed_lines z)) (sym h.2) (record {
  taken = record { spans = batch; is_handed = true } ∷ [];
  of_batches = (batch_line names policies batch h.0 h.1, tt);
  handed_are = refl;
  given_up = [];
  counted_are = refl;
  printed = refl;
  some = tt;
})
flush_taken names policies batch (BatchDropped n NoMemory) hands is h = subst (λ (z : List Handing). TakenOf names (counts NoMemory batch) [] (printed_lines z)) (sym h) (given_up_alone names NoMemory batch (some_spans n batch is.0 is.1))
flush_taken names policies batch (BatchDropped n ExporterDown) hands is (inl h) = subst (λ (z : List Handing). TakenOf names (counts ExporterDown batch) [] (printed_lines z)) (sym h.2) (given_up_alone names ExporterDown batch (some_spans n batch is.0 is.1))
flush_taken names policies batch (BatchDropped n ExporterDown) hands is (inr (inl h)) = subst (λ (z : List Handing). TakenOf names (counts ExporterDown batch) [] (printed_lines z)) (sym h) (given_up_alone names ExporterDown batch (some_spans n batch is.0 is.1))
flush_taken names policies batch (BatchDropped n ExporterDown) hands is (inr (inr h)) = subst (λ (z : List Handing). TakenOf names (counts ExporterDown batch) [] (printed_lines z)) (sym h.2) (record {
  taken = record { spans = batch; is_handed = false } ∷ [];
  of_batches = (batch_line names policies batch h.0 h.1, tt);
  handed_are = refl;
  given_up = record { spans = batch; reason = ExporterDown; is_printed = true } ∷ [];
  counted_are = sym (append-nil (counts ExporterDown batch));
  printed = refl;
  some = (some_spans n batch is.0 is.1, tt);
})
flush_taken names policies batch (BatchDropped n InvalidId) hands is h = absurd h
flush_taken names policies batch (BatchDropped n QueueFull) hands is h = absurd h
flush_taken names policies batch (BatchDropped n Evicted) hands is h = absurd h
flush_taken names policies batch (BatchDropped n NotSampled) hands is h = absurd h
flush_taken names policies batch (BatchDropped n LateNotSampled) hands is h = absurd h

pub call_taken : (names : List (List ℕ)) (policies : List (Option ℕ)) (batch : List Arrival) (calls : List (ℕ × ExporterCall)) (hands : List Handing) → AllByRecursion (λ (x : ℕ × ExporterCall). NotesNothing x.1) calls
    → Each (λ (b : FlushedBatch). AnswersFor b.spans b.answer) (batches_flushed batch (calls_of calls)) → CallsHand names policies batch (calls_of calls) hands
    → TakenOf names (counted_in batch calls) (handed_in batch calls) (printed_lines hands)
call_taken names policies batch [] hands quiet answers h = subst (λ (z : List Handing). TakenOf names [] [] (printed_lines z)) (sym h) (taken_none names)
call_taken names policies batch ((shard, pulled (ShippedSpan a policy) answer) ∷ calls) hands quiet answers h = call_taken names (policies ++ policy ∷ []) (batch ++ a ∷ []) calls hands quiet.1 answers h
call_taken names policies batch ((shard, pulled (ShippedEnd s) answer) ∷ calls) hands quiet answers h = call_taken names policies batch calls hands quiet.1 answers h
call_taken names policies batch ((shard, flushed answer) ∷ calls) hands quiet answers h =
    subst (λ (z : List (List ℕ)). TakenOf names (dropped_by answer batch ++ counted_in [] calls) (handed_by answer batch ++ handed_in [] calls) z) (sym (ap printed_lines h.2 ∙ hands_append names prints_refused h.0 h.1))
    (taken_both names (dropped_by answer batch) (counted_in [] calls) (handed_by answer batch) (handed_in [] calls) (printed_lines h.0) (printed_lines h.1) (flush_taken names policies batch answer h.0 answers.0 h.3) (call_taken names [] [] calls h.1 quiet.1 answers.1 h.4))
call_taken names policies batch ((shard, noted line answer) ∷ calls) hands quiet answers h = absurd quiet.0
