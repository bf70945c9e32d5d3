-- What the exporter's thread did.
use Rattle.std.specs.Prelude.{◌≡◌, ℕ, ◌<◌, ◌==◌, Bool, true, if◌then◌else◌, List, [], ◌∷◌, length, map}
use Rattle.std.specs.List.{All, AllByRecursion, flat_map, sum_by, list_any}
use Rattle.released_spans.specs.declared.shipment.Shipment.{Shipment}
use Rattle.released_spans.specs.Shipping.{is_shipped_end}
use Rattle.drop_ledger.specs.declared.count.Count.{Count}
use Rattle.drop_ledger.specs.declared.count.Count.TheVariants.{Handed as HandedOver, Dropped}
use Rattle.drop_ledger.specs.Places.{place_of, TallyState, Tallies}
use Rattle.lane_queue.specs.Ends.{ReceiverState}
use Rattle.lane_queue.specs.Merges.{IsMergeOf}
use Rattle.span_exporter.specs.declared.answer.Flushed.{Flushed}
use Rattle.span_exporter.specs.declared.answer.Flushed.TheVariants.{Handed, BatchDropped, Empty}
use Rattle.span_exporter.specs.Exports.{ExporterState}
use Rattle.span_exporter.specs.Calls.{ExporterCall, pulled, flushed, noted, CallsLead, spans_pulled, FlushedBatch, batches_flushed, AnswersFor}

-- the calls
abbrev pub calls_of : List (ℕ × ExporterCall) → List ExporterCall
calls_of calls = map (λ (x : ℕ × ExporterCall). x.1) calls

-- the shipments of calls, where a call that pulls one stands with the number of its shard
abbrev pub shipments_in : List (ℕ × ExporterCall) → List (ℕ × Shipment)
shipments_in [] = []
shipments_in ((shard, pulled shipment answer) ∷ rest) = (shard, shipment) ∷ shipments_in rest
shipments_in ((shard, flushed answer) ∷ rest) = shipments_in rest
shipments_in ((shard, noted line answer) ∷ rest) = shipments_in rest

-- the call notes no line of its own
abbrev pub NotesNothing : ExporterCall → Type 0
NotesNothing (pulled shipment answer) = Unit {0}
NotesNothing (flushed answer) = Unit {0}
NotesNothing (noted line answer) = ⊥

-- the shard's End is among the shipments
abbrev pub has_ended : List (ℕ × Shipment) → (shard : ℕ) → Bool
has_ended shipments shard = list_any (λ (x : ℕ × Shipment). is_shipped_end shard x.1) shipments

-- how many of the spans of a batch, of which a flush answered so, are counted under a count
abbrev pub counted_by : Flushed → (spans : ℕ) → Count → ℕ
counted_by (Handed n) spans count = if place_of HandedOver == place_of count then spans else 0
counted_by (BatchDropped n reason) spans count = if place_of (Dropped reason) == place_of count then spans else 0
counted_by Empty spans count = 0

-- how many spans of flushed batches are counted under a count
abbrev pub counted_in : List FlushedBatch → Count → ℕ
counted_in batches count = sum_by (λ (b : FlushedBatch). counted_by b.answer (length b.spans) count) batches

-- An exporter with an empty batch, of whose shards none had ended, was called so, and ended with this exporter and
-- receiver.
pub record ExporterWorks (old new : ExporterState) (receiver : ReceiverState Shipment) (before after : TallyState) (calls : List (ℕ × ExporterCall)) : Type 0 where
  -- what the calls did
  pub leads : CallsLead old (calls_of calls) new
  pub no_notes : AllByRecursion (λ (x : ℕ × ExporterCall). NotesNothing x.1) calls
  -- what they pulled is what was popped from each shard's queue, in order
  pub of_queues : IsMergeOf receiver.ends (shipments_in calls)
  -- every shard's End is among that
  pub ended : (shard : ℕ) → shard < length old.ends → has_ended (shipments_in calls) shard ≡ true
  -- its spans are, in order, those of the flushed batches, each handed over whole or given up whole, and none is left
  pub in_order : spans_pulled (calls_of calls) ≡ flat_map (λ b. b.spans) (batches_flushed [] (calls_of calls))
  pub answered : All (λ b. AnswersFor b.spans b.answer) (batches_flushed [] (calls_of calls))
  pub none_left : new.batch ≡ []
  -- what was counted is how many spans were handed over and given up
  pub counted : Tallies (counted_in (batches_flushed [] (calls_of calls))) before after

-- The same wherever the shipments were popped.
abbrev pub WorksWherever : (old new : ExporterState) → (before after : TallyState) → (calls : List (ℕ × ExporterCall)) → Type 0
WorksWherever old new before after calls = (receiver : ReceiverState Shipment) → IsMergeOf receiver.ends (shipments_in calls) → ExporterWorks old new receiver before after calls
