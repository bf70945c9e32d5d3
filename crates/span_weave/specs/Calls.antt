-- Calls on an exporter, as acts of the weave.
use Rattle.std.specs.Prelude.{◌≡◌, ℕ, List, [], ◌∷◌, Some}
use Rattle.std.specs.List.{flat_map, AllByRecursion}
use Rattle.otlp_types.specs.declared.arrival.Arrival.{Arrival}
use Rattle.journal_theory.specs.Fate.{DroppedSpan, counts}
use Rattle.span_exporter.specs.Exports.{ExporterState}
use Rattle.span_exporter.specs.Calls.{ExporterCall, CallsLead, FlushedBatch, batches_flushed}
use Rattle.span_exporter.specs.Work.{NotesNothing, calls_of, shipments_in}
use Rattle.span_exporter.specs.declared.answer.Flushed.{Flushed}
use Rattle.span_exporter.specs.declared.answer.Flushed.TheVariants.{Handed, BatchDropped, Empty}
use Rattle.world_theory.specs.World.{CoreConfig}
use Rattle.span_weave.specs.Threads.{ExporterAct, pulls, ExporterMade, after_acts}
use Rattle.span_weave.specs.Popped.{spans_popped}

-- the batch, where it was handed over
abbrev pub handed_by : Flushed → List Arrival → List (List Arrival)
handed_by (Handed n) batch = batch ∷ []
handed_by (BatchDropped n reason) batch = []
handed_by Empty batch = []

-- its keys, where it was given up
abbrev pub counted_by : Flushed → List Arrival → List DroppedSpan
counted_by (Handed n) batch = []
counted_by (BatchDropped n reason) batch = counts reason batch
counted_by Empty batch = []

-- the batches that the calls handed over, in order
abbrev pub handed_in : (open_batch : List Arrival) → List (ℕ × ExporterCall) → List (List Arrival)
handed_in open_batch calls = flat_map (λ (b : FlushedBatch). handed_by b.answer b.spans) (batches_flushed open_batch (calls_of calls))

-- what they counted, in order
abbrev pub counted_in : (open_batch : List Arrival) → List (ℕ × ExporterCall) → List DroppedSpan
counted_in open_batch calls = flat_map (λ (b : FlushedBatch). counted_by b.answer b.spans) (batches_flushed open_batch (calls_of calls))

-- what an exporter holds, before it handed over or counted anything
abbrev pub export_of : ExporterState → ExporterMade
export_of e = record { batch = e.batch; handed = []; counted = []; down = e.sink.is_down }

-- acts that did what the calls did
pub record ActsOf (c : CoreConfig) (old : ExporterState) (calls : List (ℕ × ExporterCall)) (new : ExporterState) : Type 0 where
  pub acts : List ExporterAct
  pub end : ExporterMade
  pub leads : after_acts c (export_of old) acts ≡ Some end
  pub pulls_are : pulls acts ≡ spans_popped (shipments_in calls)
  pub batch : end.batch ≡ new.batch
  pub down : end.down ≡ new.sink.is_down
  pub handed : end.handed ≡ handed_in old.batch calls
  pub counted : end.counted ≡ counted_in old.batch calls

-- the calls on an exporter of this batch size, with such a destination, are acts
abbrev pub CallsAreActs : Type 0
CallsAreActs = (c : CoreConfig) (old new : ExporterState) (calls : List (ℕ × ExporterCall)) → old.size ≡ c.batch_size → old.manner ≡ c.manner → AllByRecursion (λ (x : ℕ × ExporterCall). NotesNothing x.1) calls
    → CallsLead old (calls_of calls) new → ActsOf c old calls new
