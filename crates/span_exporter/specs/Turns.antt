-- When the exporter's thread flushes: each turn is a pop, and what was called behind it.
use Rattle.std.specs.Prelude.{◌≡◌, ℕ, ◌<◌, Bool, true, false, List, [], ◌∷◌, length, Option, Some, None}
use Rattle.std.specs.List.{AllByRecursion}
use Rattle.released_spans.specs.declared.shipment.Shipment.{Shipment}
use Rattle.lane_queue.specs.Ends.{ReceiverState, PopsAt, WasEmptyAt}
use Rattle.span_exporter.specs.declared.answer.Pulled.{Pulled}
use Rattle.span_exporter.specs.declared.answer.Pulled.TheVariants.{Added, AddedFull, Ended, Finished}
use Rattle.span_exporter.specs.declared.answer.Flushed.{Flushed}
use Rattle.span_exporter.specs.Calls.{ExporterCall, pulled, flushed}

pub data ExporterTurn : Type 0 where
  -- the pop gave nothing, and the batch was flushed
  idle : Flushed → ExporterTurn
  -- the pop gave this shipment of this shard, which was pulled with this answer; and the batch was flushed, or not
  took : (shard : ℕ) → Shipment → Pulled → Option Flushed → ExporterTurn

-- what was called in these turns, in order
abbrev pub calls_in : List ExporterTurn → List (ℕ × ExporterCall)
calls_in [] = []
calls_in (idle answer ∷ turns) = (0, flushed answer) ∷ calls_in turns
calls_in (took shard shipment answer None ∷ turns) = (shard, pulled shipment answer) ∷ calls_in turns
calls_in (took shard shipment answer (Some flush) ∷ turns) = (shard, pulled shipment answer) ∷ (0, flushed flush) ∷ calls_in turns

-- behind this answer the batch is flushed: it is full, or every shard has ended
abbrev pub is_due_behind : Pulled → Bool
is_due_behind Added = false
is_due_behind AddedFull = true
is_due_behind Ended = false
is_due_behind Finished = true

-- a shipment's turn flushes just where that is due
abbrev pub FlushesWhenDue : ExporterTurn → Type 0
FlushesWhenDue (idle answer) = Unit {0}
FlushesWhenDue (took shard shipment answer None) = is_due_behind answer ≡ false
FlushesWhenDue (took shard shipment answer (Some flush)) = is_due_behind answer ≡ true

-- what the turn's pop gave, with the number of the shard
abbrev pub given_in : ExporterTurn → Option (ℕ × Shipment)
given_in (idle answer) = None
given_in (took shard shipment answer flush) = Some (shard, shipment)

-- what the pops of these turns did, one after the other, where `gives` is what one pop does
abbrev pub PopsLead : {I : Type 0} → (gives : I → Option (ℕ × Shipment) → I → Type 0) → (old : I) → List ExporterTurn → (new : I) → Type 0
PopsLead gives old [] new = new ≡ old
PopsLead {I} gives old (turn ∷ turns) new = (between : I) × gives old (given_in turn) between × PopsLead gives between turns new

-- The calls were made in turns: the batch was flushed where a pop gave nothing, and behind a shipment that filled it or
-- was the last End, and nowhere else.
pub record InTurns {I : Type 0} (gives : I → Option (ℕ × Shipment) → I → Type 0) (old new : I) (calls : List (ℕ × ExporterCall)) : Type 0 where
  pub turns : List ExporterTurn
  pub makes : calls ≡ calls_in turns
  pub due : AllByRecursion FlushesWhenDue turns
  pub pops : PopsLead gives old turns new

-- what a pop of shards' queues does: where it gives nothing each queue was empty at a moment
abbrev pub Pops : (capacity : ℕ) → (old : ReceiverState Shipment) → Option (ℕ × Shipment) → (new : ReceiverState Shipment) → Type 0
Pops capacity old None new = (new ≡ old) × ((k : ℕ) → k < length old.ends → WasEmptyAt capacity old.ends k)
Pops capacity old (Some (shard, shipment)) new = PopsAt capacity shard shipment old new
