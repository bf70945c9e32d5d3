-- How many spans were received, and how many have each end.
use Rattle.std.specs.Prelude.{◌≡◌, ℕ, ◌+◌, List, [], ◌∷◌, length, flat_map}
use Rattle.std.specs.List.{sum_by}
use Rattle.otlp_types.specs.declared.arrival.Arrival.{Arrival}
use Rattle.span_ids.specs.declared.outcome.Reason.{Reason}
use Rattle.span_ids.specs.declared.outcome.Reason.TheVariants.{InvalidId, QueueFull, NoMemory, Evicted, NotSampled, LateNotSampled, ExporterDown}
use Rattle.journal_theory.specs.Fate.{under}
use Rattle.world_theory.specs.World.{CoreConfig, CoreLane, World}
use Rattle.world_theory.specs.Places.{waiting, IsClosed}
use Rattle.world_theory.specs.Headline.{handed_spans}

-- the seven reasons
abbrev pub reasons : List Reason
reasons = InvalidId ∷ QueueFull ∷ NoMemory ∷ Evicted ∷ NotSampled ∷ LateNotSampled ∷ ExporterDown ∷ []

-- what all lanes received
abbrev pub received_spans : World → List Arrival
received_spans w = flat_map (λ (l : CoreLane). l.received) w.lanes

-- how many spans are counted under a reason
abbrev pub counted_under_reason : World → Reason → ℕ
counted_under_reason w reason = length (under reason w.counted)

-- as many were received as wait, were handed over, or are counted
abbrev pub AddsUp : CoreConfig → World → Type 0
AddsUp c w = length (received_spans w) ≡ length (waiting c w) + (length (handed_spans w) + sum_by (counted_under_reason w) reasons)

-- and so it is in a closed world, where none waits
abbrev pub AddsUpClosed : CoreConfig → World → Type 0
AddsUpClosed c w = IsClosed c w → length (received_spans w) ≡ length (handed_spans w) + sum_by (counted_under_reason w) reasons
