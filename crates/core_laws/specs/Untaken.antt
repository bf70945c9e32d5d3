-- What is counted of received spans that no shard took.
use Rattle.std.specs.Prelude.{◌≡◌, Bool, not, ◌&&◌}
use Rattle.std.specs.List.{list_any}
use Rattle.otlp_types.specs.declared.arrival.Arrival.{Arrival}
use Rattle.span_ids.specs.declared.outcome.Reason.{Reason}
use Rattle.span_ids.specs.declared.outcome.Reason.TheVariants.{InvalidId, QueueFull}
use Rattle.world_theory.specs.World.{CoreConfig, World}
use Rattle.world_theory.specs.Step.{has_ids}
use Rattle.world_theory.specs.Places.{places, IsClosed}
use Rattle.world_theory.specs.Headline.{WasReceived, is_under, was_taken}

-- the span is counted under this reason
abbrev pub is_counted_as : CoreConfig → World → Reason → Arrival → Bool
is_counted_as c w reason a = list_any (is_under reason) (places c w a.key)

-- a span is counted for its ids exactly where these are invalid, and for a full queue exactly where they are valid and
-- no shard took it
pub record IsCountedUntaken (c : CoreConfig) (w : World) (a : Arrival) : Type 0 where
  pub invalid : is_counted_as c w InvalidId a ≡ not (has_ids a)
  pub full : is_counted_as c w QueueFull a ≡ has_ids a && not (was_taken w a.key)

-- in a closed world each received span is counted so
abbrev pub UntakenIsCounted : CoreConfig → World → Type 0
UntakenIsCounted c w = IsClosed c w → (a : Arrival) → WasReceived w a → IsCountedUntaken c w a
