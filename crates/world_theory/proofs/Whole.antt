-- What every step keeps.
-- For the laws of the headline, `headline` and each of its parts.
use Rattle.std.proofs.Common.{ℕ, length}
use Rattle.world_theory.specs.World.{CoreConfig, World, new_world, settings}
use Rattle.world_theory.specs.Headline.{OfEachRun}
use Rattle.journal_theory.proofs.Notes.{HasRoom}
use Rattle.world_theory.proofs.Steps.{Stepped}
use Rattle.world_theory.proofs.OnePlace.{of_each_run, of_each_answered}
use Rattle.world_theory.proofs.AllAnswered.{AllAnswered}
use Rattle.world_theory.proofs.Order.{Ordered, ordered_new, ordered_step}
use Rattle.world_theory.proofs.Released.{ReleasingAt, releasing_new, releasing_step}
use Rattle.world_theory.proofs.Cause.{SourcedAt, sourced_new, sourced_step}
use Rattle.world_theory.proofs.RoutedOnce.{IsRoutedOnce, routed_once_new, routed_once_step}
use Rattle.world_theory.proofs.Marked.{AllMarked, marked_new, marked_step}
use Rattle.world_theory.proofs.Shipping.{AllShipped, shipped_new, shipped_step}
use Rattle.world_theory.proofs.EndsLast.{AllEnded, ended_new, ended_step}

-- all that holds of the worlds of a run
pub record Whole (c : CoreConfig) (w : World) : Type 0 where
  pub ordered : Ordered c w
  pub releasing : ReleasingAt c w
  pub sourced : SourcedAt c w
  pub once : IsRoutedOnce w
  pub marked : AllMarked (settings c w) w.shards
  pub shipped : AllShipped (settings c w) w.shards
  pub ended : AllEnded (length w.shards) w.lanes w.shards

whole_new : (c : CoreConfig) → HasRoom c.shard.num_traces → (lanes shards : ℕ) → Whole c (new_world lanes shards)
whole_new c room lanes shards = record {
  ordered = ordered_new c room lanes shards;
  releasing = releasing_new c room lanes shards;
  sourced = sourced_new c lanes shards;
  once = routed_once_new lanes shards;
  marked = marked_new (settings c (new_world lanes shards)) shards lanes;
  shipped = shipped_new (settings c (new_world lanes shards)) lanes shards;
  ended = ended_new lanes shards;
}

whole_step : (c : CoreConfig) → HasRoom c.shard.num_traces → (w next : World) → Stepped c w next → Whole c w → Whole c next
whole_step c room w next st h = record {
  ordered = ordered_step c room w next st h.ordered;
  releasing = releasing_step c room w next st h.releasing;
  sourced = sourced_step c room w next st h.sourced h.releasing;
  once = routed_once_step c w next st h.once;
  marked = marked_step c w next st h.marked;
  shipped = shipped_step c room w next st h.shipped;
  ended = ended_step c w next st h.ordered.lined.own h.ended;
}

-- what follows of it holds of every run
pub of_whole : (Q : CoreConfig → World → Type 0) → ((c : CoreConfig) → HasRoom c.shard.num_traces → (w : World) → Whole c w → Q c w) → OfEachRun Q
of_whole Q gives = of_each_run Whole Q whole_new whole_step gives

-- with the answers that each decision was given
pub of_whole_answered : (Q : CoreConfig → World → Type 0) → ((c : CoreConfig) → HasRoom c.shard.num_traces → (w : World) → Whole c w → AllAnswered (settings c w) w.shards → Q c w) → OfEachRun Q
of_whole_answered Q gives = of_each_answered Whole Q whole_new whole_step gives
