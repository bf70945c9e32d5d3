use Rattle.std.proofs.Common.{◌≡◌, ◌++◌, Some, map, length}
use Rattle.std.specs.Vec.Iter.{into_iter_items}
use Rattle.world_theory.specs.Step.{run}
use Rattle.span_world.specs.Core.{config_of, with_senders}
use Rattle.span_world.specs.Answers.{the_step}
use Rattle.span_world.proofs.world.World.replay.Given as goal

abbrev pub invariant-loop-step : goal.invariant-loop-step
invariant-loop-step l = record {
  place : l.place ≡ length l.yielded;
  config : l.world.config ≡ with_senders l.lanes l.fn.config;
  run : run (config_of l.fn.config) l.lanes l.shards (map the_step l.yielded) ≡ Some l.world.world;
  all : l.fn.steps.items ≡ l.yielded ++ into_iter_items l.step-iterator;
}
