use Rattle.std.proofs.Common.{◌≡◌, ◌+◌, length}
use Rattle.world_theory.specs.Step.{arrivals}
use Rattle.span_world.proofs.lane.arrivals.Given as goal

abbrev pub invariant-loop-rec : goal.invariant-loop-rec
invariant-loop-rec l = record {
  new : l.new.items ≡ arrivals l.conn l.first l.moment l.yielded;
  number : l.number ≡ l.first + length l.yielded;
}
