use Rattle.std.proofs.Common.{◌≡◌, ◌+◌, ◌≤◌, true, length}
use Rattle.std.specs.Prelude.{filter}
use Rattle.lane_seq.specs.Numbers.{is_invalid}
use Rattle.lane_seq.specs.Pushes.{PushesAll}
use Rattle.lane_seq.proofs.pushing.push_all.Given as goal

abbrev pub invariant-loop-arrival : goal.invariant-loop-arrival
invariant-loop-arrival g l = record {
  pushed : PushesAll g.P.Port.takes g.P.Port.refuses l.yielded l.fn.ports l.full l.ports;
  few : length (filter is_invalid l.yielded) + l.full ≤ length l.yielded;
  waiting : g.P.Port.waits ≡ true → l.full ≡ 0;
}
