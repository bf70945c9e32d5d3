use Rattle.std.proofs.Common.{◌≡◌, ◌++◌, ◌≤◌, length, vec_capacity, vec_len}
use Rattle.std.specs.Prelude.{map}
use Rattle.lane_worker.specs.Serving.{with_end}
use Rattle.lane_worker.proofs.lane_worker.end_all.Given as goal

abbrev pub invariant-loop-port : goal.invariant-loop-port
invariant-loop-port g l = (l.yielded ++ l.port-iterator.rest.items ≡ l.fn.ports.items) × (l.senders.items ≡ map (with_end l.number) l.yielded)
    × (length l.fn.ports.items ≤ vec_capacity l.senders)
