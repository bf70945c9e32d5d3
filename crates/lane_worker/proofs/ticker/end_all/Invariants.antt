use Rattle.std.proofs.Common.{◌≡◌, ◌++◌, take, drop}
use Rattle.std.specs.Prelude.{map}
use Rattle.lane_worker.specs.Serving.{with_end}
use Rattle.lane_worker.proofs.ticker.end_all.Given as goal

abbrev pub invariant-loop-sender : goal.invariant-loop-sender
invariant-loop-sender g l = l.sender-items ≡ map (with_end l.number) (take l.sender-index l.fn.senders.items) ++ drop l.sender-index l.fn.senders.items
