use Rattle.std.proofs.Common.{◌≡◌, ◌++◌, take, drop}
use Rattle.std.specs.Prelude.{map}
use Rattle.lane_worker.specs.Ticking.{with_tick}
use Rattle.lane_worker.proofs.ticker.tick_all.Given as goal

abbrev pub invariant-loop-sender : goal.invariant-loop-sender
invariant-loop-sender g l = l.sender-items ≡ map (with_tick l.moment) (take l.sender-index l.fn.senders.items) ++ drop l.sender-index l.fn.senders.items
