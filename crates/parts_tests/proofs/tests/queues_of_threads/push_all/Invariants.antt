use Rattle.std.proofs.Common.{◌≡◌}
use Rattle.parts_tests.proofs.tests.queues_of_threads.push_all.Given as goal

abbrev pub invariant-loop-item : goal.invariant-loop-item
invariant-loop-item g l = l.sender.queue ≡ l.fn.sender.queue
