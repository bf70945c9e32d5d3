use Rattle.std.proofs.Common.{◌≡◌, ◌≤◌}
use Rattle.lane_queue.specs.Ends.{queues}
use Rattle.parts_tests.proofs.tests.queues_of_threads.pop_all.Given as goal

abbrev pub invariant-loop : goal.invariant-loop
invariant-loop g l = (queues l.receiver.ends ≡ queues l.fn.receiver.ends) × (l.popped ≤ 2000)
