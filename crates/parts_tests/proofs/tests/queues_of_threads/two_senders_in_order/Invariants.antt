use Rattle.std.proofs.Common.{false}
use Rattle.parts_tests.proofs.tests.queues_of_threads.two_senders_in_order.Given as goal

abbrev pub ghosts-two_senders : goal.ghosts-two_senders
ghosts-two_senders g a = record { capacity = a.capacity; waits = false }
