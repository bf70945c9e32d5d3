use Rattle.std.proofs.Common.{false}
use Rattle.parts_tests.proofs.tests.queues_of_threads.greatest_queue_fills.Given as goal

abbrev pub ghosts-fills : goal.ghosts-fills
ghosts-fills g a = record { capacity = a.capacity; waits = false }
