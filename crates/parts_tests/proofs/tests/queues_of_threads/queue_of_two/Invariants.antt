use Rattle.std.proofs.Common.{false}
use Rattle.parts_tests.proofs.tests.queues_of_threads.queue_of_two.Given as goal

abbrev pub ghosts-pushed_and_popped : goal.ghosts-pushed_and_popped
ghosts-pushed_and_popped g a = record { capacity = a.capacity; waits = false }
