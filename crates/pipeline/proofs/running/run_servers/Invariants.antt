-- How many items each queue may hold, and whether lanes wait for room in theirs; the shards' pushes are no lane's.
-- For the call of run_in in run_servers.
use Rattle.std.proofs.Common.{false}
use Rattle.pipeline.proofs.running.run_servers.Given as goal

abbrev pub ghosts-run_in-QueueRoom-Room : goal.ghosts-run_in-QueueRoom-Room
ghosts-run_in-QueueRoom-Room g a = record { capacity = a.config.now.queue_capacity; waits = a.config.now.waits_for_room }

abbrev pub ghosts-run_in-ExportRoom-Room : goal.ghosts-run_in-ExportRoom-Room
ghosts-run_in-ExportRoom-Room g a = record { capacity = a.config.now.export_capacity; waits = false }
