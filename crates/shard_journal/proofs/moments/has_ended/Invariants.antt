use Rattle.std.proofs.Common.{◌≡◌, take, reverse}
use Rattle.journal_theory.specs.Journal.{has_ended}
use Rattle.shard_journal.proofs.moments.has_ended.Given as goal

abbrev pub invariant-loop-entry : goal.invariant-loop-entry
invariant-loop-entry l = l.ended ≡ has_ended (reverse (take l.entry-index l.journal)) l.sender
