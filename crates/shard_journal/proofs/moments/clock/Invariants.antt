use Rattle.std.proofs.Common.{◌≡◌, take, reverse}
use Rattle.journal_theory.specs.Journal.{clock}
use Rattle.shard_journal.proofs.moments.clock.Given as goal

abbrev pub invariant-loop-entry : goal.invariant-loop-entry
invariant-loop-entry l = l.greatest ≡ clock (reverse (take l.entry-index l.journal))
