use Rattle.std.proofs.Common.{◌≡◌, reverse}
use Rattle.journal_theory.specs.Journal.{have_ended}
use Rattle.shard_journal.proofs.moments.have_ended.Given as goal

abbrev pub invariant-loop-sender : goal.invariant-loop-sender
invariant-loop-sender l = l.all ≡ have_ended (reverse l.journal) l.sender
