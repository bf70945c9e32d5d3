use Rattle.std.proofs.Common.{◌≡◌, take, reverse}
use Rattle.journal_theory.specs.Journal.{spans_since}
use Rattle.shard_journal.proofs.spans.spans_since.Given as goal

abbrev pub invariant-loop-at : goal.invariant-loop-at
invariant-loop-at l = l.spans.items ≡ spans_since (reverse (take l.at l.journal)) l.opening
