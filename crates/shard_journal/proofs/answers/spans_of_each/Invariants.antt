use Rattle.std.proofs.Common.{◌≡◌, map, take, reverse}
use Rattle.journal_theory.specs.Journal.{spans_since}
use Rattle.shard_journal.proofs.answers.spans_of_each.Given as goal

abbrev pub invariant-loop-opening : goal.invariant-loop-opening
invariant-loop-opening l = l.spans.items ≡ map (spans_since (reverse l.journal)) (take l.opening-index l.openings)
