use Rattle.std.proofs.Common.{◌≡◌, is_none, take, filter, reverse}
use Rattle.journal_theory.specs.Journal.{Opening, decided_as}
use Rattle.shard_journal.proofs.due.undecided.Given as goal

abbrev pub invariant-loop-i : goal.invariant-loop-i
invariant-loop-i l = l.waiting.items ≡ reverse (filter (λ (o : Opening). is_none (decided_as l.noted o.at)) (take l.i l.openings))
