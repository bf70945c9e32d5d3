use Rattle.std.proofs.Common.{◌≡◌, take, reverse}
use Rattle.journal_theory.specs.Journal.{clock, is_root_past}
use Rattle.shard_journal.proofs.due.is_root_past.Given as goal

abbrev pub invariant-loop-at : goal.invariant-loop-at
invariant-loop-at l = (l.clock ≡ clock (reverse (take l.at l.journal))) × (l.found ≡ is_root_past l.root_wait l.now (reverse (take l.at l.journal)) l.opening)
