use Rattle.std.proofs.Common.{◌≡◌, drop}
use Rattle.journal_entry.specs.Reading.{decisions_at}
use Rattle.journal_entry.specs.Seen.{behind}
use Rattle.journal_entry.proofs.answers.decisions_at.Given as goal

abbrev pub invariant-loop-i : goal.invariant-loop-i
invariant-loop-i l = decisions_at l.bytes ≡ behind l.decisions l.answers (decisions_at (drop l.i l.bytes))
