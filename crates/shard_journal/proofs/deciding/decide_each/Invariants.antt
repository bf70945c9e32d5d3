use Rattle.std.proofs.Common.{◌≡◌, take, reverse}
use Rattle.journal_theory.specs.Journal.{Notes, decisions_in_turn, after_decisions}
use Rattle.shard_journal.specs.Settings.{settings_of}
use Rattle.shard_journal.specs.Short.{short_notes}
use Rattle.shard_journal.proofs.deciding.decide_each.Given as goal

abbrev pub invariant-loop-i : goal.invariant-loop-i
invariant-loop-i l = (full : Notes) → l.fn.noted ≡ short_notes full → l.noted ≡ short_notes (after_decisions (decisions_in_turn (settings_of l.settings) (reverse l.past) (take l.i l.due) l.answers) full)
