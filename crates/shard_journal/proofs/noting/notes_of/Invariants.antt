use Rattle.std.proofs.Common.{◌≡◌, take, reverse}
use Rattle.journal_theory.specs.Journal.{notes}
use Rattle.shard_journal.specs.Settings.{settings_of}
use Rattle.shard_journal.specs.Short.{short_notes}
use Rattle.shard_journal.proofs.noting.notes_of.Given as goal

abbrev pub invariant-loop-at : goal.invariant-loop-at
invariant-loop-at l = l.noted ≡ short_notes (notes (settings_of l.settings) (reverse (take l.at l.journal)))
