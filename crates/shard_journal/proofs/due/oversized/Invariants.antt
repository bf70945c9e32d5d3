use Rattle.std.proofs.Common.{◌≡◌, take, filter, reverse}
use Rattle.journal_theory.specs.Journal.{is_oversized}
use Rattle.shard_journal.specs.Settings.{settings_of}
use Rattle.shard_journal.proofs.due.oversized.Given as goal

abbrev pub invariant-loop-i : goal.invariant-loop-i
invariant-loop-i l = l.due.items ≡ filter (is_oversized (settings_of l.settings) (reverse l.past)) (take l.i l.waiting.items)
