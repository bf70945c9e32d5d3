use Rattle.std.proofs.Common.{◌≡◌, ◌≤◌, length, take}
use Rattle.decision_cache.specs.Touches.{last_touched}
use Rattle.shard_journal.proofs.noted.count_touched.Given as goal

abbrev pub invariant-loop-i : goal.invariant-loop-i
invariant-loop-i l = (l.count ≡ length (last_touched l.verdict (take l.i l.touches))) × (l.count ≤ l.i)
