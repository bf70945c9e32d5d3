-- What was counted so far, and what is left to count, are the whole.
use Rattle.std.proofs.Common.{◌≡◌, ◌+◌, ◌≤◌, drop}
use Rattle.request_ledger.specs.Pending.{count_may_end}
use Rattle.request_ledger.proofs.pending.count_may_end.Given as goal

abbrev pub invariant-loop-i : goal.invariant-loop-i
invariant-loop-i l = (l.count + count_may_end l.end (drop l.i l.spans) (drop l.i l.ended) ≡ count_may_end l.end l.spans l.ended) × (l.count ≤ l.i)
