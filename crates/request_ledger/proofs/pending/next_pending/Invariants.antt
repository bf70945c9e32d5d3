-- All that were looked at have ended.
use Rattle.request_ledger.specs.Pending.{HaveEnded}
use Rattle.request_ledger.proofs.pending.next_pending.Given as goal

abbrev pub invariant-loop-i : goal.invariant-loop-i
invariant-loop-i l = HaveEnded l.i l.ended
