-- The flags so far, and those that the rest takes where so many are left, are the whole.
use Rattle.std.proofs.Common.{◌≡◌, ◌++◌, take, drop}
use Rattle.request_ledger.specs.Pending.{HaveEnded, with_oldest}
use Rattle.request_ledger.proofs.pending.end_oldest.Given as goal

abbrev pub invariant-loop-i : goal.invariant-loop-i
invariant-loop-i l = record {
  whole : take l.i l.ended ++ with_oldest l.end l.left (drop l.i l.spans) (drop l.i l.ended) ≡ with_oldest l.end l.n l.spans l.initial.ended;
  front : HaveEnded l.first l.ended;
}
