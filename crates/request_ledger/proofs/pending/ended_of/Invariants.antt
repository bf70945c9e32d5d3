-- The ends that are left take the flags to where all ends take them.
use Rattle.std.proofs.Common.{◌≡◌, length, drop}
use Rattle.request_ledger.specs.Pending.{HaveEnded, after_ends, ended_spans}
use Rattle.request_ledger.proofs.pending.ended_of.Given as goal

abbrev pub invariant-loop-end : goal.invariant-loop-end
invariant-loop-end l = record {
  whole : after_ends l.spans l.ended.items (drop l.end-index l.ends) ≡ ended_spans l.spans l.ends;
  same : length l.ended.items ≡ length l.spans;
  front : HaveEnded l.first l.ended.items;
}
