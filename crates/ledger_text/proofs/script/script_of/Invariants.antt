use Rattle.std.proofs.Common.{◌≤◌}
use Rattle.ledger_text.proofs.Scripts.{SoFar}
use Rattle.ledger_text.proofs.script.script_of.Given as goal

-- what makes a script of the requests that are left, behind the lines so far makes one of all
abbrev pub invariant-loop-request : goal.invariant-loop-request
invariant-loop-request l = record {
  within : l.left_out ≤ l.request-index;
  so_far : SoFar l.requests l.request-index l.lines.items l.left_out;
}
