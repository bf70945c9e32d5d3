use Rattle.std.proofs.Common.{◌≡◌, ◌≤◌, length}
use Rattle.policy_eval.specs.TraceState.{has_member}
use Rattle.policy_eval.proofs.trace_state.has_member.Given as goal

abbrev pub invariant-members : goal.invariant-members
invariant-members l = (has_member l.key l.values l.trace_state ≡ has_member l.key l.values l.rest) × (length l.rest ≤ length l.trace_state)

abbrev pub decreases-members : goal.decreases-members
decreases-members l = length l.rest
