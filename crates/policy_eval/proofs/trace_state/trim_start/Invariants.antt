use Rattle.std.proofs.Common.{◌≡◌, length}
use Rattle.policy_eval.specs.TraceState.{skip_blank}
use Rattle.policy_eval.proofs.trace_state.trim_start.Given as goal

abbrev pub invariant-loop-text : goal.invariant-loop-text
invariant-loop-text l = skip_blank l.text ≡ skip_blank l.fn.text

abbrev pub decreases-loop-text : goal.decreases-loop-text
decreases-loop-text l = length l.text
