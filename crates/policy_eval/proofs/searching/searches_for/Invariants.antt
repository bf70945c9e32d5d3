use Rattle.std.proofs.Common.{◌≡◌, [], drop}
use Rattle.policy_eval.proofs.Known.{gathered}
use Rattle.policy_eval.proofs.searching.searches_for.Given as goal

abbrev pub invariant-loop-expression : goal.invariant-loop-expression
invariant-loop-expression l = gathered l.searches (drop l.expression-index l.expression-items) ≡ gathered ([], []) l.expression-items
