use Rattle.std.proofs.Common.{◌≡◌, [], drop, arith}
use Rattle.std.proofs.lemmas.Grind.{common_steps}
use Rattle.policy_tree.specs.Expressions.{expressions_in}
use Rattle.policy_tree.specs.Meaning.{meaning}
use Rattle.policy_eval.proofs.Known.{gathered, gathered-known}
use Rattle.policy_eval.proofs.searching.searches_for.Goals as goal

pub returns : goal.returns
returns c =
    let expressions = c.as_slice-expression-items.result.now in
    let none : drop c.loop-expression.expression-index expressions ≡ [] = grind (arith, common_steps) in
    let all : c.loop-expression.searches ≡ gathered ([], []) expressions = grind (arith, common_steps, none, c.loop-expression.invariant) in
    rw (all, c.as_slice-expression-items.ensures, c.in_ok-expressions.ensures) (gathered-known (expressions_in (meaning c.args.policies.now)))
