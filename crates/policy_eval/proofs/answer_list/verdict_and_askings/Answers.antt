-- The verdict by a list of answers.
-- For the clauses of `verdict_and_askings`.
use Rattle.std.proofs.Common.{◌≡◌, ◌+◌, List, [], drop, sym, subst, ◌∙◌, arith}
use Rattle.std.proofs.lemmas.Grind.{common_steps}
use Rattle.policy_tree.specs.declared.policy.Policy.{Policy}
use Rattle.policy_tree.specs.Tree.{Policies, one_more}
use Rattle.policy_tree.specs.Meaning.{meaning, policy_meaning}
use Rattle.policy_eval.specs.declared.answer.AnswersSeen.{AnswersSeen}
use Rattle.policy_eval.proofs.Turns.{next_part}
use Rattle.policy_eval.proofs.Known.{KnowsIn, known-at}
use Rattle.policy_eval.proofs.GivenTurns.{Taken, AtTop, at_top-more, at_top-last}
use Rattle.policy_eval.proofs.answer_list.verdict_and_askings.Goals as goal

pub loop-policy-preserved : goal.loop-policy-preserved
loop-policy-preserved c =
    let items = c.as_slice-policy-items.result.now in
    let i = c.loop-policy.policy-index in
    let p = c.policy-item.result in
    let bs = c.args.answers.now in
    let spans = c.args.spans.now in
    let all = meaning c.args.policies.now in
    let rest = meaning (drop (i + 1) items) in
    let next = c.loop-policy.asked in
    let T = λ (r : Policies). AtTop bs spans all r next c.loop-policy.seen in
    let here : T (one_more (policy_meaning p) rest) = subst T (next_part items i p c.loop-policy-test.true c.policy-item.is) c.loop-policy.invariant.0 in
    let taken : Taken bs spans (policy_meaning p) next c.answer_given-given.result.1 c.answer_given-given.result.0 = record { answer = c.answer_given-given.ensures.answer; asked = c.answer_given-given.ensures.asked } in
    let W = λ (x : AnswersSeen). AtTop bs spans all rest c.answer_given-given.result.1 x in
    let known = known-at c.loop-policy.searches items i p c.loop-policy-test.true c.policy-item.is c.loop-policy.invariant.1 in
    let same = c.answer_given-given.ensures.same in
    (subst W (sym c.with-seen.ensures) (at_top-more bs spans all (policy_meaning p) rest next c.answer_given-given.result.1 c.loop-policy.seen c.answer_given-given.result.0 here taken), subst (λ s. KnowsIn s rest) (sym same) known.1, same ∙ c.loop-policy.invariant.2)

pub returns : goal.returns
returns c =
    let items = c.as_slice-policy-items.result.now in
    let bs = c.args.answers.now in
    let spans = c.args.spans.now in
    let all = meaning c.args.policies.now in
    let T = λ (ps : List Policy). AtTop bs spans all (meaning ps) c.loop-policy.asked c.loop-policy.seen in
    let none : drop c.loop-policy.policy-index items ≡ [] = grind (arith, common_steps) in
    let last = at_top-last bs spans all c.loop-policy.asked c.loop-policy.seen (subst T none c.loop-policy.invariant.0) in
    record { verdict = c.verdict.ensures ∙ last.0; askings = last.1; same = c.loop-policy.invariant.2 }
