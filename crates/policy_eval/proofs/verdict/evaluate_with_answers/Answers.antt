-- The verdict of the policies, which of them decides, and what each answers.
-- For the clauses `evaluates` and `keeps` of `evaluate_with_answers`.
use Rattle.std.proofs.Common.{◌≡◌, ℕ, ◌+◌, ◌/◌, ◌≤◌, List, [], drop, rules, refl, sym, subst, ◌∙◌, arith}
use Rattle.std.proofs.lemmas.Grind.{common_steps}
use Rattle.policy_tree.specs.declared.policy.Policy.{Policy}
use Rattle.policy_tree.specs.Tree.{Policies, one_more, nodes, nodes_in}
use Rattle.policy_tree.specs.Meaning.{meaning, policy_meaning}
use Rattle.policy_eval.specs.Meaning.{none_seen, none_first, first_with, seen_with}
use Rattle.policy_eval.specs.declared.answer.Answer.{Answer}
use Rattle.policy_eval.specs.declared.answer.AnswersSeen.{AnswersSeen}
use Rattle.policy_eval.specs.declared.decider.Firsts.{Firsts}
use Rattle.policy_eval.proofs.Turns.{Top, top-first, top-more, top-last, next_part, counted_nodes, some-nodes}
use Rattle.policy_eval.proofs.Known.{KnowsIn, known-at}
use Rattle.policy_eval.proofs.verdict.evaluate_with_answers.Goals as goal

pub loop-place-init : goal.loop-place-init
loop-place-init g c =
    let S = g.row.L.Denot in
    let H = g.L.Limiter.has_node in
    let A = g.L.Limiter.asks in
    let s0 = c.args.limiter.now in
    let all = meaning c.args.policies.now in
    let few : nodes_in all ≤ 64 = search rules in
    let T = λ (r : Policies) (seen : AnswersSeen) (firsts : Firsts). Top S H A s0 all (c.args.now / 1000) c.args.spans.now s0 r 0 seen 0 firsts c.new-answers.result.items in
    let N = λ (told : List Answer). Top S H A s0 all (c.args.now / 1000) c.args.spans.now s0 all 0 none_seen 0 none_first told in
    let first : T all none_seen none_first = subst N (sym c.new-answers.ensures) (top-first S H A s0 all (c.args.now / 1000) c.args.spans.now few c.requires.nodes) in
    let P = λ (seen : AnswersSeen). T all seen none_first in
    let F = λ (firsts : Firsts). T all c.none-seen.result firsts in
    let Q = λ (items : List Policy). T (meaning items) c.none-seen.result c.none-firsts.result in
    (subst Q (sym c.as_slice-all.ensures.policies) (subst F (sym c.none-firsts.ensures) (subst P (sym c.none-seen.ensures) first)), subst (λ (items : List Policy). KnowsIn c.args.searches.now (meaning items)) (sym c.as_slice-all.ensures.policies) c.requires.expressions, refl)

pub loop-place-preserved : goal.loop-place-preserved
loop-place-preserved g c =
    let items = c.as_slice-all.result.now in
    let i = c.loop-place.place in
    let p = c.index-all-place.result in
    let S = g.row.L.Denot in
    let H = g.L.Limiter.has_node in
    let A = g.L.Limiter.asks in
    let s0 = c.args.limiter.now in
    let s = c.loop-place.limiter in
    let t = c.answer-given.new.limiter in
    let second = c.args.now / 1000 in
    let spans = c.args.spans.now in
    let all = meaning c.args.policies.now in
    let rest = meaning (drop (i + 1) items) in
    let next = c.loop-place.next in
    let place = c.loop-place.place in
    let firsts = c.loop-place.firsts in
    let told = c.loop-place.answers.items in
    let T = λ (r : Policies). Top S H A s0 all second spans s r next c.loop-place.seen place firsts told in
    let here : T (one_more (policy_meaning p) rest) = subst T (next_part items i p c.loop-place-test.true c.index-all-place.is) c.loop-place.invariant.0 in
    let N = λ (k : ℕ). Top S H A s0 all second spans t rest (next + k) c.with-seen.result (place + 1) c.with-firsts.result c.push.new.self.items in
    let F = λ (f : Firsts). Top S H A s0 all second spans t rest (next + nodes (policy_meaning p)) c.with-seen.result (place + 1) f c.push.new.self.items in
    let W = λ (x : AnswersSeen). Top S H A s0 all second spans t rest (next + nodes (policy_meaning p)) x (place + 1) (first_with c.answer-given.result place firsts) c.push.new.self.items in
    let M = λ (more : List Answer). Top S H A s0 all second spans t rest (next + nodes (policy_meaning p)) (seen_with c.answer-given.result c.loop-place.seen) (place + 1) (first_with c.answer-given.result place firsts) more in
    let few : nodes (policy_meaning p) ≤ 64 = omega (arith, here.counted, here.within) in
    let count : c.count.result ≡ nodes (policy_meaning p) = c.count.ensures ∙ counted_nodes (nodes (policy_meaning p)) few in
    let known = known-at c.loop-place.searches items i p c.loop-place-test.true c.index-all-place.is c.loop-place.invariant.1 in
    let same = c.answer-given.ensures.same in
    (subst N (sym count) (subst F (sym c.with-firsts.ensures) (subst W (sym c.with-seen.ensures) (subst M (sym c.push.ensures.items) (top-more S H A s0 all second spans s t (policy_meaning p) rest next c.loop-place.seen place firsts told c.answer-given.result here c.answer-given.ensures.answers c.answer-given.ensures.keeps)))), subst (λ s. KnowsIn s rest) (sym same) known.1, same ∙ c.loop-place.invariant.2)

pub returns-clause-evaluates : goal.returns-clause-evaluates
returns-clause-evaluates g c =
    let items = c.as_slice-all.result.now in
    let i = c.loop-place.place in
    let S = g.row.L.Denot in
    let H = g.L.Limiter.has_node in
    let A = g.L.Limiter.asks in
    let s0 = c.args.limiter.now in
    let all = meaning c.args.policies.now in
    let T = λ (ps : List Policy). Top S H A s0 all (c.args.now / 1000) c.args.spans.now c.loop-place.limiter (meaning ps) c.loop-place.next c.loop-place.seen c.loop-place.place c.loop-place.firsts c.loop-place.answers.items in
    let none : drop i items ≡ [] = grind (arith, common_steps) in
    top-last S H A s0 all (c.args.now / 1000) c.args.spans.now c.loop-place.limiter c.loop-place.next c.loop-place.seen c.loop-place.place c.loop-place.firsts c.loop-place.answers.items c.verdict.result c.decider.result (subst T none c.loop-place.invariant.0) c.verdict.ensures c.decider.ensures

pub push-requires : goal.push-requires
push-requires g c =
    let items = c.as_slice-all.result.now in
    let i = c.loop-place.place in
    let p = c.index-all-place.result in
    let T = λ (r : Policies). Top g.row.L.Denot g.L.Limiter.has_node g.L.Limiter.asks c.args.limiter.now (meaning c.args.policies.now) (c.args.now / 1000) c.args.spans.now c.loop-place.limiter r c.loop-place.next c.loop-place.seen i c.loop-place.firsts c.loop-place.answers.items in
    let here : T (one_more (policy_meaning p) (meaning (drop (i + 1) items))) = subst T (next_part items i p c.loop-place-test.true c.index-all-place.is) c.loop-place.invariant.0 in
    let some = some-nodes (policy_meaning p) in
    omega (arith, here.counted, here.within, here.placed, here.told_each, some)
