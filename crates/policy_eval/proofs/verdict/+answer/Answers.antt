-- The answer of a policy.
-- For the clause `answers` of `answer`.
use Rattle.std.proofs.Common.{◌≡◌, ℕ, ◌+◌, ◌≤◌, List, [], drop, true, rules, refl, sym, ap, subst, ◌∙◌, arith}
use Rattle.std.proofs.lemmas.Grind.{common_steps}
use Rattle.policy_tree.specs.declared.policy.Policy.{Policy}
use Rattle.policy_tree.specs.Tree.{Policy as Meant, leaf, limiting, joined, Policies, nodes}
use Rattle.policy_tree.specs.Meaning.{meaning, policy_meaning}
use Rattle.policy_tree.specs.declared.policy.PolicyKind.TheFolds.{the_lemmas}
use Rattle.policy_eval.specs.declared.answer.Answer.{Answer}
use Rattle.policy_eval.specs.declared.answer.AnswersSeen.{AnswersSeen}
use Rattle.policy_eval.specs.Meaning.{answer_of, joined_seen}
use Rattle.policy_eval.specs.Walks.{Answers}
use Rattle.policy_eval.proofs.Turns.{Turn, turn-first, turn-more, turn-stop, turn-last, answers-leaf, answers-rate, part_at, counted_nodes}
use Rattle.policy_tree.specs.Expressions.{expressions_of}
use Rattle.policy_eval.specs.Searches.{are_known}
use Rattle.policy_eval.proofs.Known.{KnowsIn, known-at}
use Rattle.policy_eval.proofs.verdict.+answer.Goals as goal

pub loop-part-init : goal.loop-part-init
loop-part-init g t c =
    let S = g.row.L.Denot in
    let H = g.L.Limiter.has_node in
    let A = g.L.Limiter.asks in
    let s0 = c.args.limiter.now in
    let p = policy_meaning c.args.policy.now in
    let parts = meaning c.as_slice-part-items.result.now in
    let whole : p ≡ joined c.in-Joined.join parts = let is = c.in-Joined.is in let items = c.as_slice-part-items.ensures in search (rules, the_lemmas) in
    let P = λ (seen : AnswersSeen). Turn S H A s0 p c.in-Joined.join parts c.args.node c.args.second c.args.spans.now s0 parts (c.args.node + 1) seen in
    (subst P (sym c.none-seen.ensures) (turn-first S H A s0 p c.in-Joined.join parts c.args.node c.args.second c.args.spans.now whole c.requires.numbers c.requires.known), subst (λ (q : Meant). are_known c.args.searches.now (expressions_of q) ≡ true) whole c.requires.expressions, refl)

pub loop-part-preserved : goal.loop-part-preserved
loop-part-preserved g t c =
    let S = g.row.L.Denot in
    let H = g.L.Limiter.has_node in
    let A = g.L.Limiter.asks in
    let s0 = c.args.limiter.now in
    let s = c.loop-part.limiter in
    let after = c.answer-given.new.limiter in
    let items = c.as_slice-part-items.result.now in
    let whole = policy_meaning c.args.policy.now in
    let join = c.in-Joined.join in
    let seen = c.loop-part.seen in
    let next = c.loop-part.next in
    let T = λ (r : Policies). Turn S H A s0 whole join (meaning items) c.args.node c.args.second c.args.spans.now s r next seen in
    let here = part_at T items c.loop-part.part-index c.part-item.result c.loop-part-test.true c.part-item.is c.loop-part.invariant.0 in
    let rest = meaning (drop (c.loop-part.part-index + 1) items) in
    let p = policy_meaning c.part-item.result in
    let N = λ (k : ℕ). Turn S H A s0 whole join (meaning items) c.args.node c.args.second c.args.spans.now after rest (next + k) c.with-seen.result in
    let W = λ (x : AnswersSeen). Turn S H A s0 whole join (meaning items) c.args.node c.args.second c.args.spans.now after rest (next + nodes p) x in
    let few : nodes p ≤ 64 = omega (arith, here.counted, here.within) in
    let count : c.count.result ≡ nodes p = c.count.ensures ∙ counted_nodes (nodes p) few in
    let more = turn-more S H A s0 whole join (meaning items) c.args.node c.args.second c.args.spans.now s after p rest next seen c.answer-given.result here c.answer-given.ensures.answers c.answer-given.ensures.keeps (sym c.ends.ensures ∙ c.if-ends.false) in
    let known = known-at c.loop-part.searches items c.loop-part.part-index c.part-item.result c.loop-part-test.true c.part-item.is c.loop-part.invariant.1 in
    let same = c.answer-given.ensures.same in
    (subst N (sym count) (subst W (sym c.with-seen.ensures) more), subst (λ s. KnowsIn s rest) (sym same) known.1, same ∙ c.loop-part.invariant.2)

pub returns-then-ends-clause-answers : goal.returns-then-ends-clause-answers
returns-then-ends-clause-answers g t c =
    let S = g.row.L.Denot in
    let H = g.L.Limiter.has_node in
    let A = g.L.Limiter.asks in
    let s0 = c.args.limiter.now in
    let s = c.loop-part.limiter in
    let after = c.answer-given.new.limiter in
    let items = c.as_slice-part-items.result.now in
    let whole = policy_meaning c.args.policy.now in
    let join = c.in-Joined.join in
    let seen = c.loop-part.seen in
    let next = c.loop-part.next in
    let T = λ (r : Policies). Turn S H A s0 whole join (meaning items) c.args.node c.args.second c.args.spans.now s r next seen in
    let here = part_at T items c.loop-part.part-index c.part-item.result c.loop-part-test.true c.part-item.is c.loop-part.invariant.0 in
    let rest = meaning (drop (c.loop-part.part-index + 1) items) in
    let P = λ (a : Answer). Answers A whole c.args.node c.args.second c.args.spans.now a s0 after in
    let stop = turn-stop S H A s0 whole join (meaning items) c.args.node c.args.second c.args.spans.now s after (policy_meaning c.part-item.result) rest next seen c.answer-given.result here c.answer-given.ensures.answers (sym c.ends.ensures ∙ c.if-ends.true) in
    subst P (sym (c.joined.ensures ∙ ap (λ (x : AnswersSeen). answer_of (joined_seen join x)) c.with-seen.ensures)) stop

pub returns-after-loop-part-clause-answers : goal.returns-after-loop-part-clause-answers
returns-after-loop-part-clause-answers g t c =
    let S = g.row.L.Denot in
    let H = g.L.Limiter.has_node in
    let A = g.L.Limiter.asks in
    let s0 = c.args.limiter.now in
    let items = c.as_slice-part-items.result.now in
    let whole = policy_meaning c.args.policy.now in
    let join = c.in-Joined.join in
    let T = λ (ps : List Policy). Turn S H A s0 whole join (meaning items) c.args.node c.args.second c.args.spans.now c.loop-part.limiter (meaning ps) c.loop-part.next c.loop-part.seen in
    let none : drop c.loop-part.part-index items ≡ [] = grind (arith, common_steps) in
    let P = λ (a : Answer). Answers A whole c.args.node c.args.second c.args.spans.now a s0 c.loop-part.limiter in
    let last = turn-last S H A s0 whole join (meaning items) c.args.node c.args.second c.args.spans.now c.loop-part.limiter c.loop-part.next c.loop-part.seen (subst T none c.loop-part.invariant.0) in
    subst P (sym c.joined-in-Joined.ensures) last

pub returns-in-Limiting-clause-answers : goal.returns-in-Limiting-clause-answers
returns-in-Limiting-clause-answers g t c =
    let S = g.row.L.Denot in
    let A = g.L.Limiter.asks in
    let spans = c.args.spans.now in
    let limit = c.in-Limiting.limit in
    let kind : policy_meaning c.args.policy.now ≡ limiting limit = let is = c.in-Limiting.is in search (rules, the_lemmas) in
    let P = λ (p : Meant). Answers A p c.args.node c.args.second spans c.plain.result c.args.limiter.now c.ask.new.self in
    let asked = subst (λ (n : ℕ). A c.args.limiter.now c.args.node c.args.second n c.ask.result c.ask.new.self) c.amount_of.ensures.amount c.ask.ensures in
    subst P (sym kind) (answers-rate S A c.args.second spans c.args.limiter.now c.ask.new.self limit c.args.node c.ask.result c.plain.result c.plain.ensures asked)

pub returns-in-Leaf-clause-answers : goal.returns-in-Leaf-clause-answers
returns-in-Leaf-clause-answers g t c =
    let S = g.row.L.Denot in
    let A = g.L.Limiter.asks in
    let kind : policy_meaning c.args.policy.now ≡ leaf c.in-Leaf.leaf = let is = c.in-Leaf.is in search (rules, the_lemmas) in
    let P = λ (p : Meant). Answers A p c.args.node c.args.second c.args.spans.now c.leaf_answer.result c.args.limiter.now c.args.limiter.now in
    subst P (sym kind) (answers-leaf S A c.args.second c.args.spans.now c.args.limiter.now c.in-Leaf.leaf c.args.node c.leaf_answer.result c.leaf_answer.ensures.answer)
