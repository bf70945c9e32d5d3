-- The answer of a policy where a list of answers is given.
-- For the clauses `answer` and `asked` of `answer_given`.
use Rattle.std.proofs.Common.{◌≡◌, ℕ, zero, suc, ◌+◌, Bool, true, false, List, [], ◌∷◌, drop, get_or, Option, Some, None, Bor, rules, refl, sym, ap, subst, ◌∙◌, arith}
use Rattle.std.specs.Option.{unwrap_or, option_map, option_copied}
use Rattle.std.proofs.lemmas.Grind.{common_steps}
use Rattle.policy_tree.specs.declared.policy.Policy.{Policy}
use Rattle.policy_tree.specs.Tree.{Policy as Meant, leaf, limiting, joined, Policies}
use Rattle.policy_tree.specs.Expressions.{expressions_of}
use Rattle.policy_eval.specs.Searches.{are_known}
use Rattle.policy_tree.specs.Meaning.{meaning, policy_meaning}
use Rattle.policy_tree.specs.declared.policy.PolicyKind.TheFolds.{the_lemmas}
use Rattle.policy_eval.specs.Policies.{plain}
use Rattle.policy_eval.specs.Given.{answer_given, next_answer}
use Rattle.policy_eval.specs.Meaning.{answer_of, joined_seen}
use Rattle.policy_eval.specs.declared.answer.AnswersSeen.{AnswersSeen}
use Rattle.policy_eval.proofs.Turns.{part_at}
use Rattle.policy_eval.proofs.Known.{KnowsIn, known-at}
use Rattle.policy_eval.proofs.GivenTurns.{Taken, Part, part-first, part-more, part-stop, part-last}
use Rattle.policy_eval.proofs.answer_list.+answer_given.Goals as goal

copied-is : (o : Option (Bor Bool)) (d : Bool) → unwrap_or (option_copied o) d ≡ unwrap_or (option_map (λ (x : Bor Bool). x.now) o) d
copied-is None d = refl
copied-is (Some x) d = refl

next-at : (bs : List Bool) (i : ℕ) → get_or bs i false ≡ next_answer (drop i bs)
next-at [] zero = refl
next-at [] (suc i) = refl
next-at (b ∷ bs) zero = refl
next-at (b ∷ bs) (suc i) = next-at bs i

pub loop-part-init : goal.loop-part-init
loop-part-init t c =
    let parts = meaning c.as_slice-part-items.result.now in
    let bs = c.args.answers.now in
    let spans = c.args.spans.now in
    let p = policy_meaning c.args.policy.now in
    let whole : p ≡ joined c.in-Joined.join parts = let is = c.in-Joined.is in let items = c.as_slice-part-items.ensures in search (rules, the_lemmas) in
    let P = λ (seen : AnswersSeen). Part bs spans p c.in-Joined.join parts c.args.asked parts c.args.asked seen in
    (subst P (sym c.none-seen.ensures) (part-first bs spans p c.in-Joined.join c.args.asked parts whole c.requires.within), subst (λ (q : Meant). are_known c.args.searches.now (expressions_of q) ≡ true) whole c.requires.known, refl)

pub loop-part-preserved : goal.loop-part-preserved
loop-part-preserved t c =
    let items = c.as_slice-part-items.result.now in
    let i = c.loop-part.part-index in
    let bs = c.args.answers.now in
    let spans = c.args.spans.now in
    let whole = policy_meaning c.args.policy.now in
    let join = c.in-Joined.join in
    let a = c.answer_given-given.result.0 in
    let behind = c.answer_given-given.result.1 in
    let seen = c.loop-part.seen in
    let T = λ (r : Policies). Part bs spans whole join (meaning items) c.args.asked r c.loop-part.next seen in
    let here = part_at T items i c.part-item.result c.loop-part-test.true c.part-item.is c.loop-part.invariant.0 in
    let taken : Taken bs spans (policy_meaning c.part-item.result) c.loop-part.next behind a = record { answer = c.answer_given-given.ensures.answer; asked = c.answer_given-given.ensures.asked } in
    let rest = meaning (drop (i + 1) items) in
    let W = λ (x : AnswersSeen). Part bs spans whole join (meaning items) c.args.asked rest behind x in
    let known = known-at c.loop-part.searches items i c.part-item.result c.loop-part-test.true c.part-item.is c.loop-part.invariant.1 in
    let same = c.answer_given-given.ensures.same in
    (subst W (sym c.with-seen.ensures) (part-more bs spans whole join (meaning items) c.args.asked (policy_meaning c.part-item.result) rest c.loop-part.next behind seen a here taken (sym c.ends.ensures ∙ c.if-ends.false)), subst (λ s. KnowsIn s rest) (sym same) known.1, same ∙ c.loop-part.invariant.2)

pub returns-then-ends : goal.returns-then-ends
returns-then-ends t c =
    let items = c.as_slice-part-items.result.now in
    let i = c.loop-part.part-index in
    let bs = c.args.answers.now in
    let spans = c.args.spans.now in
    let whole = policy_meaning c.args.policy.now in
    let join = c.in-Joined.join in
    let a = c.answer_given-given.result.0 in
    let behind = c.answer_given-given.result.1 in
    let seen = c.loop-part.seen in
    let T = λ (r : Policies). Part bs spans whole join (meaning items) c.args.asked r c.loop-part.next seen in
    let here = part_at T items i c.part-item.result c.loop-part-test.true c.part-item.is c.loop-part.invariant.0 in
    let taken : Taken bs spans (policy_meaning c.part-item.result) c.loop-part.next behind a = record { answer = c.answer_given-given.ensures.answer; asked = c.answer_given-given.ensures.asked } in
    let rest = meaning (drop (i + 1) items) in
    let stop = part-stop bs spans whole join (meaning items) c.args.asked (policy_meaning c.part-item.result) rest c.loop-part.next behind seen a here taken (sym c.ends.ensures ∙ c.if-ends.true) in
    record { answer = c.joined.ensures ∙ ap (λ (x : AnswersSeen). answer_of (joined_seen join x)) c.with-seen.ensures ∙ stop.answer; asked = stop.asked; same = c.answer_given-given.ensures.same ∙ c.loop-part.invariant.2 }

pub returns-after-loop-part : goal.returns-after-loop-part
returns-after-loop-part t c =
    let items = c.as_slice-part-items.result.now in
    let bs = c.args.answers.now in
    let spans = c.args.spans.now in
    let whole = policy_meaning c.args.policy.now in
    let T = λ (ps : List Policy). Part bs spans whole c.in-Joined.join (meaning items) c.args.asked (meaning ps) c.loop-part.next c.loop-part.seen in
    let none : drop c.loop-part.part-index items ≡ [] = grind (arith, common_steps) in
    let last = part-last bs spans whole c.in-Joined.join (meaning items) c.args.asked c.loop-part.next c.loop-part.seen (subst T none c.loop-part.invariant.0) in
    record { answer = c.joined-in-Joined.ensures ∙ last.answer; asked = last.asked; same = c.loop-part.invariant.2 }

pub returns-in-Limiting-clause-answer : goal.returns-in-Limiting-clause-answer
returns-in-Limiting-clause-answer t c =
    let left = drop c.args.asked c.args.answers.now in
    let spans = c.args.spans.now in
    let limit = c.in-Limiting.field-0 in
    let kind : policy_meaning c.args.policy.now ≡ limiting limit = let is = c.in-Limiting.is in search (rules, the_lemmas) in
    let got : unwrap_or (option_copied c.get.result) false ≡ get_or c.args.answers.now c.args.asked false = copied-is c.get.result false ∙ c.get.ensures.lookup.4 (omega arith) false in
    let granted : c.unwrap_or-granted.result ≡ next_answer left = c.unwrap_or-granted.ensures ∙ ap (λ o. unwrap_or o false) c.copied.ensures ∙ got ∙ next-at c.args.answers.now c.args.asked in
    c.plain.ensures ∙ ap (λ b. answer_of (plain b)) granted ∙ ap (λ p. answer_of (answer_given p left spans)) (sym kind)

pub returns-in-Leaf-clause-answer : goal.returns-in-Leaf-clause-answer
returns-in-Leaf-clause-answer t c =
    let left = drop c.args.asked c.args.answers.now in
    let spans = c.args.spans.now in
    let kind : policy_meaning c.args.policy.now ≡ leaf c.in-Leaf.leaf = let is = c.in-Leaf.is in search (rules, the_lemmas) in
    c.leaf_answer.ensures.answer ∙ ap (λ p. answer_of (answer_given p left spans)) (sym kind)

pub leaf_answer-requires : goal.leaf_answer-requires
leaf_answer-requires t c =
    let kind : policy_meaning c.args.policy.now ≡ leaf c.in-Leaf.leaf = let is = c.in-Leaf.is in search (rules, the_lemmas) in
    record { known = subst (λ (q : Meant). are_known c.args.searches.now (expressions_of q) ≡ true) kind c.requires.known }
