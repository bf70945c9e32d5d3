-- The walk over the parts of a policy and over the top policies, policy by policy.
-- For the clauses `evaluates` of `evaluate_with_answers` and `answers` of `answer`.
use Rattle.std.proofs.Common.{◌≡◌, ℕ, suc, ◌+◌, ◌-◌, ◌^◌, min, ◌≤◌, ◌<◌, ◌==◌, Bool, true, false, ◌&&◌, cond, List, [], ◌∷◌, ◌++◌, length, drop, get_or, Option, refl, sym, ap, subst, ◌∙◌, arith, append-nil, append_assoc, length-append, drop-cons, add-one}
use Rattle.std.proofs.lemmas.Bool.Decides.{nat_tests}
use Rattle.std.proofs.lemmas.Bool.{and_parts}
use Rattle.std.proofs.lemmas.List.{map-append}
use Rattle.policy_tree.specs.declared.limit.Limit.{Limit}
use Rattle.policy_tree.specs.declared.limiter_node.LimiterNode.{LimiterNode}
use Rattle.policy_tree.specs.declared.policy.Policy.{Policy as Named}
use Rattle.policy_tree.specs.declared.policy.Join.{Join}
use Rattle.policy_tree.specs.Tree.{Policy, leaf, limiting, joined, Policies, no_more, one_more, nodes, nodes_in, limits, limits_in}
use Rattle.policy_tree.specs.Meaning.{meaning, policy_meaning}
use Rattle.rate_budget.specs.Rising.{numbers}
use Rattle.policy_eval.specs.Policies as spec
use Rattle.policy_eval.specs.Amounts.{amount_of, amount_at, AreAmounts}
use Rattle.policy_eval.specs.AskingLaws.{amounts_are}
use Rattle.policy_eval.specs.Given.{answer_given, part_answers_given, left_by, left_by_parts, nodes_asked, nodes_asked_in_turn, answers_given, nodes_asked_at_top, asked_given, Asked, told_given, EvaluatesWithAnswers}
use Rattle.policy_eval.specs.Walks.{AskedEach, HasAmounts, Answers}
use Rattle.otlp_types.specs.declared.arrival.Arrival.{Arrival}
use Rattle.policy_eval.specs.Meaning.{answer_of, is_end, none_seen, seen_with, joined_seen, verdict_of_seen, none_first, first_with, decider_of_seen, knows}
use Rattle.policy_eval.specs.declared.answer.AnswersSeen.{AnswersSeen}
use Rattle.policy_eval.specs.declared.answer.Answer.{Answer}
use Rattle.policy_eval.specs.declared.decider.Firsts.{Firsts}
use Rattle.span_ids.specs.declared.outcome.Verdict.{Verdict}
use Rattle.policy_eval.proofs.Verdicts.{Tells, tells-more, tells-all, tells-none, Told, told-more, told-none, places-all, joined-all, ends-is}

-- the policies from i on are that policy and the others
pub next_part : (ps : List Named) (i : ℕ) (p : Named) → i < length ps → p ≡ get_or ps i p → meaning (drop i ps) ≡ one_more (policy_meaning p) (meaning (drop (i + 1) ps))
next_part ps i p h e = ap meaning (drop-cons ps i p h) ∙ ap (λ (q : Named). one_more (policy_meaning q) (meaning (drop (suc i) ps))) (sym e) ∙ ap (λ k. one_more (policy_meaning p) (meaning (drop k ps))) (sym (add-one i))

-- and what holds of the policies from i on holds of these
pub part_at : (T : Policies → Type 0) (items : List Named) (i : ℕ) (p : Named) → i < length items → p ≡ get_or items i p → T (meaning (drop i items)) → T (one_more (policy_meaning p) (meaning (drop (i + 1) items)))
part_at T items i p h is t = subst T (next_part items i p h is) t

-- a number of policies within the limits is counted exactly
pub counted_nodes : (n : ℕ) → n ≤ 64 → min n (2 ^ 64 - 1) ≡ n
counted_nodes n h = omega arith

-- what is known of two lists of nodes is known of each
pub knows-append : (has : ℕ → Bool) (ls ms : List LimiterNode) → knows has (ls ++ ms) ≡ (knows has ls && knows has ms)
knows-append has [] ms = refl
knows-append has (l ∷ ls) ms = (elim (has l.node) as (λ b. (b && knows has (ls ++ ms)) ≡ ((b && knows has ls) && knows has ms)) [
  | true ↦ knows-append has ls ms
  | false ↦ refl
])

knows-same : (old new : ℕ → Bool) (ls : List LimiterNode) → ((m : ℕ) → new m ≡ old m) → knows new ls ≡ knows old ls
knows-same old new [] h = refl
knows-same old new (l ∷ ls) h = rw (h l.node, knows-same old new ls h)

pub knows-rest : (old new : ℕ → Bool) (p : Policy) (rest : Policies) (node : ℕ) → ((m : ℕ) → new m ≡ old m) → knows old (limits_in (one_more p rest) node) ≡ true → knows new (limits_in rest (node + nodes p)) ≡ true
knows-rest old new p rest node e h = knows-same old new (limits_in rest (node + nodes p)) e ∙ (and_parts (knows old (limits p node)) (knows old (limits_in rest (node + nodes p))) (sym (knows-append old (limits p node) (limits_in rest (node + nodes p))) ∙ h)).1

-- ---- a limiter that is asked

-- some askings, and then others
pub asked-append : {S : Type 0} (asks : S → ℕ → ℕ → ℕ → Bool → S → Type 0) (second : ℕ) (spans : List Arrival) (ms ns : List LimiterNode) (bs cs : List Bool) (s t u : S) → AskedEach asks second spans ms bs s t → AskedEach asks second spans ns cs t u → AskedEach asks second spans (ms ++ ns) (bs ++ cs) s u
asked-append {S} asks second spans [] ns [] cs s t u h k = let P = λ (x : S). AskedEach asks second spans ns cs x u in subst P h k
asked-append asks second spans [] ns (b ∷ bs) cs s t u h k = absurd h
asked-append asks second spans (m ∷ ms) ns [] cs s t u h k = absurd h
asked-append asks second spans (m ∷ ms) ns (b ∷ bs) cs s t u h k = (h.0, h.1, asked-append asks second spans ms ns bs cs h.0 t u h.2 k)

-- there is one answer for each asking
pub asked-lengths : {S : Type 0} (asks : S → ℕ → ℕ → ℕ → Bool → S → Type 0) (second : ℕ) (spans : List Arrival) (ms : List LimiterNode) (bs : List Bool) (s t : S) → AskedEach asks second spans ms bs s t → length (numbers ms) ≡ length bs
asked-lengths asks second spans [] [] s t h = refl
asked-lengths asks second spans [] (b ∷ bs) s t h = absurd h
asked-lengths asks second spans (m ∷ ms) [] s t h = absurd h
asked-lengths asks second spans (m ∷ ms) (b ∷ bs) s t h = ap suc (asked-lengths asks second spans ms bs h.0 t h.2)

-- what each limiter node is asked for is its amount
pub asked-amounts : {S : Type 0} (asks : S → ℕ → ℕ → ℕ → Bool → S → Type 0) (second : ℕ) (spans : List Arrival) (amounts : ℕ → ℕ) (ms : List LimiterNode) (bs : List Bool) (s t : S) → AreAmounts amounts spans ms → AskedEach asks second spans ms bs s t → Asked asks second amounts (numbers ms) bs s t
asked-amounts asks second spans amounts [] [] s t a h = h
asked-amounts asks second spans amounts [] (b ∷ bs) s t a h = absurd h
asked-amounts asks second spans amounts (m ∷ ms) [] s t a h = absurd h
asked-amounts asks second spans amounts (m ∷ ms) (b ∷ bs) s t a h =
    let P = λ (n : ℕ). asks s m.node second n b h.0 in (h.0, subst P (sym a.0) h.1, asked-amounts asks second spans amounts ms bs h.0 t a.1 h.2)

-- the amounts of limiter nodes, and those behind them
amounts-both : (amounts : ℕ → ℕ) (spans : List Arrival) (ms ns : List LimiterNode) → AreAmounts amounts spans ms → AreAmounts amounts spans ns → AreAmounts amounts spans (ms ++ ns)
amounts-both amounts spans [] ns h k = k
amounts-both amounts spans (m ∷ ms) ns h k = (h.0, amounts-both amounts spans ms ns h.1 k)

amounts-parts : (amounts : ℕ → ℕ) (spans : List Arrival) (ms ns : List LimiterNode) → AreAmounts amounts spans (ms ++ ns) → AreAmounts amounts spans ms × AreAmounts amounts spans ns
amounts-parts amounts spans [] ns h = (tt, h)
amounts-parts amounts spans (m ∷ ms) ns h = let k = amounts-parts amounts spans ms ns h.1 in ((h.0, k.0), k.1)

-- the numbers of limiter nodes, and of those behind them
numbers-append : (ms ns : List LimiterNode) → numbers (ms ++ ns) ≡ numbers ms ++ numbers ns
numbers-append ms ns = map-append (λ (l : LimiterNode). l.node) ms ns

same-eqb : (m n : ℕ) → m ≡ n → (m == n) ≡ true
same-eqb m n h = grind (arith, nat_tests)

module _ (S : Type 0) (asks : S → ℕ → ℕ → ℕ → Bool → S → Type 0) (second : ℕ) (spans : List Arrival) where
  -- a policy that asks nothing
  pub answers-leaf : (s : S) (l : _) (node : ℕ) (a : Answer) → a ≡ answer_of (spec.leaf_answer l spans) → Answers asks (leaf l) node second spans a s s
  answers-leaf s l node a e = ([], [], record { answers = λ later. e; leaves = λ later. refl; asks = λ later. refl }, refl, λ amounts h. tt)

  -- a limiter
  pub answers-rate : (s t : S) (limit : Limit) (node : ℕ) (b : Bool) (a : Answer) → a ≡ answer_of (spec.plain b) → asks s node second (amount_of limit spans) b t → Answers asks (limiting limit) node second spans a s t
  answers-rate s t limit node b a e h = (b ∷ [], record { node = node; limit = limit } ∷ [], record { answers = λ later. e; leaves = λ later. refl; asks = λ later. refl }, (t, h, refl), λ amounts k. k)

module _ (S : Type 0) (has : S → ℕ → Bool) (asks : S → ℕ → ℕ → ℕ → Bool → S → Type 0) (s0 : S) (all : List LimiterNode) (second : ℕ) (spans : List Arrival) where
  -- what was asked of `all` limiter nodes on the way from `s0` to here, where the policies `rest` are still to be
  -- asked, from number `next` on
  pub record Walked (s : S) (rest : Policies) (next : ℕ) : Type 0 where
    pub known : knows (has s) (limits_in rest next) ≡ true
    pub kept : (m : ℕ) → has s m ≡ has s0 m
    pub mine : List Bool
    pub asked : List LimiterNode
    pub so_far : AskedEach asks second spans asked mine s0 s
    pub amounts_asked : HasAmounts spans all asked
    pub amounts_left : HasAmounts spans all (limits_in rest next)

  abbrev walked-first : (rest : Policies) (next : ℕ) → knows (has s0) (limits_in rest next) ≡ true → HasAmounts spans all (limits_in rest next) → Walked s0 rest next
  walked-first rest next known amounts = record { known = known; kept = λ m. refl; mine = []; asked = []; so_far = refl; amounts_asked = λ amounts h. tt; amounts_left = amounts }

  abbrev walked-more : (s t : S) (p : Policy) (rest : Policies) (next : ℕ) (a : Answer) → Walked s (one_more p rest) next → Answers asks p next second spans a s t → ((m : ℕ) → has t m ≡ has s m) → Walked t rest (next + nodes p)
  walked-more s t p rest next a w part keeps = record {
    known = knows-rest (has s) (has t) p rest next keeps w.known;
    kept = λ m. keeps m ∙ w.kept m;
    mine = w.mine ++ part.0;
    asked = w.asked ++ part.1;
    so_far = asked-append asks second spans w.asked part.1 w.mine part.0 s0 s t w.so_far part.3;
    amounts_asked = λ amounts h. amounts-both amounts spans w.asked part.1 (w.amounts_asked amounts h) (part.4 amounts (amounts-parts amounts spans (limits p next) (limits_in rest (next + nodes p)) (w.amounts_left amounts h)).0);
    amounts_left = λ amounts h. (amounts-parts amounts spans (limits p next) (limits_in rest (next + nodes p)) (w.amounts_left amounts h)).1;
  }

module _ (S : Type 0) (has : S → ℕ → Bool) (asks : S → ℕ → ℕ → ℕ → Bool → S → Type 0) (s0 : S) (policy : Policy) (join : Join) (parts : Policies) (node second : ℕ) (spans : List Arrival) where
  -- of a policy the parts `rest` are still to be asked, from number `next` on
  pub record Turn (s : S) (rest : Policies) (next : ℕ) (seen : AnswersSeen) : Type 0 where
    pub is : policy ≡ joined join parts
    pub counted : next + nodes_in rest ≡ node + nodes policy
    pub within : node + nodes policy ≤ 64
    pub walked : Walked S has asks s0 (limits policy node) second spans s rest next
    pub tells : (later : List Bool) → Tells seen (part_answers_given join rest later spans) (part_answers_given join parts (walked.mine ++ later) spans)
    pub leaves : (later : List Bool) → left_by_parts join parts (walked.mine ++ later) spans ≡ left_by_parts join rest later spans
    pub asking : (later : List Bool) → nodes_asked_in_turn join parts (node + 1) (walked.mine ++ later) spans ≡ numbers walked.asked ++ nodes_asked_in_turn join rest next later spans

  -- before the first part
  pub turn-first : policy ≡ joined join parts → node + nodes policy ≤ 64 → knows (has s0) (limits policy node) ≡ true → Turn s0 parts (node + 1) none_seen
  turn-first e within known = record {
    is = e;
    counted = let k : nodes policy ≡ nodes_in parts + 1 = ap nodes e in omega (arith, k);
    within = within;
    walked =
        let P = λ (p : Policy). knows (has s0) (limits p node) ≡ true in
        let Q = λ (p : Policy). HasAmounts spans (limits p node) (limits_in parts (node + 1)) in
        walked-first S has asks s0 (limits policy node) second spans parts (node + 1) (subst P e known) (subst Q (sym e) (λ amounts h. h));
    tells = λ later. tells-none (part_answers_given join parts later spans);
    leaves = λ later. refl;
    asking = λ later. refl;
  }

  module _ (s t : S) (p : Policy) (rest : Policies) (next : ℕ) (seen : AnswersSeen) (a : Answer) (w : Turn s (one_more p rest) next seen) (part : Answers asks p next second spans a s t) where
    -- the answers that the part and all before it were given
    abbrev given : (later : List Bool) → List Bool
    given later = (w.walked.mine ++ part.0) ++ later

    -- the part's numbers behind those before it
    with-part : (later : List ℕ) → numbers w.walked.asked ++ (numbers part.1 ++ later) ≡ numbers (w.walked.asked ++ part.1) ++ later
    with-part later = sym (append_assoc (numbers w.walked.asked) (numbers part.1) later) ∙ ap (λ ns. ns ++ later) (sym (numbers-append w.walked.asked part.1))

    -- whether the part's answer ends them
    ends-so : (later : List Bool) (b : Bool) → is_end join a ≡ b → spec.ends join (answer_given p (part.0 ++ later) spans) ≡ b
    ends-so later b h = sym (ends-is join (answer_given p (part.0 ++ later) spans)) ∙ sym (ap (is_end join) (part.2.answers later)) ∙ h

    -- the answers seen with this one
    told : (later : List Bool) (b : Bool) → is_end join a ≡ b → Tells (seen_with a seen) (cond b [] (part_answers_given join rest later spans)) (part_answers_given join parts (given later) spans)
    told later b h =
        let its = part.2 in
        let first = answer_given p (part.0 ++ later) spans in
        let behind = λ (e : Bool) (bs : List Bool). cond e [] (part_answers_given join rest bs spans) in
        let all = part_answers_given join parts (w.walked.mine ++ (part.0 ++ later)) spans in
        let so : Tells (seen_with (answer_of first) seen) (behind (spec.ends join first) (left_by p (part.0 ++ later) spans)) all
        = tells-more seen first (behind (spec.ends join first) (left_by p (part.0 ++ later) spans)) all (w.tells (part.0 ++ later)) in
        let O = λ (e : Bool). Tells (seen_with (answer_of first) seen) (behind e (left_by p (part.0 ++ later) spans)) all in
        let P = λ (bs : List Bool). Tells (seen_with (answer_of first) seen) (behind b bs) all in
        let Q = λ (bs : List Bool). Tells (seen_with (answer_of first) seen) (behind b later) (part_answers_given join parts bs spans) in
        let R = λ (x : Answer). Tells (seen_with x seen) (behind b later) (part_answers_given join parts (given later) spans) in
        subst R (sym (its.answers later)) (subst Q (sym (append_assoc w.walked.mine part.0 later)) (subst P (its.leaves later) (subst O (ends-so later b h) so)))

    pub turn-more : ((m : ℕ) → has t m ≡ has s m) → is_end join a ≡ false → Turn t rest (next + nodes p) (seen_with a seen)
    turn-more keeps h =
        let its = part.2 in
        record {
          is = w.is;
          counted = let c = w.counted in omega (arith, c);
          within = w.within;
          walked = walked-more S has asks s0 (limits policy node) second spans s t p rest next a w.walked part keeps;
          tells = λ later. told later false h;
          leaves = λ later. ap (λ bs. left_by_parts join parts bs spans) (append_assoc w.walked.mine part.0 later) ∙ w.leaves (part.0 ++ later)
              ∙ (let e : left_by_parts join (one_more p rest) (part.0 ++ later) spans ≡ left_by_parts join rest later spans = rw (ends-so later false h, its.leaves later) in e);
          asking = λ later. ap (λ bs. nodes_asked_in_turn join parts (node + 1) bs spans) (append_assoc w.walked.mine part.0 later) ∙ w.asking (part.0 ++ later)
              ∙ (let e : nodes_asked_in_turn join (one_more p rest) next (part.0 ++ later) spans ≡ numbers part.1 ++ nodes_asked_in_turn join rest (next + nodes p) later spans = rw (ends-so later false h, its.leaves later, its.asks later) in
              ap (λ ns. numbers w.walked.asked ++ ns) e ∙ with-part (nodes_asked_in_turn join rest (next + nodes p) later spans));
        }

    -- an answer that ends them ends the walk
    pub turn-stop : is_end join a ≡ true → Answers asks policy node second spans (answer_of (joined_seen join (seen_with a seen))) s0 t
    turn-stop h =
        let its = part.2 in (
          w.walked.mine ++ part.0,
          w.walked.asked ++ part.1,
          record {
            answers = λ later. ap answer_of (joined-all join (seen_with a seen) (part_answers_given join parts (given later) spans) (told later true h) ∙ sym (ap (λ q. answer_given q (given later) spans) w.is));
            leaves = λ later.
                let e : left_by_parts join (one_more p rest) (part.0 ++ later) spans ≡ later = rw (ends-so later true h) (its.leaves later) in
                ap (λ q. left_by q (given later) spans) w.is ∙ ap (λ bs. left_by_parts join parts bs spans) (append_assoc w.walked.mine part.0 later) ∙ w.leaves (part.0 ++ later) ∙ e;
            asks = λ later.
                let e : nodes_asked_in_turn join (one_more p rest) next (part.0 ++ later) spans ≡ numbers part.1 = rw (ends-so later true h) (append-nil (nodes_asked p next (part.0 ++ later) spans) ∙ its.asks later) in
                ap (λ q. nodes_asked q node (given later) spans) w.is ∙ ap (λ bs. nodes_asked_in_turn join parts (node + 1) bs spans) (append_assoc w.walked.mine part.0 later) ∙ w.asking (part.0 ++ later) ∙ ap (λ ns. numbers w.walked.asked ++ ns) e ∙ sym (numbers-append w.walked.asked part.1);
          },
          asked-append asks second spans w.walked.asked part.1 w.walked.mine part.0 s0 s t w.walked.so_far part.3,
          λ amounts k. amounts-both amounts spans w.walked.asked part.1 (w.walked.amounts_asked amounts k) (part.4 amounts (amounts-parts amounts spans (limits p next) (limits_in rest (next + nodes p)) (w.walked.amounts_left amounts k)).0),
        )

  -- after the last part
  pub turn-last : (s : S) (next : ℕ) (seen : AnswersSeen) → Turn s no_more next seen → Answers asks policy node second spans (answer_of (joined_seen join seen)) s0 s
  turn-last s next seen w = (
    w.walked.mine,
    w.walked.asked,
    record {
      answers = λ later. ap answer_of (joined-all join seen (part_answers_given join parts (w.walked.mine ++ later) spans) (w.tells later) ∙ sym (ap (λ q. answer_given q (w.walked.mine ++ later) spans) w.is));
      leaves = λ later. ap (λ q. left_by q (w.walked.mine ++ later) spans) w.is ∙ w.leaves later;
      asks = λ later. ap (λ q. nodes_asked q node (w.walked.mine ++ later) spans) w.is ∙ w.asking later ∙ append-nil (numbers w.walked.asked);
    },
    w.walked.so_far,
    w.walked.amounts_asked,
  )

-- ---- the top policies

-- a policy has a node
pub some-nodes : (p : Policy) → 1 ≤ nodes p
some-nodes (leaf l) = omega arith
some-nodes (limiting limit) = omega arith
some-nodes (joined join parts) = omega arith

module _ (S : Type 0) (has : S → ℕ → Bool) (asks : S → ℕ → ℕ → ℕ → Bool → S → Type 0) (s0 : S) (all : Policies) (second : ℕ) (spans : List Arrival) where
  -- the policies `rest` are still to be asked, from number `next` on
  pub record Top (s : S) (rest : Policies) (next : ℕ) (seen : AnswersSeen) (place : ℕ) (firsts : Firsts) (told : List Answer) : Type 0 where
    pub counted : next + nodes_in rest ≡ nodes_in all
    pub within : nodes_in all ≤ 64
    pub walked : Walked S has asks s0 (limits_in all 0) second spans s rest next
    pub tells : (later : List Bool) → Told seen firsts place (answers_given rest later spans) (answers_given all (walked.mine ++ later) spans)
    pub asking : (later : List Bool) → nodes_asked_at_top all 0 (walked.mine ++ later) spans ≡ numbers walked.asked ++ nodes_asked_at_top rest next later spans
    pub said : (later : List Bool) → told_given all (walked.mine ++ later) spans ≡ told ++ told_given rest later spans
    pub placed : place ≤ next
    pub told_each : length told ≡ place

  -- before the first policy
  pub top-first : nodes_in all ≤ 64 → knows (has s0) (limits_in all 0) ≡ true → Top s0 all 0 none_seen 0 none_first []
  top-first within known = record {
    counted = omega arith;
    within = within;
    walked = walked-first S has asks s0 (limits_in all 0) second spans all 0 known (λ amounts h. h);
    tells = λ later. told-none (answers_given all later spans);
    asking = λ later. refl;
    said = λ later. refl;
    placed = omega arith;
    told_each = refl;
  }

  pub top-more : (s t : S) (p : Policy) (rest : Policies) (next : ℕ) (seen : AnswersSeen) (place : ℕ) (firsts : Firsts) (told : List Answer) (a : Answer) → Top s (one_more p rest) next seen place firsts told → Answers asks p next second spans a s t → ((m : ℕ) → has t m ≡ has s m) → Top t rest (next + nodes p) (seen_with a seen) (place + 1) (first_with a place firsts) (told ++ a ∷ [])
  top-more s t p rest next seen place firsts told a w part keeps =
      let its = part.2 in
      record {
        counted = omega (arith, w.counted);
        within = w.within;
        walked = walked-more S has asks s0 (limits_in all 0) second spans s t p rest next a w.walked part keeps;
        tells = λ later.
            let first = answer_given p (part.0 ++ later) spans in
            let told : Told (seen_with (answer_of first) seen) (first_with (answer_of first) place firsts) (place + 1) (answers_given rest (left_by p (part.0 ++ later) spans) spans) (answers_given all (w.walked.mine ++ (part.0 ++ later)) spans)
            = told-more seen firsts place first (answers_given rest (left_by p (part.0 ++ later) spans) spans) (answers_given all (w.walked.mine ++ (part.0 ++ later)) spans) (w.tells (part.0 ++ later)) in
            let P = λ (bs : List Bool). Told (seen_with (answer_of first) seen) (first_with (answer_of first) place firsts) (place + 1) (answers_given rest bs spans) (answers_given all (w.walked.mine ++ (part.0 ++ later)) spans) in
            let Q = λ (bs : List Bool). Told (seen_with (answer_of first) seen) (first_with (answer_of first) place firsts) (place + 1) (answers_given rest later spans) (answers_given all bs spans) in
            let R = λ (x : Answer). Told (seen_with x seen) (first_with x place firsts) (place + 1) (answers_given rest later spans) (answers_given all ((w.walked.mine ++ part.0) ++ later) spans) in
            subst R (sym (its.answers later)) (subst Q (sym (append_assoc w.walked.mine part.0 later)) (subst P (its.leaves later) told));
        asking = λ later. ap (λ bs. nodes_asked_at_top all 0 bs spans) (append_assoc w.walked.mine part.0 later) ∙ w.asking (part.0 ++ later)
            ∙ (let e : nodes_asked_at_top (one_more p rest) next (part.0 ++ later) spans ≡ numbers part.1 ++ nodes_asked_at_top rest (next + nodes p) later spans = rw (its.leaves later, its.asks later) in
            let others = nodes_asked_at_top rest (next + nodes p) later spans in
            ap (λ ns. numbers w.walked.asked ++ ns) e ∙ sym (append_assoc (numbers w.walked.asked) (numbers part.1) others) ∙ ap (λ ns. ns ++ others) (sym (numbers-append w.walked.asked part.1)));
        said = λ later. ap (λ bs. told_given all bs spans) (append_assoc w.walked.mine part.0 later) ∙ w.said (part.0 ++ later)
            ∙ (let e : told_given (one_more p rest) (part.0 ++ later) spans ≡ a ∷ told_given rest later spans = rw (its.leaves later, sym (its.answers later)) in
            ap (λ (more : List Answer). told ++ more) e ∙ sym (append_assoc told (a ∷ []) (told_given rest later spans)));
        placed = let some = some-nodes p in omega (arith, w.placed, some);
        told_each = length-append told (a ∷ []) ∙ ap (λ n. n + 1) w.told_each;
      }

  -- after the last policy
  pub top-last : (s : S) (next : ℕ) (seen : AnswersSeen) (place : ℕ) (firsts : Firsts) (told : List Answer) (verdict : Verdict) (decider : Option ℕ) → Top s no_more next seen place firsts told → verdict ≡ verdict_of_seen seen → decider ≡ decider_of_seen seen firsts → EvaluatesWithAnswers asks all second spans verdict decider told s0 s
  top-last s next seen place firsts told verdict decider w e d =
      let full : w.walked.mine ++ [] ≡ w.walked.mine = append-nil w.walked.mine in
      let asked : asked_given all w.walked.mine spans ≡ numbers w.walked.asked = ap (λ bs. nodes_asked_at_top all 0 bs spans) (sym full) ∙ w.asking [] ∙ append-nil (numbers w.walked.asked) in
      let P = λ (bs : List Bool). verdict_of_seen seen ≡ spec.verdict_of_answers (answers_given all bs spans) in
      let R = λ (bs : List Bool). decider_of_seen seen firsts ≡ spec.decider_of_answers (answers_given all bs spans) in
      let Q = λ (ns : List ℕ). Asked asks second (amount_at all spans) ns w.walked.mine s0 s in
      let amounts = w.walked.amounts_asked (amount_at all spans) (amounts_are all spans) in (
        w.walked.mine,
        e ∙ subst P full (tells-all seen (answers_given all (w.walked.mine ++ []) spans) (w.tells []).seen),
        same-eqb (length (asked_given all w.walked.mine spans)) (length w.walked.mine) (ap length asked ∙ asked-lengths asks second spans w.walked.asked w.walked.mine s0 s w.walked.so_far),
        subst Q (sym asked) (asked-amounts asks second spans (amount_at all spans) w.walked.asked w.walked.mine s0 s amounts w.walked.so_far),
        d ∙ subst R full (places-all seen firsts place (answers_given all (w.walked.mine ++ []) spans) (w.tells []).seen (w.tells []).first),
        let T = λ (bs : List Bool). told ≡ told_given all bs spans in subst T full (sym (w.said [] ∙ append-nil told)),
      )
