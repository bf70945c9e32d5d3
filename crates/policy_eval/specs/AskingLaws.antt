-- The counts of a limiter after a decision are those of the askings of all decisions.
use Rattle.std.proofs.Common.{◌≡◌, ℕ, ◌+◌, ◌<◌, ◌≤◌, ◌==◌, Bool, true, false, ◌&&◌, ◌||◌, List, [], ◌∷◌, ◌++◌, map, reverse, refl, sym, ap, subst, ◌∙◌, arith, append_assoc}
use Rattle.std.proofs.lemmas.Bool.Decides.{nat_tests}
use Rattle.std.proofs.lemmas.List.{reverse-append}
use Rattle.policy_tree.specs.declared.limiter_node.LimiterNode.{LimiterNode}
use Rattle.policy_tree.specs.Tree.{Policies, nodes_in, limiters}
use Rattle.rate_budget.specs.Grant.{Asking, granted_after}
use Rattle.rate_budget.specs.Budget.{limiter_counts, limiter_of, has_node, grants_at, after, AsksBudgets}
use Rattle.rate_budget.specs.Rising.{Rises, rises-lower, numbers, limits_in-rise}
use Rattle.rate_budget.specs.BudgetLaws.{counts-grant, counts-after}
use Rattle.rate_budget.specs.declared.count.LimiterCount.{LimiterCount}
use Rattle.otlp_types.specs.declared.arrival.Arrival.{Arrival}
use Rattle.policy_eval.specs.Policies.{verdict, asked_nodes}
use Rattle.policy_eval.specs.Given.{verdict_given, asked_given, Asked}
use Rattle.policy_eval.specs.GivenLaws.{top-rise, decides-as}
use Rattle.policy_eval.specs.Amounts.{amount_among, amount_at, granted_on, AreAmounts}
use Rattle.policy_eval.specs.Meaning.{knows}

-- ---- the counts

-- the askings of these nodes in turn, with their answers
abbrev pub askings_by : (granted : ℕ → Bool) → (second : ℕ) → (amounts : ℕ → ℕ) → List ℕ → List Asking
askings_by granted second amounts nodes = map (λ node. record { node = node; second = second; amount = amounts node; granted = granted node }) nodes

-- the first of some askings, behind the others
reverse-first : (a : Asking) (others earlier : List Asking) → reverse others ++ (a ∷ earlier) ≡ reverse (a ∷ others) ++ earlier
reverse-first a others earlier = rw (reverse-append (a ∷ []) others) (sym (append_assoc (reverse others) (a ∷ []) earlier))

-- a lesser number is another one
eqb-less : (a b : ℕ) → a < b → (a == b) ≡ false
eqb-less a b h = grind (arith, nat_tests)

-- an asking of another node changes no answer
granted-other : (policies : Policies) (a : Asking) (earlier : List Asking) (second amount node : ℕ) → (a.node == node) ≡ false → granted_after policies earlier second amount node ≡ granted_after policies (a ∷ earlier) second amount node
granted-other policies a earlier second amount node h = rw h

-- nodes that rise, asked in turn, are answered as the askings before the first say, and leave the counts of all askings
asked-in-turn : (policies : Policies) (earlier : List Asking) (second first behind : ℕ) (amounts : ℕ → ℕ) (granted : ℕ → Bool) (ms : List ℕ) (bs : List Bool) (old new : List LimiterCount) → Rises first behind ms →
    ((m : ℕ) → first ≤ m → granted m ≡ granted_after policies earlier second (amounts m) m) → old ≡ limiter_counts policies earlier → Asked AsksBudgets second amounts ms bs old new →
    (bs ≡ map granted ms) × (new ≡ limiter_counts policies (reverse (askings_by granted second amounts ms) ++ earlier))
asked-in-turn policies earlier second first behind amounts granted [] [] old new r h e k = (refl, k ∙ e)
asked-in-turn policies earlier second first behind amounts granted [] (b ∷ bs) old new r h e k = absurd k
asked-in-turn policies earlier second first behind amounts granted (m ∷ ms) [] old new r h e k = absurd k
asked-in-turn policies earlier second first behind amounts granted (m ∷ ms) (b ∷ bs) old new r h e k =
    let a : Asking = record { node = m; second = second; amount = amounts m; granted = granted m } in
    let answer : b ≡ granted m = k.1.0 ∙ ap (λ (cs : List LimiterCount). grants_at cs m second (amounts m)) e ∙ counts-grant policies earlier m second (amounts m) ∙ sym (h m r.0) in
    let next : k.0 ≡ limiter_counts policies (a ∷ earlier) = k.1.1 ∙ ap (λ (cs : List LimiterCount). after cs m second (amounts m)) e ∙ counts-after policies a earlier (h m r.0) in
    let others = asked-in-turn policies (a ∷ earlier) second (m + 1) behind amounts granted ms bs k.0 new r.1
    (λ n l. h n (omega (arith, r.0, l)) ∙ granted-other policies a earlier second (amounts n) n (eqb-less m n (omega (arith, l)))) next k.2 in
    (let x = others.0 in cc, others.1 ∙ ap (limiter_counts policies) (reverse-first a (askings_by granted second amounts ms) earlier))

-- the decision is that of the policies where the limiter answers as the askings so far say, and the counts are then
-- those of the decision's askings, too
pub record DecidesByCounts (policies : Policies) (earlier : List Asking) (second : ℕ) (spans : List Arrival) (answers : List Bool) (new : List LimiterCount) : Type 0 where
  pub answers_are : answers ≡ map (granted_on policies earlier second spans) (asked_given policies answers spans)
  pub asked_are : asked_given policies answers spans ≡ asked_nodes policies (granted_on policies earlier second spans) spans
  pub verdict_is : verdict_given policies answers spans ≡ verdict policies (granted_on policies earlier second spans) spans
  pub counts_are : new ≡ limiter_counts policies (reverse (askings_by (granted_on policies earlier second spans) second (amount_at policies spans) (asked_given policies answers spans)) ++ earlier)

-- counts decide as the askings do that they stand for
pub decides_by_counts : (policies : Policies) (earlier : List Asking) (second : ℕ) (spans : List Arrival) (answers : List Bool) (old new : List LimiterCount) → old ≡ limiter_counts policies earlier →
    Asked AsksBudgets second (amount_at policies spans) (asked_given policies answers spans) answers old new → DecidesByCounts policies earlier second spans answers new
decides_by_counts policies earlier second spans answers old new e h =
    let granted = granted_on policies earlier second spans in
    let ms = asked_given policies answers spans in
    let k = asked-in-turn policies earlier second 0 (0 + nodes_in policies) (amount_at policies spans) granted ms answers old new (top-rise policies 0 answers spans) (λ m l. refl) e h in
    let d = decides-as policies granted answers spans k.0 in
    record { answers_are = k.0; asked_are = d.1; verdict_is = d.0; counts_are = k.1 }

-- ---- the nodes

-- a disjunction with true is true
or-yes : (b : Bool) → (b || true) ≡ true
or-yes true = refl
or-yes false = refl

-- one more count knows as much
knows-more : (c : LimiterCount) (cs : List LimiterCount) (ls : List LimiterNode) → knows (has_node cs) ls ≡ true → knows (has_node (c ∷ cs)) ls ≡ true
knows-more c cs [] h = refl
knows-more c cs (l ∷ ls) h = (elim (has_node cs l.node) as (λ b. (b && knows (has_node cs) ls) ≡ true → (((c.node == l.node) || b) && knows (has_node (c ∷ cs)) ls) ≡ true) [
  | true ↦ λ h. rw (or-yes (c.node == l.node)) (knows-more c cs ls h)
  | false ↦ λ h. cc
]) h

-- the counts are of all their nodes
knows-own : (cs : List LimiterCount) → knows (has_node cs) (map limiter_of cs) ≡ true
knows-own [] = refl
knows-own (c ∷ cs) = let own : (c.node == c.node) ≡ true = grind (arith, nat_tests) in rw own (knows-more c cs (map limiter_of cs) (knows-own cs))

-- counts of the policies' limiter nodes know them
pub counts_know : (policies : Policies) (counts : List LimiterCount) → map limiter_of counts ≡ limiters policies → knows (has_node counts) (limiters policies) ≡ true
counts_know policies counts e = let P = λ (ls : List LimiterNode). knows (has_node counts) ls ≡ true in subst P e (knows-own counts)

-- ---- the amounts

-- nodes behind the first one have its amount not
amounts-behind : (spans : List Arrival) (l : LimiterNode) (ms ls : List LimiterNode) (behind : ℕ) → Rises (l.node + 1) behind (numbers ms) → AreAmounts (amount_among ls spans) spans ms → AreAmounts (amount_among (l ∷ ls) spans) spans ms
unfolding amount_among
amounts-behind spans l [] ls behind r h = tt
amounts-behind spans l (m ∷ ms) ls behind r h =
    let other : (l.node == m.node) ≡ false = eqb-less l.node m.node (omega (arith, r.0)) in
    (rw other h.0, amounts-behind spans l ms ls behind (rises-lower (l.node + 1) (m.node + 1) behind (numbers ms) (omega (arith, r.0)) r.1) h.1)

-- among nodes that rise each has the amount of its own limit
amounts-rise : (spans : List Arrival) (ls : List LimiterNode) (first behind : ℕ) → Rises first behind (numbers ls) → AreAmounts (amount_among ls spans) spans ls
unfolding amount_among
amounts-rise spans [] first behind r = tt
amounts-rise spans (l ∷ ls) first behind r =
    let own : (l.node == l.node) ≡ true = grind (arith, nat_tests) in
    (rw own refl, amounts-behind spans l ls ls behind r.1 (amounts-rise spans ls (l.node + 1) behind r.1))

-- and so it is with the limiter nodes of policies
pub amounts_are : (policies : Policies) (spans : List Arrival) → AreAmounts (amount_at policies spans) spans (limiters policies)
amounts_are policies spans = amounts-rise spans (limiters policies) 0 (0 + nodes_in policies) (limits_in-rise policies 0)
