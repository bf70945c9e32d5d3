-- The askings of decisions are answered in turn.
-- For the law `scripts_grant_in_any_window`.
use Rattle.std.proofs.Common.{◌≡◌, ℕ, ◌+◌, ◌/◌, ◌<◌, ◌≤◌, ◌==◌, Bool, false, List, [], ◌∷◌, ◌++◌, map, reverse, refl, sym, subst, ◌∙◌, arith, append_assoc}
use Rattle.std.proofs.lemmas.Bool.Decides.{nat_tests}
use Rattle.std.proofs.lemmas.List.{reverse-append}
use Rattle.otlp_types.specs.declared.arrival.Arrival.{Arrival}
use Rattle.policy_tree.specs.Tree.{Policies, nodes_in}
use Rattle.rate_budget.specs.Grant.{Asking, granted_after}
use Rattle.rate_budget.specs.Rising.{Rises}
use Rattle.policy_eval.specs.Policies.{asked_nodes}
use Rattle.policy_eval.specs.GivenLaws.{top-rise, given-by}
use Rattle.policy_eval.specs.Amounts.{amount_at, granted_on}
use Rattle.policy_eval.specs.AskingLaws.{askings_by}
use Rattle.journal_theory.specs.Journal.{Settings, Journal, Entry, Opening, clock, spans_since, policies_for, due_now}
use Rattle.script_run.specs.Limiting.{asked_more, asked_in_turn, askings_after}
use Rattle.rate_windows.specs.Laws.{AreAnsweredAfter}

-- a lesser number is another one
eqb-less : (a b : ℕ) → a < b → (a == b) ≡ false
eqb-less a b h = grind (arith, nat_tests)

-- an asking of another node changes no answer
granted-other : (policies : Policies) (a : Asking) (earlier : List Asking) (second amount node : ℕ) → (a.node == node) ≡ false → granted_after policies earlier second amount node ≡ granted_after policies (a ∷ earlier) second amount node
granted-other policies a earlier second amount node h = rw h

-- the first of some askings, behind the others
reverse-first : (a : Asking) (others earlier : List Asking) → reverse others ++ (a ∷ earlier) ≡ reverse (a ∷ others) ++ earlier
reverse-first a others earlier = rw (reverse-append (a ∷ []) others) (sym (append_assoc (reverse others) (a ∷ []) earlier))

-- nodes that rise, asked in turn, are each answered as the askings before say, where they are as those before the first
answered_in_turn : (policies : Policies) (second first behind : ℕ) (amounts : ℕ → ℕ) (granted : ℕ → Bool) (ms : List ℕ) (earlier : List Asking) → Rises first behind ms
    → ((m : ℕ) → first ≤ m → granted m ≡ granted_after policies earlier second (amounts m) m) → AreAnsweredAfter policies earlier
    → AreAnsweredAfter policies (reverse (askings_by granted second amounts ms) ++ earlier)
answered_in_turn policies second first behind amounts granted [] earlier r h given = given
answered_in_turn policies second first behind amounts granted (m ∷ ms) earlier r h given =
    let a : Asking = record { node = m; second = second; amount = amounts m; granted = granted m } in
    subst (AreAnsweredAfter policies) (reverse-first (record { node = m; second = second; amount = amounts m; granted = granted m }) (askings_by granted second amounts ms) earlier)
    (answered_in_turn policies second (m + 1) behind amounts granted ms (a ∷ earlier) r.1
    (λ n l. h n (omega (arith, r.0, l)) ∙ granted-other policies (record { node = m; second = second; amount = amounts m; granted = granted m }) earlier second (amounts n) n (eqb-less m n (omega (arith, l))))
    (h m r.0, given))

-- the nodes that policies ask rise
nodes_rise : (policies : Policies) (granted : ℕ → Bool) (spans : List Arrival) → Rises 0 (0 + nodes_in policies) (asked_nodes policies granted spans)
nodes_rise policies granted spans =
    let answers = map granted (asked_nodes policies granted spans) in
    subst (Rises 0 (0 + nodes_in policies)) (given-by policies granted spans).1 (top-rise policies 0 (map granted (asked_nodes policies granted spans)) spans)

-- one decision more
more_answered : (s : Settings) (askings : List Asking) (second : ℕ) (spans : List Arrival) → AreAnsweredAfter s.policies askings → AreAnsweredAfter s.policies (asked_more s askings second spans)
more_answered s askings second spans h =
    answered_in_turn s.policies second 0 (0 + nodes_in (policies_for s spans)) (amount_at s.policies spans) (granted_on s.policies askings second spans)
    (asked_nodes (policies_for s spans) (granted_on s.policies askings second spans) spans) askings (nodes_rise (policies_for s spans) (granted_on s.policies askings second spans) spans) (λ m l. refl) h

turn_answered : (s : Settings) (past : Journal) (os : List Opening) (askings : List Asking) → AreAnsweredAfter s.policies askings → AreAnsweredAfter s.policies (asked_in_turn s past os askings)
turn_answered s past [] askings h = h
turn_answered s past (o ∷ os) askings h =
    turn_answered s past os (asked_more s askings (clock past / 1000) (spans_since past o)) (more_answered s askings (clock past / 1000) (spans_since past o) h)

-- the decisions at an item
pub item_answered : (s : Settings) (before : Journal) (askings : List Asking) (e : Entry) → AreAnsweredAfter s.policies askings → AreAnsweredAfter s.policies (askings_after s before askings e)
item_answered s before askings e h = turn_answered s (e ∷ before) (due_now s (e ∷ before)) askings h
