-- New seats are at each limiter node.
-- For the law `new_seats_have_nodes`.
use Rattle.std.proofs.Common.{◌≡◌, ℕ, ◌+◌, ◌==◌, Bool, true, false, ◌&&◌, ◌||◌, List, [], ◌∷◌, All, length, refl, sym, subst, arith}
use Rattle.std.specs.List.{list_all}
use Rattle.std.proofs.lemmas.Bool.Decides.{nat_tests}
use Rattle.std.proofs.lemmas.List.Elements.{All-nil, All-cons}
use Rattle.atomic_table.specs.Seated.{TableId}
use Rattle.policy_tree.specs.declared.limiter_node.LimiterNode.{LimiterNode}
use Rattle.shared_budget.specs.Rule.{seated}
use Rattle.shared_budget.specs.Seats.{Stand, has_node}
use Rattle.shared_budget.specs.Budget.{new_seat, AreNewSeatsFrom, NewSeatsHaveNodes}

-- the seat is at each of these nodes
abbrev has_all : List Stand → List LimiterNode → Bool
has_all seat nodes = list_all (λ (l : LimiterNode). has_node seat l.node) nodes

or_true : (b : Bool) → (b || true) ≡ true
or_true true = refl
or_true false = refl

-- at one node more, it is at these all the same
has_more : (s : Stand) (seat : List Stand) (nodes : List LimiterNode) → has_all seat nodes ≡ true → has_all (s ∷ seat) nodes ≡ true
has_more s seat [] h = refl
has_more s seat (l ∷ nodes) h = (elim (has_node seat l.node) as (λ b. (b && has_all seat nodes) ≡ true → (((s.1.node == l.node) || b) && has_all (s ∷ seat) nodes) ≡ true) [
  | true ↦ λ h. rw (or_true (s.1.node == l.node)) (has_more s seat nodes h)
  | false ↦ λ h. cc
]) h

new_has_all : (tables : List TableId) (nodes : List LimiterNode) (seats number : ℕ) → length tables ≡ length nodes → has_all (new_seat tables nodes seats number) nodes ≡ true
new_has_all [] [] seats number e = refl
new_has_all [] (l ∷ nodes) seats number e = absurd (omega arith)
new_has_all (t ∷ tables) [] seats number e = refl
new_has_all (t ∷ tables) (l ∷ nodes) seats number e =
    let s : Stand = (t, seated l.node l.limit seats number number []) in
    let own : (l.node == l.node) ≡ true = grind (arith, nat_tests) in
    rw own (has_more s (new_seat tables nodes seats number) nodes (new_has_all tables nodes seats number (omega arith)))

each_has_all : (tables : List TableId) (nodes : List LimiterNode) (seats from : ℕ) (all : List (List Stand)) → length tables ≡ length nodes → AreNewSeatsFrom tables nodes seats from all → All (λ (seat : List Stand). has_all seat nodes ≡ true) all
each_has_all tables nodes seats from [] e h = All-nil (λ (seat : List Stand). has_all seat nodes ≡ true)
each_has_all tables nodes seats from (seat ∷ all) e h =
    let P : List Stand → Type 0 = λ seat. has_all seat nodes ≡ true in
    All-cons P seat all (subst P (sym h.0) (new_has_all tables nodes seats from e)) (each_has_all tables nodes seats (from + 1) all e h.1)

pub new_have_nodes : NewSeatsHaveNodes
new_have_nodes nodes seats all h = each_has_all h.1.0 nodes seats 0 all h.1.1 h.1.2
