-- An asking leaves the nodes of a seat.
-- For the law `keeps` of `Limiter`.
use Rattle.std.proofs.Common.{◌≡◌, ℕ, zero, suc, ◌==◌, Bool, ◌||◌, List, [], ◌∷◌, Some, slice_get, slice_set, refl, ap, ◌∙◌}
use Rattle.shared_budget.specs.declared.known.View.{View}
use Rattle.shared_budget.specs.Seats.{Stand, has_node, AsksAt}

set_keeps : (stands : List Stand) (place : ℕ) (s t : Stand) (m : ℕ) → slice_get stands place ≡ Some s → t.1.node ≡ s.1.node → has_node (slice_set stands place t) m ≡ has_node stands m
set_keeps [] place s t m e same = refl
set_keeps (x ∷ stands) zero s t m e same = ap (λ k. (k == m) || has_node stands m) (same ∙ there) where
  there : s.1.node ≡ x.1.node
  there = cc
set_keeps (x ∷ stands) (suc place) s t m e same = ap (λ b. (x.1.node == m) || b) (set_keeps stands place s t m e same)

pub asks-keeps : (stands new : List Stand) (node second amount : ℕ) (answer : Bool) (m : ℕ) → AsksAt stands node second amount answer new → has_node new m ≡ has_node stands m
asks-keeps stands new node second amount answer m h =
    let same : h.2.1.node ≡ h.1.1.node = ap (λ (v : View). v.node) h.6.1 in
    ap (λ (xs : List Stand). has_node xs m) h.7 ∙ set_keeps stands h.0 h.1 h.2 m h.3 same
