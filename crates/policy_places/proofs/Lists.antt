-- Lists with an item, and lists without one.
-- For the contracts of `has_no_items` and `empty_place`.
use Rattle.std.proofs.Common.{◌≡◌, ℕ, ◌≤◌, false, List, [], ◌∷◌, length, None, arith, refl}
use Rattle.toml.specs.View.{items_view}
use Rattle.toml.specs.declared.value.Value.{Value}
use Rattle.policy_places.specs.Places.{has_no_items}
use Rattle.policy_places.specs.Walk.{empty_place}

pub some_item : (items : List Value) → 1 ≤ length items → false ≡ has_no_items (items_view items)
some_item [] h = absurd (omega (arith, h))
some_item (first ∷ rest) h = refl

pub not_empty : (place : List ℕ) (items : List Value) → 1 ≤ length items → None ≡ empty_place place (items_view items)
not_empty place [] h = absurd (omega (arith, h))
not_empty place (first ∷ rest) h = refl
