-- How many items there are.
-- For the contract of `is_order`.
use Rattle.std.proofs.Common.{◌≡◌, List, [], ◌∷◌, length, arith, refl}
use Rattle.toml.specs.View.{items_view}
use Rattle.toml.specs.declared.value.Value.{Value}
use Rattle.config_faults.specs.Composites.{count_items}

pub counted : (values : List Value) → count_items (items_view values) ≡ length values
counted [] = refl
counted (value ∷ rest) = let later = counted rest in omega (arith, later)
