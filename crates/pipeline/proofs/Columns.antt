-- Columns that have an end for each receiver have one at all.
-- For the call of lane_jobs in making::make.
use Rattle.std.proofs.Common.{◌≡◌, ◌<◌, ℕ, List, [], ◌∷◌, length, Vec, All, arith}
use Rattle.std.proofs.lemmas.List.Elements.{All-nil, All-cons, All-head, All-tail}
use Rattle.lane_queue.specs.Grid.{ends_of, AreOfLength}

module _ {X Z : Type 0} where
  pub are_long : (count : ℕ) → 0 < count → (columns : List (Vec X Z)) → AreOfLength count (ends_of columns) → All (λ (v : Vec X Z). 0 < length v.items) columns
  are_long count some [] h = All-nil (λ (v : Vec X Z). 0 < length v.items)
  are_long count some (v ∷ columns) h = All-cons (λ (v : Vec X Z). 0 < length v.items) v columns (omega (arith, some, All-head (λ (column : List X). length column ≡ count) v.items (ends_of columns) h)) (are_long count some columns (All-tail (λ (column : List X). length column ≡ count) v.items (ends_of columns) h))
