-- The first of a list, where there may be fewer.
-- For the contract of `first_said`.
use Rattle.std.proofs.Common.{◌≡◌, ℕ, min, List, take, length}
use Rattle.std.proofs.lemmas.List.{take_min}

pub first_of : {X : Type 0} (asked : ℕ) (said : List X) → take (min asked (length said)) said ≡ take asked said
first_of asked said = take_min asked said
