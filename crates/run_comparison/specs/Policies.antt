-- What each policy kept.
use Rattle.std.specs.Prelude.{ℕ, List, [], ◌∷◌, Option, None, Some, slice_get, slice_set}
use Rattle.run_comparison.specs.Amount.{plus}
use Rattle.run_comparison.specs.declared.amount.Amount.{Amount}

-- by the policies' places, and without one
pub record PolicyAmounts : Type 0 where
  pub by_place : List Amount
  pub without : Amount

-- some more, where a policy at a place kept so much, or where there is none
abbrev pub with_amount_at : PolicyAmounts → (place : ℕ) → (kept : Option Amount) → Amount → PolicyAmounts
with_amount_at p place None more = record { by_place = p.by_place; without = plus p.without more }
with_amount_at p place (Some kept) more = record { by_place = slice_set p.by_place place (plus kept more); without = p.without }

-- some more of the policy at a place; where there is none, it was kept without one
abbrev pub with_amount : PolicyAmounts → (place : Option ℕ) → Amount → PolicyAmounts
with_amount p None more = record { by_place = p.by_place; without = plus p.without more }
with_amount p (Some place) more = with_amount_at p place (slice_get p.by_place place) more

-- an amount and others together
abbrev pub sum_of : Amount → List Amount → Amount
sum_of sum [] = sum
sum_of sum (amount ∷ amounts) = sum_of (plus sum amount) amounts

-- what was kept in all
abbrev pub kept_by_all : PolicyAmounts → Amount
kept_by_all p = sum_of p.without p.by_place
