-- The sums of what several counted.
use Rattle.std.specs.Prelude.{◌≡◌, ℕ, ◌^◌, ◌<◌, ◌≤◌, List, slice_index}
use Rattle.std.specs.List.{sum_by}
use Rattle.drop_ledger.specs.declared.count.Count.{Count}
use Rattle.drop_ledger.specs.Places.{place_of}

-- how many spans these reports have at a count, in all
abbrev pub in_all : Count → List (List ℕ) → ℕ
in_all count reports = sum_by (λ (numbers : List ℕ). slice_index numbers (place_of count)) reports

-- each number is the sum of those of these reports
abbrev pub AreSums : List (List ℕ) → List ℕ → Type 0
AreSums reports numbers = (count : Count) → slice_index numbers (place_of count) ≡ in_all count reports

-- the sum at some count passes 2^64-1
abbrev pub SumPasses : List (List ℕ) → Type 0
SumPasses reports = (count : Count) × (2 ^ 64 ≤ in_all count reports)

-- no number passes 2^64-1
abbrev pub Fits : List ℕ → Type 0
Fits numbers = (count : Count) → slice_index numbers (place_of count) < 2 ^ 64
