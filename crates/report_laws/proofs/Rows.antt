-- Worked rows of a report's sums, by computation.
-- No contract rests on it: it shows the definitions on worked cases.
use Rattle.std.specs.Prelude.{◌≡◌, ℕ, ◌+◌, List, [], ◌∷◌, map, slice_index, refl}
use Rattle.std.specs.List.{sum_by}
use Rattle.drop_ledger.specs.declared.count.Count.TheVariants.{Received, Handed}
use Rattle.drop_ledger.specs.Places.{place_of}
use Rattle.core_laws.specs.Sums.{reasons}
use Rattle.report_laws.specs.Reports.{number_under}

-- received, handed over, and the reasons in the order of their numbers
abbrev report : List ℕ
report = 3255 ∷ 3000 ∷ 1 ∷ 2 ∷ 4 ∷ 8 ∷ 16 ∷ 32 ∷ 64 ∷ []

pub each_by_its_reason : map (number_under report) reasons ≡ 1 ∷ 2 ∷ 4 ∷ 8 ∷ 16 ∷ 32 ∷ 64 ∷ []
each_by_its_reason = refl

pub both_sides : slice_index report (place_of Received) ∷ slice_index report (place_of Handed) ∷ (slice_index report (place_of Handed) + sum_by (number_under report) reasons) ∷ [] ≡ 3255 ∷ 3000 ∷ 3127 ∷ []
both_sides = refl
