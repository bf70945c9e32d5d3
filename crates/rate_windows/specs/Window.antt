-- What a limiter node grants within a stretch of seconds. The askings are those of one node, the latest first.
use Rattle.std.specs.Prelude.{ℕ, ◌+◌, ◌*◌, ◌≡◌, ◌≤◌, Bool, ◌&&◌, nat_le, if◌then◌else◌, List, [], ◌∷◌, filter, sum_by}
use Rattle.policy_tree.specs.declared.limit.Limit.{Limit}
use Rattle.policy_tree.specs.declared.limit.Limit.TheVariants.{Spans, Bytes}
use Rattle.rate_budget.specs.Grant.{Asking, latest_second, taken, grants}

-- each asking is granted exactly where the ones before it say so
abbrev pub AreAnswered : Limit → List Asking → Type 0
AreAnswered limit [] = Unit {0}
AreAnswered limit (a ∷ earlier) = (a.granted ≡ grants limit earlier a.second a.amount) × AreAnswered limit earlier

-- the second is the first one, or one of so many after it
abbrev pub is_within : (first seconds second : ℕ) → Bool
is_within first seconds second = nat_le first second && nat_le second (first + seconds)

-- what was granted by the askings that count in these seconds: each counts in the greatest second asked up to it
abbrev pub granted_over : (first seconds : ℕ) → List Asking → ℕ
granted_over first seconds [] = 0
granted_over first seconds (a ∷ earlier) = (if is_within first seconds (latest_second (a ∷ earlier)) then taken a else 0) + granted_over first seconds earlier

-- what was granted by the askings that were made in these seconds
abbrev pub granted_to_asked_over : (first seconds : ℕ) → List Asking → ℕ
granted_to_asked_over first seconds askings = sum_by taken (filter (λ a. is_within first seconds a.second) askings)

-- no asking's second lies before that of an earlier one
abbrev pub NoSecondGoesBack : List Asking → Type 0
NoSecondGoesBack [] = Unit {0}
NoSecondGoesBack (a ∷ earlier) = (latest_second earlier ≤ a.second) × NoSecondGoesBack earlier

-- the most that a limit grants in the first second and so many after it
abbrev pub most_over : (seconds : ℕ) → Limit → ℕ
most_over seconds (Spans per_second) = per_second * (seconds + 1)
most_over seconds (Bytes per_second burst) = burst + per_second * seconds
