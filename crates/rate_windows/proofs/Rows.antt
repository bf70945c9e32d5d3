-- Worked rows of windows, by computation.
-- No contract rests on it: it shows the definitions on worked cases.
use Rattle.std.specs.Prelude.{ℕ, true, false, List, [], ◌∷◌, ◌≡◌, refl}
use Rattle.policy_tree.specs.declared.limit.Limit.{Limit}
use Rattle.policy_tree.specs.declared.limit.Limit.TheVariants.{Spans, Bytes}
use Rattle.rate_budget.specs.Grant.{Asking, grants}
use Rattle.rate_windows.specs.Window.{is_within, granted_over, granted_to_asked_over, most_over}

-- a node with this limit is asked so, a second and an amount each; the latest asking comes first
abbrev asked : Limit → List (ℕ × ℕ) → (earlier : List Asking) → List Asking
asked limit [] earlier = earlier
asked limit (a ∷ rest) earlier = asked limit rest (record { node = 2; second = a.0; amount = a.1; granted = grants limit earlier a.0 a.1 } ∷ earlier)

-- of a stretch of two seconds after second 5 the last one is 7
pub seconds_within : is_within 5 2 4 ∷ is_within 5 2 5 ∷ is_within 5 2 7 ∷ is_within 5 2 8 ∷ [] ≡ false ∷ true ∷ true ∷ false ∷ []
seconds_within = refl

-- ---- a bucket of 11 bytes that gets 3 back with each second: a window of two seconds can have all of 11 + 3 * 2

abbrev bucket : List Asking
bucket = asked (Bytes 3 11) ((5, 11) ∷ (6, 4) ∷ (6, 3) ∷ (7, 3) ∷ (9, 2) ∷ (8, 4) ∷ (30, 12) ∷ (30, 10) ∷ []) []

pub bucket_can_have_all : granted_over 5 2 bucket ∷ most_over 2 (Bytes 3 11) ∷ [] ≡ 17 ∷ 17 ∷ []
bucket_can_have_all = refl

-- by the second in which each counts: what was asked at 8 counts at 9, where 9 was asked before
pub bucket_by_counted : granted_over 5 0 bucket ∷ granted_over 6 1 bucket ∷ granted_over 8 0 bucket ∷ granted_over 9 0 bucket ∷ granted_over 7 23 bucket ∷ [] ≡ 11 ∷ 6 ∷ 0 ∷ 6 ∷ 19 ∷ []
bucket_by_counted = refl

-- by the second that each names
pub bucket_by_own : granted_to_asked_over 8 0 bucket ∷ granted_to_asked_over 9 0 bucket ∷ granted_to_asked_over 5 2 bucket ∷ [] ≡ 4 ∷ 2 ∷ 17 ∷ []
bucket_by_own = refl

-- ---- 7 spans a second: a window of two seconds touches three of them

abbrev spans : List Asking
spans = asked (Spans 7) ((5, 7) ∷ (5, 1) ∷ (6, 4) ∷ (6, 3) ∷ (7, 8) ∷ (7, 7) ∷ (9, 2) ∷ []) []

pub spans_can_have_all : granted_over 5 2 spans ∷ granted_over 6 2 spans ∷ granted_over 6 3 spans ∷ most_over 2 (Spans 7) ∷ [] ≡ 21 ∷ 14 ∷ 16 ∷ 21 ∷ []
spans_can_have_all = refl

-- where seconds go back, more than the most can be granted to the ones that name one second: 7 for each second asked
-- between them
abbrev back : List Asking
back = asked (Spans 7) ((5, 7) ∷ (6, 1) ∷ (5, 6) ∷ (7, 2) ∷ (5, 5) ∷ []) []

pub own_seconds_that_go_back : granted_to_asked_over 5 0 back ∷ granted_over 5 0 back ∷ most_over 0 (Spans 7) ∷ [] ≡ 18 ∷ 7 ∷ 7 ∷ []
own_seconds_that_go_back = refl
