-- A limit of spans: what is granted in each second adds up.
-- For the law `grants_in_any_window`.
use Rattle.std.proofs.Common.{◌≡◌, ℕ, zero, suc, ◌+◌, ◌*◌, ◌≤◌, ◌==◌, max, Bool, true, false, ◌&&◌, nat_le, cond, List, [], ◌∷◌, refl, sym, ap, ◌∙◌, arith}
use Rattle.std.proofs.lemmas.Bool.Decides.{nat_tests}
use Rattle.policy_tree.specs.declared.limit.Limit.TheVariants.{Spans}
use Rattle.rate_budget.specs.Grant.{Asking, latest_second, granted_in, grants}
use Rattle.rate_windows.specs.Window.{AreAnswered, is_within, granted_over}

same-second : (a b : ℕ) → (a == b) ≡ true → a ≡ b
same-second a b h = grind (arith, nat_tests)

-- one asking more keeps a second within the limit
more-in : (per_second second : ℕ) (a : Asking) (own : List Asking) → a.granted ≡ grants (Spans per_second) own a.second a.amount → granted_in second own ≤ per_second
    → (g t : Bool) → a.granted ≡ g → (latest_second (a ∷ own) == second) ≡ t → cond (g && t) a.amount 0 + granted_in second own ≤ per_second
more-in per_second second a own is below true true granted here =
    let counted : max a.second (latest_second own) ≡ second = same-second (latest_second (a ∷ own)) second here in
    let fits : nat_le (granted_in second own + a.amount) per_second ≡ true = ap (λ m. nat_le (granted_in m own + a.amount) per_second) (sym counted) ∙ sym is ∙ granted in
    let le : granted_in second own + a.amount ≤ per_second = grind (arith, nat_tests) in omega arith
more-in per_second second a own is below true false granted here = omega arith
more-in per_second second a own is below false t granted here = omega arith

-- what is granted in one second is within the limit
pub within-second : (per_second : ℕ) (own : List Asking) → AreAnswered (Spans per_second) own → (second : ℕ) → granted_in second own ≤ per_second
within-second per_second [] is second = omega arith
within-second per_second (a ∷ own) is second =
    more-in per_second second a own is.0 (within-second per_second own is.1 second) a.granted (latest_second (a ∷ own) == second) refl refl

-- of one asking, the first second has at most what counts in it
one-first : (first counted : ℕ) (g : Bool) (n : ℕ) → cond (is_within first 0 counted) (cond g n 0) 0 ≤ cond (g && (counted == first)) n 0
one-first first counted true n = grind (arith, nat_tests)
one-first first counted false n = grind (arith, nat_tests)

-- and one second more adds at most what counts in it
one-more : (first seconds counted : ℕ) (g : Bool) (n : ℕ) → cond (is_within first (suc seconds) counted) (cond g n 0) 0 ≤ cond (is_within first seconds counted) (cond g n 0) 0 + cond (g && (counted == first + suc seconds)) n 0
one-more first seconds counted true n = grind (arith, nat_tests)
one-more first seconds counted false n = grind (arith, nat_tests)

over-first : (first : ℕ) (own : List Asking) → granted_over first 0 own ≤ granted_in first own
over-first first [] = omega arith
over-first first (a ∷ own) = omega (arith, one-first first (latest_second (a ∷ own)) a.granted a.amount, over-first first own)

over-more : (first seconds : ℕ) (own : List Asking) → granted_over first (suc seconds) own ≤ granted_over first seconds own + granted_in (first + suc seconds) own
over-more first seconds [] = omega arith
over-more first seconds (a ∷ own) = omega (arith, one-more first seconds (latest_second (a ∷ own)) a.granted a.amount, over-more first seconds own)

-- so many seconds grant at most so many times the limit
pub over-spans : (per_second : ℕ) (own : List Asking) → AreAnswered (Spans per_second) own → (first seconds : ℕ) → granted_over first seconds own ≤ per_second * (seconds + 1)
over-spans per_second own is first zero = omega (arith, over-first first own, within-second per_second own is first)
over-spans per_second own is first (suc seconds) =
    omega (arith, over-more first seconds own, within-second per_second own is (first + suc seconds), over-spans per_second own is first seconds)
