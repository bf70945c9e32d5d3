-- A limit of bytes: a bucket that was asked within the window misses what was granted there, but for what it got back.
-- For the law `grants_in_any_window`.
use Rattle.std.proofs.Common.{◌≡◌, ℕ, ◌+◌, ◌-◌, ◌*◌, ◌≤◌, ◌<◌, Bool, true, false, nat_le, cond, List, [], ◌∷◌, refl, sym, ap, ◌∙◌, arith}
use Rattle.std.proofs.lemmas.Bool.Decides.{nat_tests}
use Rattle.std.proofs.Math.Nat.{mul-le-mul_left}
use Rattle.policy_tree.specs.declared.limit.Limit.TheVariants.{Bytes}
use Rattle.rate_budget.specs.Grant.{Asking, latest_second, missing_in, taken, grants}
use Rattle.rate_windows.specs.Window.{AreAnswered, is_within, granted_over}

-- a bucket holds what is taken from it
holds-more : (per_second burst : ℕ) (a : Asking) (own : List Asking) → a.granted ≡ grants (Bytes per_second burst) own a.second a.amount
    → missing_in per_second (latest_second (a ∷ own)) own ≤ burst → (g : Bool) → a.granted ≡ g → missing_in per_second (latest_second (a ∷ own)) own + cond g a.amount 0 ≤ burst
holds-more per_second burst a own is below true granted =
    let fits : nat_le (missing_in per_second (latest_second (a ∷ own)) own + a.amount) burst ≡ true = sym is ∙ granted in grind (arith, nat_tests)
holds-more per_second burst a own is below false granted = omega arith

-- it is never overdrawn
pub holds : (per_second burst : ℕ) (own : List Asking) → AreAnswered (Bytes per_second burst) own → (second : ℕ) → missing_in per_second second own ≤ burst
holds per_second burst [] is second = omega arith
holds per_second burst (a ∷ own) is second =
    let held = holds-more per_second burst a own is.0 (holds per_second burst own is.1 (latest_second (a ∷ own))) a.granted refl in omega (arith, held)

-- until a later second it got back at most so many times its rate
got-back : (per_second second : ℕ) (own : List Asking) → missing_in per_second (latest_second own) own ≤ missing_in per_second second own + per_second * (second - latest_second own)
got-back per_second second [] = omega arith
got-back per_second second (a ∷ own) = omega arith

-- a number that lies in no second of the window adds nothing
not-yet : (first seconds counted n rest : ℕ) → counted < first → rest ≡ 0 → cond (is_within first seconds counted) n 0 + rest ≡ 0
not-yet first seconds counted n rest h none = grind (arith, nat_tests)

-- before the window nothing was granted in it
none-before : (first seconds : ℕ) (own : List Asking) → latest_second own < first → granted_over first seconds own ≡ 0
none-before first seconds [] h = refl
none-before first seconds (a ∷ own) h = not-yet first seconds (latest_second (a ∷ own)) (taken a) (granted_over first seconds own) h (none-before first seconds own (omega (arith, h)))

at-most : (b : Bool) (n : ℕ) → cond b n 0 ≤ n
at-most true n = omega arith
at-most false n = omega arith

-- two stretches of seconds give back what both give
back-both : (per_second x y z : ℕ) → x + y ≡ z → per_second * x + per_second * y ≡ per_second * z
back-both per_second x y z e = let d : per_second * (x + y) ≡ per_second * z = ap (λ k. per_second * k) e in omega (arith, d)

none-left : (per_second second : ℕ) → per_second * (second - second) ≡ 0
none-left per_second second = let e : second - second ≡ 0 = omega arith in let d : per_second * (second - second) ≡ per_second * 0 = ap (λ k. per_second * k) e in omega (arith, d)

-- what one asking more takes, where the one before it lies in the window or not
taken-more : (per_second first seconds : ℕ) (a : Asking) (own : List Asking) → first ≤ latest_second (a ∷ own)
    → granted_over first seconds own ≤ missing_in per_second (latest_second own) own + per_second * (latest_second own - first)
    → (b : Bool) → nat_le first (latest_second own) ≡ b
    → taken a + granted_over first seconds own ≤ missing_in per_second (latest_second (a ∷ own)) (a ∷ own) + per_second * (latest_second (a ∷ own) - first)
taken-more per_second first seconds a own h below true e =
    let counted = latest_second (a ∷ own) in
    let le : first ≤ latest_second own = grind (arith, nat_tests) in
    let both = back-both per_second (counted - latest_second own) (latest_second own - first) (counted - first) (omega (arith, le)) in
    omega (arith, got-back per_second counted own, both, none-left per_second counted)
taken-more per_second first seconds a own h below false e =
    let lt : latest_second own < first = grind (arith, nat_tests) in
    omega (arith, none-before first seconds own lt, none-left per_second (latest_second (a ∷ own)))

-- one asking more, where it counts in the window or before it
over-by : (per_second first seconds : ℕ) (a : Asking) (own : List Asking) → granted_over first seconds own ≤ missing_in per_second (latest_second own) own + per_second * (latest_second own - first)
    → (b : Bool) → nat_le first (latest_second (a ∷ own)) ≡ b → granted_over first seconds (a ∷ own) ≤ missing_in per_second (latest_second (a ∷ own)) (a ∷ own) + per_second * (latest_second (a ∷ own) - first)
over-by per_second first seconds a own below true e =
    let le : first ≤ latest_second (a ∷ own) = grind (arith, nat_tests) in
    let more = taken-more per_second first seconds a own le below (nat_le first (latest_second own)) refl in
    omega (arith, more, at-most (is_within first seconds (latest_second (a ∷ own))) (taken a))
over-by per_second first seconds a own below false e =
    let lt : latest_second (a ∷ own) < first = grind (arith, nat_tests) in omega (arith, none-before first seconds (a ∷ own) lt)

-- what was granted in the window is missing, but for what was got back in it
taken-over : (per_second first seconds : ℕ) (own : List Asking) → granted_over first seconds own ≤ missing_in per_second (latest_second own) own + per_second * (latest_second own - first)
taken-over per_second first seconds [] = omega arith
taken-over per_second first seconds (a ∷ own) = over-by per_second first seconds a own (taken-over per_second first seconds own) (nat_le first (latest_second (a ∷ own))) refl

-- behind the window nothing is granted in it
not-any-more : (first seconds counted n rest : ℕ) → first + seconds < counted → cond (is_within first seconds counted) n 0 + rest ≡ rest
not-any-more first seconds counted n rest h = grind (arith, nat_tests)

-- one asking more, where it counts in the window or behind it
bytes-by : (per_second burst first seconds : ℕ) (a : Asking) (own : List Asking) → AreAnswered (Bytes per_second burst) (a ∷ own) → granted_over first seconds own ≤ burst + per_second * seconds
    → (b : Bool) → nat_le (latest_second (a ∷ own)) (first + seconds) ≡ b → granted_over first seconds (a ∷ own) ≤ burst + per_second * seconds
bytes-by per_second burst first seconds a own is below true e =
    let counted = latest_second (a ∷ own) in
    let le : counted - first ≤ seconds = grind (arith, nat_tests) in
    omega (arith, taken-over per_second first seconds (a ∷ own), holds per_second burst (a ∷ own) is counted, mul-le-mul_left per_second le)
bytes-by per_second burst first seconds a own is below false e =
    let lt : first + seconds < latest_second (a ∷ own) = grind (arith, nat_tests) in
    omega (arith, not-any-more first seconds (latest_second (a ∷ own)) (taken a) (granted_over first seconds own) lt, below)

-- a bucket grants at most its burst, and what it gets back
pub over-bytes : (per_second burst : ℕ) (own : List Asking) → AreAnswered (Bytes per_second burst) own → (first seconds : ℕ) → granted_over first seconds own ≤ burst + per_second * seconds
over-bytes per_second burst [] is first seconds = omega arith
over-bytes per_second burst (a ∷ own) is first seconds =
    bytes-by per_second burst first seconds a own is (over-bytes per_second burst own is.1 first seconds) (nat_le (latest_second (a ∷ own)) (first + seconds)) refl
