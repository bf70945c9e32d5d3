-- The text of a decimal as a JSON number that reads as a float (RFC 8259, section 6): it has a point or an exponent.
-- An exponent is written where more than 16 digits would stand before the point, or more than 4 zeros behind it.
use Rattle.std.specs.Prelude.{ℕ, ◌+◌, ◌-◌, ◌||◌, Bool, List, [], ◌∷◌, ◌++◌, length, take, drop, replicate, nat_lt, if◌then◌else◌}
use Rattle.std.specs.Fmt.{decimal}

-- `12.34`, or `1200.0`: `before` digits stand before the point
abbrev pub with_point : List ℕ → ℕ → List ℕ
with_point ds before =
    if nat_lt before (length ds) then take before ds ++ 46 ∷ drop before ds
    else (ds ++ replicate (before - length ds) 48) ++ 46 ∷ 48 ∷ []

-- `0.0012`
abbrev pub with_zeros : List ℕ → ℕ → List ℕ
with_zeros ds zeros = 48 ∷ 46 ∷ (replicate zeros 48 ++ ds)

-- `1.2`, or `1`
abbrev pub one_before_point : List ℕ → List ℕ
one_before_point ds = take 1 ds ++ (if nat_lt 1 (length ds) then 46 ∷ drop 1 ds else [])

-- `e30` or `e-7`; the exponent is 343 less than `place`
abbrev pub exponent : ℕ → List ℕ
exponent place = 101 ∷ (if nat_lt place 343 then 45 ∷ decimal (343 - place) else decimal (place - 343))

-- `place` is 342 more than the digits before the point
abbrev pub has_exponent : ℕ → Bool
has_exponent place = nat_lt place 338 || nat_lt 358 place

-- The digits times 10 ^ (power - 342). The point stands `place` - 342 digits behind the first of them.
unfoldable pub layout : List ℕ → ℕ → List ℕ
layout ds power =
    let place = power + length ds in
    if has_exponent place then one_before_point ds ++ exponent place
    else (if nat_lt 342 place then with_point ds (place - 342) else with_zeros ds (342 - place))
