-- Which text is which duration (Go, `time.ParseDuration`, which OTTL's `Duration` calls): a sign or none, and then `0`, or numbers
-- each with its unit, as `1h30m` and `-1.5s`. In nanoseconds, below 2^63.
use Rattle.std.specs.Prelude.{ℕ, zero, suc, ◌+◌, ◌-◌, ◌*◌, ◌/◌, ◌^◌, min, ℤ, pos, neg_ℤ, Bool, not, ◌&&◌, ◌||◌, ◌==◌, nat_lt, List, [], ◌∷◌, length, take, take_while, slice_index, codes, bytes_eq, Option, Some, None, if◌then◌else◌}
use Rattle.std.specs.Char.{is_ascii_digit}
use Rattle.ottl_lengths.specs.Lengths.{behind, sign_len, digits_len}

-- sums and products, or 2^64 - 1 where they are more: that is too long, whatever follows
abbrev pub added : ℕ → ℕ → ℕ
added x y = min (x + y) (2 ^ 64 - 1)

abbrev pub times : ℕ → ℕ → ℕ
times x y = min (x * y) (2 ^ 64 - 1)

-- the number that digits behind those of another write
abbrev pub number_from : ℕ → List ℕ → ℕ
number_from n [] = n
number_from n (c ∷ s) = number_from (added (times n 10) (c - 48)) s

-- what digits behind a point make of a unit, each a tenth of the one before, in whole nanoseconds: to cut off at each
-- digit what is below one is to cut it off in all
abbrev pub fraction_of : (unit : ℕ) → List ℕ → ℕ
fraction_of unit [] = 0
fraction_of unit (c ∷ s) = added (times (c - 48) unit) (fraction_of unit s) / 10

-- the nanoseconds of a unit
abbrev pub unit_of : List ℕ → Option ℕ
unit_of w =
    if bytes_eq w (codes "ns") then Some 1
    else if bytes_eq w (codes "us") then Some 1000
    else if bytes_eq w (194 ∷ 181 ∷ 115 ∷ []) then Some 1000
    else if bytes_eq w (206 ∷ 188 ∷ 115 ∷ []) then Some 1000
    else if bytes_eq w (codes "ms") then Some 1000000
    else if bytes_eq w (codes "s") then Some 1000000000
    else if bytes_eq w (codes "m") then Some 60000000000
    else if bytes_eq w (codes "h") then Some 3600000000000
    else None

-- a unit goes on to the next digit or point
abbrev pub is_of_unit : ℕ → Bool
is_of_unit c = not (is_ascii_digit c || (c == 46))

unfoldable pub unit_len : List ℕ → ℕ
unit_len s = length (take_while is_of_unit s)

-- a number and its unit behind it, from which the nanoseconds and what is left
abbrev pub by_unit : (whole fraction : List ℕ) → Option ℕ → List ℕ → Option (ℕ × List ℕ)
by_unit whole fraction None rest = None
by_unit whole fraction (Some unit) rest = Some (added (times (number_from 0 whole) unit) (fraction_of unit fraction), rest)

unfoldable pub with_unit : (whole fraction s : List ℕ) → Option (ℕ × List ℕ)
with_unit whole fraction s = by_unit whole fraction (unit_of (take (unit_len s) s)) (behind s (unit_len s))

-- the digits behind a point, where one stands, and what is left
unfoldable pub fraction_at : List ℕ → List ℕ × List ℕ
fraction_at s =
    if slice_index s 0 == 46 then (take (digits_len (behind s 1)) (behind s 1), behind (behind s 1) (digits_len (behind s 1)))
    else ([], s)

-- a number with its unit at the front: digits before a point or behind it
unfoldable pub part_at : List ℕ → Option (ℕ × List ℕ)
part_at s =
    let whole = take (digits_len s) s in
    let found = fraction_at (behind s (digits_len s)) in
    if (length whole == 0) && (length found.0 == 0) then None else with_unit whole found.0 found.1

-- so many numbers with units may stand in a row
abbrev pub most_parts : ℕ
most_parts = 100

abbrev pub and_then : {A B : Type 0} → Option A → (A → Option B) → Option B
and_then None f = None
and_then (Some a) f = f a

-- the nanoseconds of the numbers with units that follow, and of those before
unfoldable pub parts_from : ℕ → (so_far : ℕ) → List ℕ → Option ℕ
parts_from zero so_far s = None
parts_from (suc n) so_far s =
    and_then (part_at s) (λ p. if length p.1 == 0 then Some (added so_far p.0) else parts_from n (added so_far p.0) p.1)

unfoldable pub unsigned_of : List ℕ → Option ℕ
unsigned_of s = if bytes_eq s (codes "0") then Some 0 else parts_from most_parts 0 s

-- a duration below 2^63 nanoseconds, with its sign
abbrev pub signed : (negative : Bool) → Option ℕ → Option ℤ
signed negative None = None
signed negative (Some n) = if nat_lt n (2 ^ 63) then Some (if negative then neg_ℤ (pos n) else pos n) else None

-- the duration that a text is, in nanoseconds
unfoldable pub duration_of : List ℕ → Option ℤ
duration_of s = signed (slice_index s 0 == 45) (unsigned_of (behind s (sign_len s)))
