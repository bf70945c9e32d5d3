-- The decimals next to a float, and the shortest of those that read as it (IEEE 754-2019, section 5.12.2). `power`
-- stands for 10 ^ (power - 342), which may be below 1: as a fraction, 10 ^ (power - 342) over 10 ^ (342 - power) in
-- natural numbers.
use Rattle.std.specs.Prelude.{ℕ, zero, suc, ◌+◌, ◌-◌, ◌*◌, ◌/◌, ◌%◌, ◌^◌, ◌==◌, ◌||◌, Bool, true, false, to_bits, if◌then◌else◌}
use Rattle.std.specs.Float.{Float, binary64, nan, inf, fin}
use Rattle.std.specs.Float.Ieee.{round, up, down}
use lib.Ieee.Nearest.{closest}

-- the float's size, in units of the least float above 0, which is 2 ^ -1074
abbrev pub size_of : Float → ℕ
size_of nan = 0
size_of (inf negative) = 0
size_of (fin negative m e) = m * up e * 2 ^ 1074 / down e

-- the bits of the float, without its sign
abbrev pub size_bits : Float → ℕ
size_bits x = to_bits binary64 x % 2 ^ 63

-- the float nearest to digits * 10 ^ (power - 342), a tie going to the even one, is the one with these bits
unfoldable pub reads : ℕ → ℕ → ℕ → Bool
reads bits power digits = to_bits binary64 (round binary64 false (digits * 10 ^ (power - 342)) (10 ^ (342 - power))) == bits

-- a size over 10 ^ (power - 342), as a fraction
abbrev pub over : ℕ → ℕ → ℕ
over size power = size * 10 ^ (342 - power)

abbrev pub under : ℕ → ℕ
under power = 2 ^ 1074 * 10 ^ (power - 342)

-- the multiples of that power of ten next to the size are the two from this one
abbrev pub multiple_below : ℕ → ℕ → ℕ
multiple_below size power = over size power / under power

-- one of those two reads as the float
unfoldable pub has_decimal : ℕ → ℕ → ℕ → Bool
has_decimal bits size power = reads bits power (multiple_below size power) || reads bits power (multiple_below size power + 1)

-- the first power below `power` at which one does; `found` says whether it is `power` itself
unfoldable pub power_from : ℕ → ℕ → Bool → ℕ → ℕ
power_from bits size true power = power
power_from bits size false zero = zero
power_from bits size false (suc power) = power_from bits size (has_decimal bits size power) power

-- The fewest digits stand over the largest power. No float reaches 10 ^ 309.
abbrev pub shortest_power : ℕ → ℕ → ℕ
shortest_power bits size = power_from bits size false 651

-- the multiple closest to the size, a tie going to the even one
abbrev pub closest_multiple : ℕ → ℕ → ℕ
closest_multiple size power = closest (over size power) (under power)

-- of the two multiples next to the size, the closer that reads as the float
unfoldable pub digits_over : ℕ → ℕ → ℕ → ℕ
digits_over bits size power =
    if reads bits power (closest_multiple size power) then closest_multiple size power
    else (if reads bits power (multiple_below size power) then multiple_below size power else multiple_below size power + 1)

abbrev pub shortest_digits : ℕ → ℕ → ℕ
shortest_digits bits size = digits_over bits size (shortest_power bits size)

-- how far a multiple lies from the size
abbrev pub distance : ℕ → ℕ → ℕ → ℕ
distance size power digits = over size power - digits * under power + (digits * under power - over size power)
