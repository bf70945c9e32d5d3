-- Percentages (tailsamplingprocessor README, `sampling_percentage`), in ten-thousandths of a percent.
use Rattle.std.specs.Prelude.{ℕ, pos, ◌*◌, Bool, ◌&&◌, nat_le, Option, None, Some, if◌then◌else◌}
use Rattle.std.specs.Float.{Float, binary64, float_round, float_to_unsigned}
use Rattle.std.specs.Int.{w32}
use Rattle.toml.specs.Data.{Data, integer, float}
use lib.Ieee.{of_int, mul, div, eq}

-- a whole number over ten thousand as floats divide (IEEE 754): the float that is nearest to that number, as which its
-- text is read
abbrev pub over_ten_thousand : (count : ℕ) → Float
over_ten_thousand count = div binary64 (of_int binary64 (pos count)) (of_int binary64 (pos 10000))

-- the whole number that is nearest to ten thousand times a float, 0 where that is negative
abbrev pub nearest_count : Float → ℕ
nearest_count x = float_to_unsigned w32 (float_round binary64 (mul binary64 x (of_int binary64 (pos 10000))))

-- a float is that of a number from 0 to 100 with this count of ten-thousandths
abbrev pub is_count : (count : ℕ) → Float → Bool
is_count count x = nat_le count 1000000 && eq (over_ten_thousand count) x

-- the ten-thousandths that a float has, where it is that of a number from 0 to 100 with at most four decimals
unfoldable pub ten_thousandths : Float → Option ℕ
ten_thousandths x = if is_count (nearest_count x) x then Some (nearest_count x) else None

-- the ten-thousandths that a value has: a whole number from 0 to 100, or such a float
abbrev pub percentage_of : Data → Option ℕ
percentage_of (integer (pos number)) = if nat_le number 100 then Some (number * 10000) else None
percentage_of (float number) = ten_thousandths number
percentage_of _ = None
