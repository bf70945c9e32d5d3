-- Sums, differences, products and quotients (OTTL, `LANGUAGE.md`, "Math Expressions"): of whole numbers in 64 bits, which
-- wrap, or of floats where one of the two is a float; differences of times; sums and differences of durations.
use Rattle.std.specs.Prelude.{ℤ, ◌-ℤ◌, pos, Ok, Err, if◌then◌else◌}
use Rattle.std.specs.Int.{w64, int_wrapping_add, int_wrapping_sub, int_wrapping_mul, int_wrapping_div, saturate_signed}
use Rattle.std.specs.Ordering.{int_eq}
use Rattle.std.specs.Float.{Float, binary64, float_zero}
use Rattle.std.specs.Float.Ieee as floats
use Rattle.ottl_text.specs.declared.expression.Binary.{Binary}
use Rattle.ottl_text.specs.declared.expression.Binary.TheVariants as two
use Rattle.ottl_condition.specs.declared.eval_error.EvalError.TheVariants as errors
use Rattle.ottl_condition.specs.Values.{Value, int, float, time, duration, Answer}

abbrev pub of_ints : Binary → ℤ → ℤ → Answer Value
of_ints two.Add x y = Ok (int (int_wrapping_add w64 x y))
of_ints two.Subtract x y = Ok (int (int_wrapping_sub w64 x y))
of_ints two.Multiply x y = Ok (int (int_wrapping_mul w64 x y))
of_ints _ x y = if int_eq y (pos 0) then Err errors.DividedByZero else Ok (int (int_wrapping_div w64 x y))

abbrev pub of_floats : Binary → Float → Float → Answer Value
of_floats two.Add x y = Ok (float (floats.add binary64 x y))
of_floats two.Subtract x y = Ok (float (floats.sub binary64 x y))
of_floats two.Multiply x y = Ok (float (floats.mul binary64 x y))
of_floats _ x y = if floats.eq y float_zero then Err errors.DividedByZero else Ok (float (floats.div binary64 x y))

-- a difference of times is a duration, the nearest that there is
abbrev pub of_times : Binary → ℤ → ℤ → Answer Value
of_times two.Subtract x y = Ok (duration (saturate_signed w64 (x -ℤ y)))
of_times _ x y = Err errors.NotANumber

abbrev pub of_durations : Binary → ℤ → ℤ → Answer Value
of_durations two.Add x y = Ok (duration (int_wrapping_add w64 x y))
of_durations two.Subtract x y = Ok (duration (int_wrapping_sub w64 x y))
of_durations _ x y = Err errors.NotANumber

-- what an operator makes of two numbers, times or durations
unfoldable pub calculated : Binary → Value → Value → Answer Value
calculated b (int x) (int y) = of_ints b x y
calculated b (int x) (float y) = of_floats b (floats.of_int binary64 x) y
calculated b (float x) (int y) = of_floats b x (floats.of_int binary64 y)
calculated b (float x) (float y) = of_floats b x y
calculated b (time x) (time y) = of_times b x y
calculated b (duration x) (duration y) = of_durations b x y
calculated b _ _ = Err errors.NotANumber
