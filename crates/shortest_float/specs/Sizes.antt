-- The size of a float, from its bits without the sign (IEEE 754-2019, section 3.4).
use Rattle.std.specs.Prelude.{◌≡◌, ℕ, ◌^◌, ◌<◌, ◌≤◌}
use Rattle.std.specs.Float.{binary64}
use Rattle.fast_float.specs.Rounding.{scaled_bits}

-- these are the bits of significand * 2 ^ exponent times the least float above 0, which is finite and not 0
pub record IsFinite (bits significand exponent : ℕ) : Type 0 where
  pub bits_are : scaled_bits binary64 significand exponent ≡ bits
  pub some : 0 < significand
  pub fits : significand < 2 ^ 53
  pub normal : 0 < exponent → 2 ^ 52 ≤ significand
  pub finite : exponent ≤ 2045
