-- The floats that have names, as literals.
-- For the contract of `double_of_text`.
use Rattle.std.proofs.Common.{◌≡◌, true, false, refl}
use Rattle.std.specs.Float.{binary64, nan, inf}
use Rattle.std.specs.Float.Ieee

pub nan_is : Ieee.of_bits binary64 9221120237041090560 ≡ nan
unfolding Ieee.of_bits
nan_is = refl

pub infinity_is : Ieee.of_bits binary64 9218868437227405312 ≡ inf false
unfolding Ieee.of_bits
infinity_is = refl

pub minus_infinity_is : Ieee.of_bits binary64 18442240474082181120 ≡ inf true
unfolding Ieee.of_bits
minus_infinity_is = refl
