-- What stands for a double.
-- For the contracts of `double_name` and `double`.
use Rattle.std.proofs.Common.{◌≡◌, codes, true, false, [], ◌∷◌, refl}
use lib.Ieee.{is_nan}
use Rattle.std.specs.Float.{Float, nan, inf, fin, float_is_finite, is_sign_negative}
use Rattle.json.specs.Token.{number as json_number}
use Rattle.serde_json.specs.Data.{string}
use Rattle.otlp_types.specs.Doubles.{double_text}
use Rattle.otlp_json.specs.Writing.{double_data}
use Rattle.otlp_json.specs.Tokens.{value_tokens}

pub nan_name : (x : Float) → is_nan x ≡ true → string (codes "NaN") ≡ double_data x
unfolding is_nan
nan_name nan e = refl
nan_name (inf s) e = absurd (cc e)
nan_name (fin s m k) e = absurd (cc e)

pub negative_name : (x : Float) → float_is_finite x ≡ false → is_nan x ≡ false → is_sign_negative x ≡ true → string (codes "-Infinity") ≡ double_data x
unfolding float_is_finite is_nan is_sign_negative
negative_name nan f n e = absurd (cc n)
negative_name (inf true) f n e = refl
negative_name (inf false) f n e = absurd (cc e)
negative_name (fin s m k) f n e = absurd (cc f)

pub positive_name : (x : Float) → float_is_finite x ≡ false → is_nan x ≡ false → is_sign_negative x ≡ false → string (codes "Infinity") ≡ double_data x
unfolding float_is_finite is_nan is_sign_negative
positive_name nan f n e = absurd (cc n)
positive_name (inf true) f n e = absurd (cc e)
positive_name (inf false) f n e = refl
positive_name (fin s m k) f n e = absurd (cc f)

pub finite_tokens : (x : Float) → float_is_finite x ≡ true → value_tokens (double_data x) ≡ json_number (double_text x) ∷ []
unfolding float_is_finite
finite_tokens nan e = absurd (cc e)
finite_tokens (inf s) e = absurd (cc e)
finite_tokens (fin s m k) e = refl
