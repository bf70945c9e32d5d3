-- Worked cases of the shortest texts, computed. No contract rests on it.
-- The digits are those of Python's `repr`, the layout that of the Rust crate `ryu`.
use Rattle.std.proofs.Common.{◌≡◌, codes, pos, true, refl}
use Rattle.std.specs.Float.{fin, binary64}
use Rattle.std.specs.Prelude.{⊤}
use Rattle.std.specs.Fmt.{digits}
use lib.Ieee.{to_bits, of_bits, round}
use Rattle.shortest_float.specs.Decimals.{reads, has_decimal, power_from, digits_over}
use Rattle.shortest_float.specs.Layout.{layout}
use Rattle.shortest_float.specs.Shortest.{size_text, shortest_text}

-- what computes the text of a literal
unfoldable texts_on_literals : ⊤
unfolding to_bits of_bits round digits reads has_decimal power_from digits_over layout size_text shortest_text
texts_on_literals = tt

minus_zero : shortest_text (fin true 0 (pos 0)) ≡ codes "-0.0"
unfolding texts_on_literals
minus_zero = refl

tenth : shortest_text (of_bits binary64 0x3FB999999999999A) ≡ codes "0.1"
unfolding texts_on_literals
tenth = refl

sum_of_tenths : shortest_text (of_bits binary64 0x3FD3333333333334) ≡ codes "0.30000000000000004"
unfolding texts_on_literals
sum_of_tenths = refl

one : shortest_text (of_bits binary64 0x3FF0000000000000) ≡ codes "1.0"
unfolding texts_on_literals
one = refl

zero : shortest_text (of_bits binary64 0x0000000000000000) ≡ codes "0.0"
unfolding texts_on_literals
zero = refl

least : shortest_text (of_bits binary64 0x0000000000000001) ≡ codes "5e-324"
unfolding texts_on_literals
least = refl

two_least : shortest_text (of_bits binary64 0x0000000000000002) ≡ codes "1e-323"
unfolding texts_on_literals
two_least = refl

largest : shortest_text (of_bits binary64 0x7FEFFFFFFFFFFFFF) ≡ codes "1.7976931348623157e308"
unfolding texts_on_literals
largest = refl

least_normal : shortest_text (of_bits binary64 0x0010000000000000) ≡ codes "2.2250738585072014e-308"
unfolding texts_on_literals
least_normal = refl

largest_subnormal : shortest_text (of_bits binary64 0x000FFFFFFFFFFFFF) ≡ codes "2.225073858507201e-308"
unfolding texts_on_literals
largest_subnormal = refl

ten_to_22 : shortest_text (of_bits binary64 0x4480F0CF064DD592) ≡ codes "1e22"
unfolding texts_on_literals
ten_to_22 = refl

ten_to_23 : shortest_text (of_bits binary64 0x44B52D02C7E14AF6) ≡ codes "1e23"
unfolding texts_on_literals
ten_to_23 = refl

even_beyond_53_bits : shortest_text (of_bits binary64 0x4340000000000000) ≡ codes "9007199254740992.0"
unfolding texts_on_literals
even_beyond_53_bits = refl

two_to_minus_44 : shortest_text (of_bits binary64 0x3D30000000000000) ≡ codes "5.684341886080802e-14"
unfolding texts_on_literals
two_to_minus_44 = refl

two_to_minus_20 : shortest_text (of_bits binary64 0x3EB0000000000000) ≡ codes "9.5367431640625e-7"
unfolding texts_on_literals
two_to_minus_20 = refl

thousands : shortest_text (of_bits binary64 0x40FE240C9FBE76C9) ≡ codes "123456.789"
unfolding texts_on_literals
thousands = refl

tie_to_even : shortest_text (of_bits binary64 0x4310000000000001) ≡ codes "1125899906842624.2"
unfolding texts_on_literals
tie_to_even = refl

tie_to_even_above : shortest_text (of_bits binary64 0x4310000000000003) ≡ codes "1125899906842624.8"
unfolding texts_on_literals
tie_to_even_above = refl

negative : shortest_text (of_bits binary64 0xBFF8000000000000) ≡ codes "-1.5"
unfolding texts_on_literals
negative = refl

ten_to_15 : shortest_text (of_bits binary64 0x430C6BF526340000) ≡ codes "1000000000000000.0"
unfolding texts_on_literals
ten_to_15 = refl

ten_to_16 : shortest_text (of_bits binary64 0x4341C37937E08000) ≡ codes "1e16"
unfolding texts_on_literals
ten_to_16 = refl

four_zeros : shortest_text (of_bits binary64 0x3EEF75104D551D69) ≡ codes "0.000015"
unfolding texts_on_literals
four_zeros = refl

quarter : shortest_text (of_bits binary64 0x3FD0000000000000) ≡ codes "0.25"
unfolding texts_on_literals
quarter = refl

five_zeros : shortest_text (of_bits binary64 0x3EB92A737110E454) ≡ codes "1.5e-6"
unfolding texts_on_literals
five_zeros = refl

ten_to_308 : shortest_text (of_bits binary64 0x7FE1CCF385EBC8A0) ≡ codes "1e308"
unfolding texts_on_literals
ten_to_308 = refl

two_to_63 : shortest_text (of_bits binary64 0x43E0000000000000) ≡ codes "9.223372036854776e18"
unfolding texts_on_literals
two_to_63 = refl

two_to_89 : shortest_text (of_bits binary64 0x4580000000000000) ≡ codes "6.189700196426902e26"
unfolding texts_on_literals
two_to_89 = refl

whole_hundreds : shortest_text (of_bits binary64 0x4092C00000000000) ≡ codes "1200.0"
unfolding texts_on_literals
whole_hundreds = refl
