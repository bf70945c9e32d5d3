-- Comparisons (OTTL, README, "Comparison Rules"): truth values, whole numbers with floats, texts, bytes, times and durations have an
-- order among themselves, `nil` equals `nil`, and two maps or two lists are equal or not; of any two others just `!=` holds.
use Rattle.std.specs.Prelude.{Bool, true, false, not, ◌||◌, Option, Some, None, Ok}
use Rattle.std.specs.declared.cmp.Ordering.{Ordering}
use Rattle.std.specs.declared.cmp.Ordering.TheVariants.{Less, Equal, Greater}
use Rattle.std.specs.Ordering.{nat_cmp, int_cmp, bool_cmp, float_partial_cmp}
use Rattle.std.specs.Cmp.Lexicographic.{slice_cmp}
use Rattle.std.specs.Float.{binary64}
use Rattle.std.specs.Float.Ieee.{of_int}
use Rattle.ottl_text.specs.declared.expression.Binary.{Binary}
use Rattle.ottl_text.specs.declared.expression.Binary.TheVariants as two
use Rattle.ottl_equality.specs.Equality.{lists_equal, maps_equal}
use Rattle.ottl_condition.specs.Values.{Value, nil, truth, int, float, text, bytes, map, list, time, duration, Answer, ◌>>=◌}

abbrev pub is_less : Option Ordering → Bool
is_less (Some Less) = true
is_less _ = false

abbrev pub is_equal : Option Ordering → Bool
is_equal (Some Equal) = true
is_equal _ = false

abbrev pub is_greater : Option Ordering → Bool
is_greater (Some Greater) = true
is_greater _ = false

-- whether a comparison holds of two values in this order; of two that have none just `!=` holds
abbrev pub holds : Binary → Option Ordering → Bool
holds two.Equal o = is_equal o
holds two.NotEqual o = not (is_equal o)
holds two.Less o = is_less o
holds two.AtMost o = is_less o || is_equal o
holds two.Greater o = is_greater o
holds two.AtLeast o = is_greater o || is_equal o
holds _ o = false

-- the order of two values, if they have one: a NaN has none
abbrev pub order_of : Value → Value → Option Ordering
order_of nil nil = Some Equal
order_of (truth x) (truth y) = Some (bool_cmp x y)
order_of (int x) (int y) = Some (int_cmp x y)
order_of (int x) (float y) = float_partial_cmp (of_int binary64 x) y
order_of (float x) (int y) = float_partial_cmp x (of_int binary64 y)
order_of (float x) (float y) = float_partial_cmp x y
order_of (text x) (text y) = Some (slice_cmp nat_cmp x y)
order_of (bytes x) (bytes y) = Some (slice_cmp nat_cmp x y)
order_of (time x) (time y) = Some (int_cmp x y)
order_of (duration x) (duration y) = Some (int_cmp x y)
order_of _ _ = None

-- whether a comparison holds of two values that have no order, and may be equal
abbrev pub by_equality : Binary → (are_equal : Bool) → Bool
by_equality two.Equal b = b
by_equality two.NotEqual b = not b
by_equality _ b = false

-- whether a comparison holds
unfoldable pub compared : Binary → Value → Value → Bool
compared b (map ps) (map qs) = by_equality b (maps_equal ps qs)
compared b (list vs) (list ws) = by_equality b (lists_equal vs ws)
compared b x y = holds b (order_of x y)

-- the operators that compare
abbrev pub is_comparison : Binary → Bool
is_comparison two.Equal = true
is_comparison two.NotEqual = true
is_comparison two.Less = true
is_comparison two.AtMost = true
is_comparison two.Greater = true
is_comparison two.AtLeast = true
is_comparison _ = false

-- whether a comparison holds of two values; the first error where there is one
abbrev pub comparison : Binary → Answer Value → Answer Value → Answer Bool
comparison b l r = l >>= λ x. r >>= λ y. Ok (compared b x y)
