-- Functions (OTTL, `ottlfuncs`).
use Rattle.std.specs.Prelude.{ℕ, pos, Bool, true, false, not, nat_le, ◌-◌, ◌&&◌, List, length, take, drop, bytes_eq, Ok, Err}
use Rattle.std.specs.Fmt.{signed_decimal}
use Rattle.expression.specs.Expressions as expressions
use Rattle.ottl_text.specs.declared.expression.Unary.{Unary}
use Rattle.ottl_text.specs.declared.expression.Unary.TheVariants as one
use Rattle.ottl_condition.specs.declared.eval_error.EvalError.TheVariants as errors
use Rattle.ottl_condition.specs.Values.{Value, nil, truth, int, float, text, map, list, Answer, as_truth, truth_text}
use Rattle.ottl_condition.specs.Conversions.{as_int, as_float, as_text, as_like, as_duration}

abbrev pub is_text : Value → Bool
is_text (text t) = true
is_text _ = false

abbrev pub is_int : Value → Bool
is_int (int z) = true
is_int _ = false

abbrev pub is_float : Value → Bool
is_float (float x) = true
is_float _ = false

abbrev pub is_bool : Value → Bool
is_bool (truth b) = true
is_bool _ = false

abbrev pub is_map : Value → Bool
is_map (map ps) = true
is_map _ = false

abbrev pub is_list : Value → Bool
is_list (list vs) = true
is_list _ = false

-- the bytes of a text, the pairs of a map, the values of a list
abbrev pub length_of : Value → Answer Value
length_of (text t) = Ok (int (pos (length t)))
length_of (map ps) = Ok (int (pos (length ps)))
length_of (list vs) = Ok (int (pos (length vs)))
length_of _ = Err errors.NoLength

abbrev pub negated : Answer Bool → Answer Value
negated (Ok b) = Ok (truth (not b))
negated (Err e) = Err e

-- what a function of one value makes of it
unfoldable pub made_of : Unary → Value → Answer Value
made_of one.Not v = negated (as_truth v)
made_of one.IsString v = Ok (truth (is_text v))
made_of one.IsInt v = Ok (truth (is_int v))
made_of one.IsDouble v = Ok (truth (is_float v))
made_of one.IsBool v = Ok (truth (is_bool v))
made_of one.IsMap v = Ok (truth (is_map v))
made_of one.IsList v = Ok (truth (is_list v))
made_of one.Len v = length_of v
made_of one.Int v = Ok (as_int v)
made_of one.Double v = Ok (as_float v)
made_of one.Text v = as_text v
made_of one.Duration v = as_duration v
made_of one.Like v = as_like v

-- one text begins with the other, or ends with it
abbrev pub has_prefix : (text prefix : List ℕ) → Bool
has_prefix t p = bytes_eq (take (length p) t) p

abbrev pub has_suffix : (text suffix : List ℕ) → Bool
has_suffix t p = nat_le (length p) (length t) && bytes_eq (drop (length t - length p) t) p

-- of two texts; nothing else is tested so
unfoldable pub tested : (List ℕ → List ℕ → Bool) → Value → Value → Answer Value
tested f (text x) (text y) = Ok (truth (f x y))
tested f _ _ = Err errors.NotAText

-- whether a regular expression has a match in a text, or in that of a whole number or a truth value; `nil` has none
unfoldable pub searched : (pattern : List ℕ) → Value → Answer Value
searched pattern (text t) = Ok (truth (expressions.is_match pattern t))
searched pattern (int z) = Ok (truth (expressions.is_match pattern (signed_decimal z)))
searched pattern (truth b) = Ok (truth (expressions.is_match pattern (truth_text b)))
searched pattern nil = Ok (truth false)
searched pattern _ = Err errors.NotAText
