-- Functions that convert (OTTL, `ottlfuncs`: `Int`, `Double`, `String`, `Duration`), and parts of texts (`Substring`).
use Rattle.std.specs.Prelude.{ℕ, ℤ, pos, ◌+◌, Bool, true, false, ◌&&◌, nat_le, nat_lt, List, length, take, drop, Option, Some, None, Result, Ok, Err, codes, if◌then◌else◌}
use Rattle.std.specs.Fmt.{signed_decimal}
use Rattle.std.specs.Int.{w64}
use Rattle.std.specs.Float.{Float, binary64, float_to_signed}
use Rattle.std.specs.Float.Ieee.{of_int}
use Rattle.std.specs.Str.{is_utf8}
use Rattle.ottl_text.specs.declared.fault.FaultKind.{FaultKind}
use Rattle.ottl_text.specs.Literals.{int_of, float_of}
use Rattle.ottl_duration.specs.Durations.{duration_of}
use Rattle.ottl_condition.specs.declared.eval_error.EvalError.TheVariants as errors
use Rattle.ottl_condition.specs.Values.{Value, nil, truth, int, float, text, duration, Answer, truth_text}

abbrev pub number_of : Bool → ℤ
number_of true = pos 1
number_of false = pos 0

abbrev pub int_or_nil : Result ℤ FaultKind → Value
int_or_nil (Ok z) = int z
int_or_nil (Err k) = nil

-- a float without its fraction, or the nearest whole number of 64 bits; the whole number that a text writes
unfoldable pub as_int : Value → Value
as_int (int z) = int z
as_int (float x) = int (float_to_signed w64 x)
as_int (truth b) = int (number_of b)
as_int (text t) = int_or_nil (int_of t)
as_int _ = nil

abbrev pub float_or_nil : Result Float FaultKind → Value
float_or_nil (Ok x) = float x
float_or_nil (Err k) = nil

unfoldable pub as_float : Value → Value
as_float (float x) = float x
as_float (int z) = float (of_int binary64 z)
as_float (truth b) = float (of_int binary64 (number_of b))
as_float (text t) = float_or_nil (float_of t)
as_float _ = nil

unfoldable pub as_text : Value → Answer Value
as_text nil = Ok nil
as_text (text t) = Ok (text t)
as_text (int z) = Ok (text (signed_decimal z))
as_text (truth b) = Ok (text (truth_text b))
as_text _ = Err errors.NoText

-- the text that a value has in `Concat` (OTTL, `StringLikeGetter`)
unfoldable pub as_like : Value → Answer Value
as_like nil = Ok (text (codes "<nil>"))
as_like v = as_text v

abbrev pub duration_or_error : Option ℤ → Answer Value
duration_or_error (Some z) = Ok (duration z)
duration_or_error None = Err errors.NotADuration

unfoldable pub as_duration : Value → Answer Value
as_duration (text t) = duration_or_error (duration_of t)
as_duration _ = Err errors.NotAText

-- bytes that are whole characters
abbrev pub whole : List ℕ → Option (List ℕ)
whole s = if is_utf8 s then Some s else None

-- the `size` bytes of a text from a place on, where it has them, and they are whole characters
abbrev pub piece : List ℕ → (start size : ℕ) → Option (List ℕ)
piece t start size = if nat_lt 0 size && nat_le (start + size) (length t) then whole (take size (drop start t)) else None

unfoldable pub piece_of : List ℕ → (start size : ℤ) → Option (List ℕ)
piece_of t (pos start) (pos size) = piece t start size
piece_of t _ _ = None

abbrev pub text_or_error : Option (List ℕ) → Answer Value
text_or_error (Some t) = Ok (text t)
text_or_error None = Err errors.OutOfText

unfoldable pub part_of : (of start size : Value) → Answer Value
part_of (text t) (int start) (int size) = text_or_error (piece_of t start size)
part_of (text t) _ _ = Err errors.NotANumber
part_of _ _ _ = Err errors.NotAText
