-- The values that expressions have (OTTL, README: the types of its comparison rules).
use Rattle.std.specs.Prelude.{ℕ, ℤ, Bool, true, false, List, Option, Some, None, Result, Ok, Err, codes}
use Rattle.std.specs.Float.{Float}
use Rattle.otlp_types.specs.declared.value.AnyValue.{AnyValue, out-AnyValue}
use Rattle.otlp_types.specs.declared.value.AnyValue.TheOpen.{AnyValue-F}
use Rattle.otlp_types.specs.declared.value.KeyValue.{KeyValue}
use Rattle.ottl_text.specs.declared.expression.Literal.{Literal}
use Rattle.ottl_text.specs.declared.expression.Literal.TheVariants as literals
use Rattle.ottl_equality.specs.Encoded.{decoded}
use Rattle.ottl_condition.specs.declared.value.Value.{Value as Held}
use Rattle.ottl_condition.specs.declared.value.Value.TheVariants as declared_as
use Rattle.ottl_condition.specs.declared.eval_error.EvalError.{EvalError}
use Rattle.ottl_condition.specs.declared.eval_error.EvalError.TheVariants as errors

pub data Value : Type 0 where
  nil : Value
  truth : Bool → Value
  int : ℤ → Value
  float : Float → Value
  text : List ℕ → Value
  bytes : List ℕ → Value
  map : List KeyValue → Value
  list : List AnyValue → Value
  -- a point in time, and a length of time, in nanoseconds
  time : ℤ → Value
  duration : ℤ → Value

-- a value as the program holds it
abbrev pub value_of : Held → Value
value_of declared_as.Nil = nil
value_of (declared_as.Bool b) = truth b
value_of (declared_as.Int z) = int z
value_of (declared_as.Float x) = float x
value_of (declared_as.Text t) = text t.now
value_of (declared_as.Made t) = text t.now
value_of (declared_as.Digits t) = text t.bytes
value_of (declared_as.Bytes b) = bytes b.now
value_of (declared_as.Encoded t) = bytes (decoded t.now)
value_of (declared_as.Map ps) = map ps.now
value_of (declared_as.List vs) = list vs.now
value_of (declared_as.Time z) = time z
value_of (declared_as.Duration z) = duration z

-- one level of the value of an attribute
abbrev pub open_value : AnyValue-F AnyValue KeyValue → Value
open_value AnyValue-F.Empty = nil
open_value (AnyValue-F.Str t) = text t
open_value (AnyValue-F.Bool b) = truth b
open_value (AnyValue-F.Int z) = int z
open_value (AnyValue-F.Double x) = float x
open_value (AnyValue-F.Array vs) = list vs
open_value (AnyValue-F.KvList ps) = map ps
open_value (AnyValue-F.Bytes t) = bytes (decoded t)

-- the value of an attribute
abbrev pub any_value : AnyValue → Value
any_value v = open_value (out-AnyValue v)

abbrev pub literal_value : Literal → Value
literal_value literals.Nil = nil
literal_value (literals.Bool b) = truth b
literal_value (literals.Int z) = int z
literal_value (literals.Float x) = float x
literal_value (literals.Text t) = text t
literal_value (literals.Bytes b) = bytes b

-- what is answered, or the first error
abbrev pub Answer : Type 0 → Type 0
Answer A = Result A EvalError

infixl 10 ◌>>=◌
abbrev pub ◌>>=◌ : {A B : Type 0} → Answer A → (A → Answer B) → Answer B
Ok a >>= f = f a
Err e >>= f = Err e

-- an answer as the program holds it
abbrev pub answer_of : Result Held EvalError → Answer Value
answer_of (Ok v) = Ok (value_of v)
answer_of (Err e) = Err e

abbrev pub as_truth : Value → Answer Bool
as_truth (truth b) = Ok b
as_truth _ = Err errors.NotABool

abbrev pub text_in : Value → Option (List ℕ)
text_in (text t) = Some t
text_in _ = None

abbrev pub bytes_in : Value → Option (List ℕ)
bytes_in (bytes b) = Some b
bytes_in _ = None

abbrev pub truth_text : Bool → List ℕ
truth_text true = codes "true"
truth_text false = codes "false"
