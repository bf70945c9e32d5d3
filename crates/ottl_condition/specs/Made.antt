-- Texts that are made (OTTL, `ottlfuncs`: `ConvertCase`, `Concat`).
use Rattle.std.specs.Prelude.{ℕ, List, Option, Some, None, Ok, Err}
use Rattle.ottl_text.specs.declared.expression.Case.{Case}
use Rattle.ottl_made_texts.specs.MadeTexts as texts
use Rattle.ottl_condition.specs.declared.eval_error.EvalError.TheVariants as errors
use Rattle.ottl_condition.specs.Values.{Value, text, Answer}

abbrev pub made_or_error : Option (List ℕ) → Answer Value
made_or_error (Some t) = Ok (text t)
made_or_error None = Err errors.TextTooLong

-- a text in a case
unfoldable pub cased : Case → Value → Answer Value
cased c (text t) = made_or_error (texts.in_case c t)
cased c _ = Err errors.NotAText

-- two texts with a delimiter between them
unfoldable pub joined : (delimiter : List ℕ) → Value → Value → Answer Value
joined d (text x) (text y) = made_or_error (texts.joined x d y)
joined d _ _ = Err errors.NotAText
