-- Conditions by their texts.
use Rattle.std.specs.Prelude.{◌≡◌, ℕ, Bool, true, false, ◌&&◌, List, Result, Ok, Err, bytes_eq}
use Rattle.std.specs.List.{list_any, list_all}
use Rattle.expression.specs.Expressions.{is_expression}
use Rattle.ottl_text.specs.declared.expression.Context.{Context}
use Rattle.ottl_text.specs.declared.expression.Context.TheVariants as contexts
use Rattle.ottl_text.specs.declared.fault.Fault.{Fault}
use Rattle.ottl_text.specs.Syntax.{Term}
use Rattle.ottl_text.specs.Grammar.{condition_of}
use Rattle.ottl_condition.specs.Subjects.{Subject}
use Rattle.ottl_condition.specs.Values.{Answer}
use Rattle.ottl_condition.specs.Meaning.{meaning, patterns_of}
use Rattle.ottl_lists.specs.declared.checking.ConditionFault.{ConditionFault}
use Rattle.ottl_lists.specs.declared.checking.ConditionFault.TheVariants as faults

-- what was read is a condition, and its regular expressions are ones
abbrev pub is_read : Result Term Fault → Bool
is_read (Ok t) = list_all is_expression (patterns_of t)
is_read (Err fault) = false

-- the text is a condition on this, and its regular expressions are ones
unfoldable pub is_condition : Context → (text : List ℕ) → Bool
is_condition context text = is_read (condition_of context text)

-- what a text says, where it was read as this
abbrev pub said_by : Result Term Fault → Subject → Answer Bool
said_by (Ok t) s = meaning t s
said_by (Err fault) s = Ok false

-- what the condition of this text says
unfoldable pub said_of : Context → (text : List ℕ) → Subject → Answer Bool
said_of context text s = said_by (condition_of context text) s

abbrev pub is_same_context : Context → Context → Bool
is_same_context contexts.Span contexts.Span = true
is_same_context contexts.SpanEvent contexts.SpanEvent = true
is_same_context _ _ = false

-- it is the condition of this text
abbrev pub is_the : Context × List ℕ → Context → (text : List ℕ) → Bool
is_the condition context text = is_same_context condition.0 context && bytes_eq condition.1 text

-- the condition is among these
abbrev pub is_known : List (Context × List ℕ) → Context → (text : List ℕ) → Bool
is_known conditions context text = list_any (λ c. is_the c context text) conditions

-- each of the texts is among them, as a condition on this
abbrev pub are_known : List (Context × List ℕ) → Context → List (List ℕ) → Bool
are_known conditions context texts = list_all (is_known conditions context) texts

-- what is wrong with regular expressions of a condition; where memory was refused nothing is said
abbrev pub PatternsFail : ConditionFault → (patterns : List (List ℕ)) → Type 0
PatternsFail (faults.NotACondition fault) patterns = ⊥
PatternsFail faults.NotAnExpression patterns = list_all is_expression patterns ≡ false
PatternsFail faults.ExpressionTooBig patterns = list_all is_expression patterns ≡ true
PatternsFail faults.NoMemory patterns = Unit {0}

-- what is wrong with a text as a condition on this; where memory was refused nothing is said
abbrev pub IsFaultOf : ConditionFault → Context → (text : List ℕ) → Type 0
IsFaultOf (faults.NotACondition fault) context text = (condition_of context text ≡ Err fault) × (is_condition context text ≡ false)
IsFaultOf faults.NotAnExpression context text = is_condition context text ≡ false
IsFaultOf faults.ExpressionTooBig context text = is_condition context text ≡ true
IsFaultOf faults.NoMemory context text = Unit {0}
