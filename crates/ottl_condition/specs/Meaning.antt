-- What an expression's value is on a span or on an event, and a condition's.
use Rattle.std.specs.Prelude.{ℕ, ◌+◌, Bool, true, false, List, [], ◌∷◌, ◌++◌, Ok}
use Rattle.ottl_text.specs.declared.expression.Binary.{Binary}
use Rattle.ottl_text.specs.declared.expression.Binary.TheVariants as two
use Rattle.ottl_text.specs.declared.expression.Case.{Case}
use Rattle.ottl_text.specs.declared.expression.Unary.{Unary}
use Rattle.ottl_text.specs.Syntax.{Term, literal, path, is_root_span, unary, binary, is_match, substring, cased, concat}
use Rattle.ottl_condition.specs.Subjects.{Subject, sent_of}
use Rattle.ottl_condition.specs.Values.{Value, truth, literal_value, Answer, ◌>>=◌, as_truth}
use Rattle.ottl_condition.specs.Paths.{begun, walk, is_root, parent_of}
use Rattle.ottl_condition.specs.Comparing.{compared}
use Rattle.ottl_condition.specs.Arithmetic.{calculated}
use Rattle.ottl_condition.specs.Conversions.{part_of}
use Rattle.ottl_condition.specs.Functions.{made_of, tested, has_prefix, has_suffix, searched}
use Rattle.ottl_condition.specs.Made as made

abbrev pub as_condition : Value → Answer Value
as_condition v = as_truth v >>= λ b. Ok (truth b)

-- the first where it is true, and else the second; an error of the first is an error of both, and one of the second
-- only where it is asked
abbrev pub either : Bool → Answer Value → Answer Value
either true r = Ok (truth true)
either false r = r >>= as_condition

-- the first where it is false, and else the second
abbrev pub each : Bool → Answer Value → Answer Value
each true r = r >>= as_condition
each false r = Ok (truth false)

-- what an operator that takes two values makes of them
unfoldable pub combined : Binary → Value → Value → Answer Value
combined two.Add x y = calculated two.Add x y
combined two.Subtract x y = calculated two.Subtract x y
combined two.Multiply x y = calculated two.Multiply x y
combined two.Divide x y = calculated two.Divide x y
combined two.HasPrefix x y = tested has_prefix x y
combined two.HasSuffix x y = tested has_suffix x y
combined b x y = Ok (truth (compared b x y))

-- what an operator makes of a value and of what stands behind it, which `or` and `and` may not ask
abbrev pub beside : Binary → Value → Answer Value → Answer Value
beside two.Or x r = as_truth x >>= λ b. either b r
beside two.And x r = as_truth x >>= λ b. each b r
beside b x r = r >>= λ y. combined b x y

abbrev pub together : Binary → Answer Value → Answer Value → Answer Value
together b l r = l >>= λ x. beside b x r

-- a part of a value, from a place on, of a size
abbrev pub by_place : Value → (start size : Answer Value) → Answer Value
by_place v start size = start >>= λ x. size >>= λ y. part_of v x y

-- what is made of one value, or its error
abbrev pub made_on : Unary → Answer Value → Answer Value
made_on u r = r >>= made_of u

abbrev pub searched_on : (pattern : List ℕ) → Answer Value → Answer Value
searched_on pattern r = r >>= searched pattern

-- a text in a case, or its error
abbrev pub cased_on : Case → Answer Value → Answer Value
cased_on c r = r >>= made.cased c

-- a text and those behind it joined, or their error
abbrev pub joined_on : (delimiter : List ℕ) → (first : Value) → (others : Answer Value) → Answer Value
joined_on d x r = r >>= λ y. made.joined d x y

-- the value of an expression
abbrev pub value_on : Subject → Term → Answer Value
value_on s (literal l) = Ok (literal_value l)
value_on s (path p) = walk (begun p.root s) p.keys
value_on s is_root_span = Ok (truth (is_root (parent_of (sent_of s).span.ids)))
value_on s (unary u t) = made_on u (value_on s t)
value_on s (binary b x y) = together b (value_on s x) (value_on s y)
value_on s (is_match t pattern) = searched_on pattern (value_on s t)
value_on s (substring x y z) = value_on s x >>= λ v. by_place v (value_on s y) (value_on s z)
value_on s (cased c t) = cased_on c (value_on s t)
value_on s (concat x d y) = value_on s x >>= λ v. joined_on d v (value_on s y)

-- whether an expression is true; an error where it is neither true nor false
abbrev pub truth_on : Subject → Term → Answer Bool
truth_on s t = value_on s t >>= as_truth

-- the same of a condition, which is neither true nor false only by an error
abbrev pub condition_on : Subject → Term → Answer Value
condition_on s t = value_on s t >>= as_condition

-- whether a condition is true of a span or of an event, or its error
unfoldable pub meaning : Term → Subject → Answer Bool
meaning t s = value_on s t >>= as_truth

-- the regular expressions of an expression
abbrev pub patterns_of : Term → List (List ℕ)
patterns_of (literal l) = []
patterns_of (path p) = []
patterns_of is_root_span = []
patterns_of (unary u t) = patterns_of t
patterns_of (binary b x y) = patterns_of x ++ patterns_of y
patterns_of (is_match t pattern) = patterns_of t ++ pattern ∷ []
patterns_of (substring x y z) = patterns_of x ++ patterns_of y ++ patterns_of z
patterns_of (cased c t) = patterns_of t
patterns_of (concat x d y) = patterns_of x ++ patterns_of y

-- how many texts are made of an expression at most
abbrev pub texts_made : Term → ℕ
texts_made (literal l) = 0
texts_made (path p) = 0
texts_made is_root_span = 0
texts_made (unary u t) = texts_made t
texts_made (binary b x y) = texts_made x + texts_made y
texts_made (is_match t pattern) = texts_made t
texts_made (substring x y z) = texts_made x + texts_made y + texts_made z
texts_made (cased c t) = texts_made t + 1
texts_made (concat x d y) = texts_made x + texts_made y + 1
