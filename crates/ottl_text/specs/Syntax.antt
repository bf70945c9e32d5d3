-- Conditions as trees (OTTL, `LANGUAGE.md`). The parts that hold no tree are the program's own.
use Rattle.std.specs.Prelude.{ℕ, ◌+◌, max, List, Bool, true, false, not}
use Rattle.ottl_text.specs.declared.expression.Literal.{Literal}
use Rattle.ottl_text.specs.declared.expression.Path.{Path}
use Rattle.ottl_text.specs.declared.expression.Unary.{Unary}
use Rattle.ottl_text.specs.declared.expression.Unary.TheVariants.{Not}
use Rattle.ottl_text.specs.declared.expression.Case.{Case}
use Rattle.ottl_text.specs.declared.expression.Binary.{Binary}
use Rattle.ottl_text.specs.declared.expression.Binary.TheVariants as two
use Rattle.ottl_text.specs.declared.expression.Expression.{Expression}
use Rattle.ottl_text.specs.declared.expression.Expression.TheVariants as declared_as
use Rattle.ottl_text.specs.declared.expression.Literal.TheVariants as literals

-- a literal, a path, `IsRootSpan()`, what is made of one or two, `IsMatch` with its regular expression, `Substring`,
-- `ConvertCase`, and of `Concat` the first text, the delimiter and the others
pub data Term : Type 0 where
  literal : Literal → Term
  path : Path → Term
  is_root_span : Term
  unary : Unary → Term → Term
  binary : Binary → Term → Term → Term
  is_match : Term → (pattern : List ℕ) → Term
  substring : (text start size : Term) → Term
  cased : Case → Term → Term
  concat : (first : Term) → (delimiter : List ℕ) → (others : Term) → Term

-- the tree that an expression is
abbrev pub term_of : Expression → Term
term_of (declared_as.Literal l) = literal l
term_of (declared_as.Path p) = path p
term_of declared_as.IsRootSpan = is_root_span
term_of (declared_as.Unary' u p e) = unary u (term_of e)
term_of (declared_as.Binary' b p x q y) = binary b (term_of x) (term_of y)
term_of (declared_as.IsMatch' p e pattern) = is_match (term_of e) pattern
term_of (declared_as.Substring' p x q y r z) = substring (term_of x) (term_of y) (term_of z)
term_of (declared_as.Cased' c p e) = cased c (term_of e)
term_of (declared_as.Concat' p x delimiter q y) = concat (term_of x) delimiter (term_of y)

-- so many trees lie one in another
abbrev pub depth : Term → ℕ
depth (literal l) = 1
depth (path p) = 1
depth is_root_span = 1
depth (unary u t) = depth t + 1
depth (binary b x y) = max (depth x) (depth y) + 1
depth (is_match t pattern) = depth t + 1
depth (substring x y z) = max (depth x) (max (depth y) (depth z)) + 1
depth (cased c t) = depth t + 1
depth (concat x delimiter y) = max (depth x) (depth y) + 1

abbrev pub is_truth : Literal → Bool
is_truth (literals.Bool b) = true
is_truth _ = false

abbrev pub is_amount : Literal → Bool
is_amount (literals.Int z) = true
is_amount (literals.Float x) = true
is_amount _ = false

-- what makes a condition and no value
abbrev pub is_connective : Binary → Bool
is_connective two.Or = true
is_connective two.And = true
is_connective two.Equal = true
is_connective two.NotEqual = true
is_connective two.Less = true
is_connective two.AtMost = true
is_connective two.Greater = true
is_connective two.AtLeast = true
is_connective _ = false

abbrev pub is_arithmetic : Binary → Bool
is_arithmetic two.Add = true
is_arithmetic two.Subtract = true
is_arithmetic two.Multiply = true
is_arithmetic two.Divide = true
is_arithmetic _ = false

abbrev pub is_not : Unary → Bool
is_not Not = true
is_not _ = false

-- what may stand alone, beside `and` and `or` and behind `not`
abbrev pub is_condition : Term → Bool
is_condition (literal l) = is_truth l
is_condition (path p) = false
is_condition is_root_span = true
is_condition (unary u t) = true
is_condition (binary b x y) = not (is_arithmetic b)
is_condition (is_match t pattern) = true
is_condition (substring x y z) = true
is_condition (cased c t) = true
is_condition (concat x delimiter y) = true

-- what may be compared, and given to a function
abbrev pub is_value : Term → Bool
is_value (literal l) = true
is_value (path p) = true
is_value is_root_span = true
is_value (unary u t) = not (is_not u)
is_value (binary b x y) = not (is_connective b)
is_value (is_match t pattern) = true
is_value (substring x y z) = true
is_value (cased c t) = true
is_value (concat x delimiter y) = true

-- what may be added, subtracted, multiplied and divided: what is written is a number, what is found may be one
abbrev pub is_number : Term → Bool
is_number (literal l) = is_amount l
is_number t = is_value t

-- what an operator or a function may take
abbrev pub suits : Binary → Term → Bool
suits two.Or t = is_condition t
suits two.And t = is_condition t
suits two.Add t = is_number t
suits two.Subtract t = is_number t
suits two.Multiply t = is_number t
suits two.Divide t = is_number t
suits _ t = is_value t
