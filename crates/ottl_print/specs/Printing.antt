-- The text of a tree. Parentheses stand where precedence needs them; where the text would then nest too deep to be read
-- (operators in a row count as levels), also around operands on the left that nest less deep on their own.
use Rattle.std.specs.Prelude.{ℕ, ◌+◌, Bool, true, false, ◌&&◌, ◌||◌, nat_lt, nat_le, max, List, [], ◌∷◌, ◌++◌, length, codes, if◌then◌else◌}
use Rattle.ottl_text.specs.declared.expression.Context.{Context}
use Rattle.ottl_text.specs.declared.expression.Unary.{Unary}
use Rattle.ottl_text.specs.declared.expression.Unary.TheVariants as one
use Rattle.ottl_text.specs.declared.expression.Binary.{Binary}
use Rattle.ottl_text.specs.Names.{precedence}
use Rattle.ottl_text.specs.Syntax.{Term, literal, path, is_root_span, unary, binary, is_match, substring, cased, concat, is_not}
use Rattle.ottl_text.specs.Grammar.{most_levels}
use Rattle.ottl_print.specs.Names.{unary_name, binary_name, case_name, is_operator, root_name}
use Rattle.ottl_print.specs.Texts.{literal_text, in_quotes, keys_text}

-- how tight the outermost operator of a tree binds; `not` takes a comparison
abbrev pub tightness : Term → ℕ
tightness (binary b x y) = if is_operator b then precedence b else 6
tightness (unary u x) = if is_not u then 3 else 6
tightness _ = 6

abbrev pub is_row : Term → Bool
is_row (binary b x y) = is_operator b
is_row _ = false

-- how tight what a function takes has to bind, and what `not` takes
abbrev pub argument : ℕ
argument = 4

-- a value of `Concat`
abbrev pub is_like : Unary → Bool
is_like one.Like = true
is_like _ = false

abbrev pub operand_of_one : Unary → ℕ
operand_of_one u = if is_not u then 3 else argument

-- so many levels a text needs, and so many operators stand in it in a row outside parentheses
pub record Size : Type 0 where
  pub levels : ℕ
  pub row : ℕ

abbrev pub alone : ℕ → Size
alone n = record { levels = n; row = 0 }

-- the levels of a tree where operators have to bind at least so tight, from those of its text without parentheses
abbrev pub levels_at : (least : ℕ) → Term → (levels : ℕ) → ℕ
levels_at least t levels = if nat_lt (tightness t) least then levels + 1 else levels

-- of two operands, the first in parentheses or not
abbrev pub joined_size : (parentheses : Bool) → Size → (right : ℕ) → Size
joined_size true left right = record { levels = max (left.levels + 1) (right + 2); row = 1 }
joined_size false left right = record { levels = max left.levels (left.row + 2 + right); row = left.row + 1 }

-- whether parentheses save levels: the operand on the left and what follows it take more in a row
abbrev pub saves_levels : (sparing : Bool) → Term → Size → (right : ℕ) → Bool
saves_levels sparing x left right = sparing && (is_row x && nat_lt left.levels (left.row + 2 + right))

-- Whether the operand on the left stands in parentheses. `sparing`: also where that saves levels.
abbrev pub has_parentheses : (sparing : Bool) → Binary → Term → Size → (right : ℕ) → Bool
has_parentheses sparing b x left right = nat_lt (tightness x) (precedence b) || saves_levels sparing x left right

-- of a function of two values, by the levels of each
abbrev pub called_size : ℕ → ℕ → Size
called_size m n = alone (max m n + 1)

-- the levels of its own
abbrev pub levels_of_one : Unary → ℕ
levels_of_one u = if is_like u then 2 else 1

-- of `not` or a function of one value
abbrev pub one_size : Unary → Term → Size → Size
one_size u x s = alone (levels_at (operand_of_one u) x s.levels + levels_of_one u)

-- of `Substring`
abbrev pub part_size : (text start count : ℕ) → Size
part_size l m n = alone (max l (max m n) + 1)

abbrev pub size : (sparing : Bool) → Term → Size
size sparing (literal l) = alone 2
size sparing (path p) = alone (length p.keys + 2)
size sparing is_root_span = alone 2
size sparing (unary u x) = one_size u x (size sparing x)
size sparing (binary b x y) =
    if is_operator b then
    joined_size (has_parentheses sparing b x (size sparing x) (levels_at (precedence b + 1) y (size sparing y).levels)) (size sparing x) (levels_at (precedence b + 1) y (size sparing y).levels)
    else called_size (levels_at argument x (size sparing x).levels) (levels_at argument y (size sparing y).levels)
size sparing (is_match x pattern) = alone (levels_at argument x (size sparing x).levels + 1)
size sparing (substring x y z) =
    part_size (levels_at argument x (size sparing x).levels) (levels_at argument y (size sparing y).levels) (levels_at argument z (size sparing z).levels)
size sparing (cased k x) = alone (levels_at argument x (size sparing x).levels + 1)
size sparing (concat x delimiter y) = alone (max (size sparing x).levels ((size sparing y).levels + 1))

abbrev pub in_parentheses : Bool → List ℕ → List ℕ
in_parentheses parentheses s = if parentheses then 40 ∷ (s ++ 41 ∷ []) else s

-- an operand whose operators have to bind at least so tight, from its text
abbrev pub operand_text : (least : ℕ) → Term → List ℕ → List ℕ
operand_text least t s = in_parentheses (nat_lt (tightness t) least) s

-- behind the name of a function, up to its end or to the next argument
abbrev pub first_of : List ℕ → List ℕ → List ℕ
first_of s rest = 40 ∷ (s ++ rest)

abbrev pub next_of : List ℕ → List ℕ → List ℕ
next_of s rest = 44 ∷ 32 ∷ (s ++ rest)

abbrev pub closing : List ℕ
closing = 41 ∷ []

-- `Concat` of values, with its delimiter
abbrev pub concat_text : (values delimiter : List ℕ) → List ℕ
concat_text values delimiter = codes "Concat" ++ 40 ∷ 91 ∷ (values ++ 93 ∷ next_of (in_quotes delimiter) closing)

-- of `not` or a function of one value, from the text of that
abbrev pub one_text : Unary → Term → List ℕ → List ℕ
one_text u x s =
    if is_not u then codes "not " ++ operand_text 3 x s
    else if is_like u then concat_text (operand_text argument x s) []
    else unary_name u ++ first_of (operand_text argument x s) closing

-- how tight the operand on the right has to bind
abbrev pub right_of : Binary → ℕ
right_of b = precedence b + 1

-- of two operands and the operator between them, from their texts
abbrev pub row_text : (sparing : Bool) → Binary → (x y : Term) → (left right : List ℕ) → List ℕ
row_text sparing b x y left right =
    in_parentheses (has_parentheses sparing b x (size sparing x) (levels_at (right_of b) y (size sparing y).levels)) left ++ (32 ∷ (binary_name b ++ 32 ∷ operand_text (right_of b) y right))

abbrev mutual
  -- one space stands around operators, and behind commas
  pub text : (sparing : Bool) → Context → Term → List ℕ
  text sparing c (literal l) = literal_text l
  text sparing c (path p) = root_name c p.root ++ keys_text p.keys
  text sparing c is_root_span = codes "IsRootSpan()"
  text sparing c (unary u x) = one_text u x (text sparing c x)
  text sparing c (binary b x y) =
      if is_operator b then row_text sparing b x y (text sparing c x) (text sparing c y)
      else binary_name b ++ first_of (operand_text argument x (text sparing c x)) (next_of (operand_text argument y (text sparing c y)) closing)
  text sparing c (is_match x pattern) = codes "IsMatch" ++ first_of (operand_text argument x (text sparing c x)) (next_of (in_quotes pattern) closing)
  text sparing c (substring x y z) =
      codes "Substring"
      ++ first_of (operand_text argument x (text sparing c x)) (next_of (operand_text argument y (text sparing c y)) (next_of (operand_text argument z (text sparing c z)) closing))
  text sparing c (cased k x) = codes "ConvertCase" ++ first_of (operand_text argument x (text sparing c x)) (next_of (in_quotes (case_name k)) closing)
  text sparing c (concat x delimiter y) = concat_text (values_text sparing c x ++ 44 ∷ 32 ∷ values_text sparing c y) delimiter

  -- the values of `Concat`, of what is made of each and of those that follow
  pub values_text : (sparing : Bool) → Context → Term → List ℕ
  values_text sparing c (unary u x) = operand_text argument x (text sparing c x)
  values_text sparing c (concat x delimiter y) = values_text sparing c x ++ 44 ∷ 32 ∷ values_text sparing c y
  values_text sparing c _ = []

abbrev pub fits_in : ℕ → Size → Bool
fits_in n s = nat_le s.levels n

-- whether only parentheses that precedence doesn't need let the text be read
abbrev pub is_sparing : Term → Bool
is_sparing t = nat_lt most_levels (size false t).levels && fits_in most_levels (size true t)

-- the text of a condition
unfoldable pub printed : Context → Term → List ℕ
printed c t = text (is_sparing t) c t
