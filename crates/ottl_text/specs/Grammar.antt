-- Which text is which condition, or what its first fault is (OTTL's grammar, `grammar.go`):
--
--   expression = operand { operator operand }     or < and < comparisons < + - < * /, from left to right
--   operand    = literal | path | "not" comparison | "(" expression ")" | call
--   path       = name { "[" (text | int) "]" }
--   call       = function "(" [ value { "," value } ] ")" | "Concat" "(" "[" [ value { "," value } ] "]" "," text ")"
--
-- The operands of `or`, `and` and `not` are conditions, those of the others values. A comparison has two operands.
use Rattle.std.specs.Prelude.{ℕ, zero, suc, ◌+◌, ◌-◌, Bool, true, false, ◌&&◌, ◌||◌, ◌==◌, nat_le, ℤ, List, [], ◌∷◌, ◌++◌, length, codes, bytes_eq, Option, Some, None, Result, Ok, Err, if◌then◌else◌}
use Rattle.ottl_text.specs.declared.expression.Context.{Context}
use Rattle.ottl_text.specs.declared.expression.Root.{Root}
use Rattle.ottl_text.specs.declared.expression.Key.{Key}
use Rattle.ottl_text.specs.declared.expression.Key.TheVariants as keys
use Rattle.ottl_text.specs.declared.expression.Literal.{Literal}
use Rattle.ottl_text.specs.declared.expression.Literal.TheVariants as literals
use Rattle.ottl_text.specs.declared.expression.Case.{Case}
use Rattle.ottl_text.specs.declared.expression.Unary.{Unary}
use Rattle.ottl_text.specs.declared.expression.Unary.TheVariants as one
use Rattle.ottl_text.specs.declared.expression.Binary.{Binary}
use Rattle.ottl_text.specs.declared.expression.Binary.TheVariants as two
use Rattle.ottl_text.specs.declared.fault.Fault.{Fault}
use Rattle.ottl_text.specs.declared.fault.FaultKind.{FaultKind}
use Rattle.ottl_text.specs.declared.fault.FaultKind.TheVariants as faults
use Rattle.ottl_text.specs.declared.fault.ParseError.{ParseError}
use Rattle.ottl_text.specs.declared.fault.ParseError.TheVariants.{Refused, NoMemory}
use Rattle.ottl_text.specs.declared.kind_error.KindError.{KindError}
use Rattle.ottl_text.specs.declared.kind_error.KindError.TheVariants as kinds
use Rattle.std.specs.Float.{Float}
use Rattle.ottl_lengths.specs.Lengths.{skip_blank}
use Rattle.ottl_text.specs.Tokens.{Piece, end, bytes, float, int, text, word, sign, next_piece}
use Rattle.ottl_text.specs.Literals.{int_of, float_of, bytes_of, text_of}
use Rattle.ottl_text.specs.Names.{enumeration_of, unary_of, binary_of, case_named, root_of, takes_keys, operator_of, precedence}
use Rattle.ottl_text.specs.Syntax.{Term, literal, path, is_root_span, unary, binary, is_match, substring, cased, concat, is_condition, is_value, suits, depth}
use Rattle.ottl_text.specs.Gives.{Read, ◌>>=◌}

-- the most levels that may nest, and the most operators in a row
abbrev pub most_levels : ℕ
most_levels = 200

-- so deep is a tree of operands and the operator between them at most
abbrev pub most_deep : ℕ
most_deep = 400

abbrev pub is_end : Piece → Bool
is_end end = true
is_end _ = false

-- the piece is this parenthesis, bracket or comma
abbrev pub is_the_sign : ℕ → Piece → Bool
is_the_sign c (sign d) = d == c
is_the_sign c _ = false

-- what is wrong with an operator whose operands don't suit
abbrev pub misplaced : Binary → FaultKind
misplaced two.Or = faults.NotACondition
misplaced two.And = faults.NotACondition
misplaced two.Add = faults.NotANumber
misplaced two.Subtract = faults.NotANumber
misplaced two.Multiply = faults.NotANumber
misplaced two.Divide = faults.NotANumber
misplaced _ = faults.NotAValue

-- `behind` is the column behind the last byte
module _ (behind : ℕ) where
  -- what is wrong with the piece that these bytes begin with
  abbrev pub fault_at : FaultKind → List ℕ → Fault
  fault_at kind s = record { kind = kind; column = behind - length (skip_blank s) }

  -- a fault of the piece that these bytes begin with
  abbrev pub at : {A : Type 0} → List ℕ → Result A FaultKind → Read A
  at s (Ok a) = Ok a
  at s (Err kind) = Err (fault_at kind s)

  -- the same as what is answered
  abbrev pub error_at : KindError → List ℕ → ParseError
  error_at (kinds.Refused kind) s = Refused (fault_at kind s)
  error_at kinds.NoMemory s = NoMemory

  -- the next piece, and what is left
  unfoldable pub next_at : List ℕ → Read (Piece × List ℕ)
  next_at s = at s (next_piece s)

  -- what is left behind this sign, which has to come next
  unfoldable pub after_sign : ℕ → FaultKind → List ℕ → Read (List ℕ)
  after_sign c kind s = next_at s >>= λ p. if is_the_sign c p.0 then Ok p.1 else Err (fault_at kind s)

  -- two terms joined, of which the operator is the piece that the bytes begin with
  unfoldable pub joined : Binary → Term → Term → List ℕ → Read Term
  joined b x y s =
      if suits b x && suits b y then (if nat_le (depth (binary b x y)) most_deep then Ok (binary b x y) else Err (fault_at faults.TooDeep s))
      else Err (fault_at (misplaced b) s)

  -- what literals write, with which the bytes `s` begin
  unfoldable pub text_at : (written s : List ℕ) → Read (List ℕ)
  text_at written s = at s (text_of written)

  unfoldable pub bytes_at : (written s : List ℕ) → Read (List ℕ)
  bytes_at written s = at s (bytes_of written)

  unfoldable pub int_at : (written s : List ℕ) → Read ℤ
  int_at written s = at s (int_of written)

  unfoldable pub float_at : (written s : List ℕ) → Read Float
  float_at written s = at s (float_of written)

  -- a key
  unfoldable pub key_of : Piece → List ℕ → Read Key
  key_of (text written) s = text_at written s >>= λ t. Ok (keys.Text t)
  key_of (int written) s = int_at written s >>= λ z. Ok (keys.Index z)
  key_of _ s = Err (fault_at faults.NoKey s)

  -- a key, and what is left
  unfoldable pub key_at : List ℕ → Read (Key × List ℕ)
  key_at s = next_at s >>= λ p. key_of p.0 s >>= λ k. Ok (k, p.1)

  -- the keys, behind those that were read, at most so many
  unfoldable pub keyed : ℕ → List Key → List ℕ → Read (List Key × List ℕ)
  keyed zero ks s = Err (fault_at faults.TooDeep s)
  keyed (suc n) ks s =
      next_at s >>= λ p.
      if is_the_sign 91 p.0
      then (key_at p.1 >>= λ k. after_sign 93 faults.NoClosingBracket k.1 >>= λ rest. keyed n (ks ++ k.0 ∷ []) rest)
      else Ok (ks, s)

  -- a path that begins so, behind its name
  unfoldable pub path_at : ℕ → Root → List ℕ → Read (Term × List ℕ)
  path_at n root s =
      keyed n [] s >>= λ p.
      if takes_keys root || (length p.0 == 0) then Ok (path (record { root = root; keys = p.0 }), p.1)
      else Err (fault_at faults.TakesNoKeys s)

  -- a regular expression, and what is left
  abbrev pub pattern_of : Piece → (s rest : List ℕ) → Read (List ℕ × List ℕ)
  pattern_of (text written) s rest = text_at written s >>= λ t. Ok (t, rest)
  pattern_of _ s rest = Err (fault_at faults.NoPattern s)

  unfoldable pub pattern_at : List ℕ → Read (List ℕ × List ℕ)
  pattern_at s = next_at s >>= λ p. pattern_of p.0 s p.1

  -- what `ConvertCase` makes of letters, and what is left
  abbrev pub or_no_case : Option Case → (s rest : List ℕ) → Read (Case × List ℕ)
  or_no_case (Some c) s rest = Ok (c, rest)
  or_no_case None s rest = Err (fault_at faults.NoCase s)

  abbrev pub case_of : Piece → (s rest : List ℕ) → Read (Case × List ℕ)
  case_of (text written) s rest = or_no_case (case_named written) s rest
  case_of _ s rest = Err (fault_at faults.NoCase s)

  unfoldable pub case_at : List ℕ → Read (Case × List ℕ)
  case_at s = next_at s >>= λ p. case_of p.0 s p.1

  -- what `Concat` puts between texts, and what is left behind its call
  abbrev pub delimiter_of : Piece → (s rest : List ℕ) → Read (List ℕ × List ℕ)
  delimiter_of (text written) s rest = text_at written s >>= λ t. after_sign 41 faults.NoClosing rest >>= λ s. Ok (t, s)
  delimiter_of _ s rest = Err (fault_at faults.NoDelimiter s)

  unfoldable pub delimiter_at : List ℕ → Read (List ℕ × List ℕ)
  delimiter_at s = after_sign 44 faults.NoComma s >>= λ s. next_at s >>= λ p. delimiter_of p.0 s p.1

  -- `Concat` of no value
  unfoldable pub no_values_at : List ℕ → Read (Term × List ℕ)
  no_values_at s = delimiter_at s >>= λ p. Ok (literal (literals.Text []), p.1)

  -- what stands behind a value of `Concat`, which more values follow, and else the delimiter
  abbrev pub behind_value : Term → Piece → (s rest : List ℕ) → (more : Read (Term × List ℕ × List ℕ)) → Read (Term × List ℕ × List ℕ)
  behind_value t p s rest more =
      if is_the_sign 44 p then (more >>= λ m. Ok (concat (unary one.Like t) m.1 m.0, m.1, m.2))
      else if is_the_sign 93 p then (delimiter_at rest >>= λ d. Ok (unary one.Like t, d.0, d.1))
      else Err (fault_at faults.NoClosingBracket s)

  -- `Concat`, behind its name, where `values` is what it makes of values, its delimiter, and what is left
  unfoldable pub concat_at : (values : List ℕ → Read (Term × List ℕ × List ℕ)) → List ℕ → Read (Term × List ℕ)
  concat_at values s =
      after_sign 40 faults.NoOpening s >>= λ s. after_sign 91 faults.NoOpeningBracket s >>= λ s. next_at s >>= λ p.
      if is_the_sign 93 p.0 then no_values_at p.1
      else (values s >>= λ m. Ok (m.0, m.2))

  -- `IsRootSpan`, behind its name
  unfoldable pub root_span_at : List ℕ → Read (Term × List ℕ)
  root_span_at s = after_sign 40 faults.NoOpening s >>= λ s. after_sign 41 faults.NoClosing s >>= λ s. Ok (is_root_span, s)

  -- a literal that is no name
  unfoldable pub literal_at : Piece → List ℕ → Read Literal
  literal_at (bytes d) s = bytes_at d s >>= λ b. Ok (literals.Bytes b)
  literal_at (float d) s = float_at d s >>= λ x. Ok (literals.Float x)
  literal_at (int d) s = int_at d s >>= λ z. Ok (literals.Int z)
  literal_at (text d) s = text_at d s >>= λ t. Ok (literals.Text t)
  literal_at _ s = Err (fault_at faults.NoValueHere s)

  -- `read` is the expressions that nest one level less, by the least precedence of their operators
  module _ (read : ℕ → List ℕ → Read (Term × List ℕ)) where
    -- a value that is given to a function, and what is left
    unfoldable pub argument_at : List ℕ → Read (Term × List ℕ)
    argument_at s = read 4 s >>= λ p. if is_value p.0 then Ok p else Err (fault_at faults.NotAValue s)

    -- a function of one value, behind its name
    unfoldable pub unary_at : Unary → List ℕ → Read (Term × List ℕ)
    unary_at u s =
        after_sign 40 faults.NoOpening s >>= λ s. argument_at s >>= λ p.
        after_sign 41 faults.NoClosing p.1 >>= λ s. Ok (unary u p.0, s)

    -- a function of two values
    unfoldable pub binary_at : Binary → List ℕ → Read (Term × List ℕ)
    binary_at b s =
        after_sign 40 faults.NoOpening s >>= λ s. argument_at s >>= λ p.
        after_sign 44 faults.NoComma p.1 >>= λ s. argument_at s >>= λ q.
        after_sign 41 faults.NoClosing q.1 >>= λ s. Ok (binary b p.0 q.0, s)

    -- `IsMatch`
    unfoldable pub match_at : List ℕ → Read (Term × List ℕ)
    match_at s =
        after_sign 40 faults.NoOpening s >>= λ s. argument_at s >>= λ p.
        after_sign 44 faults.NoComma p.1 >>= λ s. pattern_at s >>= λ q.
        after_sign 41 faults.NoClosing q.1 >>= λ s. Ok (is_match p.0 q.0, s)

    -- `Substring`
    unfoldable pub substring_at : List ℕ → Read (Term × List ℕ)
    substring_at s =
        after_sign 40 faults.NoOpening s >>= λ s. argument_at s >>= λ p.
        after_sign 44 faults.NoComma p.1 >>= λ s. argument_at s >>= λ q.
        after_sign 44 faults.NoComma q.1 >>= λ s. argument_at s >>= λ r.
        after_sign 41 faults.NoClosing r.1 >>= λ s. Ok (substring p.0 q.0 r.0, s)

    -- `ConvertCase`
    unfoldable pub cased_at : List ℕ → Read (Term × List ℕ)
    cased_at s =
        after_sign 40 faults.NoOpening s >>= λ s. argument_at s >>= λ p.
        after_sign 44 faults.NoComma p.1 >>= λ s. case_at s >>= λ c.
        after_sign 41 faults.NoClosing c.1 >>= λ s. Ok (cased c.0 p.0, s)

    -- behind `not`
    unfoldable pub not_at : List ℕ → Read (Term × List ℕ)
    not_at s = read 3 s >>= λ p. if is_condition p.0 then Ok (unary one.Not p.0, p.1) else Err (fault_at faults.NotACondition s)

    -- behind `(`
    unfoldable pub inner_at : List ℕ → Read (Term × List ℕ)
    inner_at s = read 1 s >>= λ p. after_sign 41 faults.NoClosing p.1 >>= λ s. Ok (p.0, s)

    module _ (levels : ℕ) (context : Context) where
      -- what a name is, of which the bytes `s` begin, and `rest` is left
      abbrev pub by_root : Option Root → (s rest : List ℕ) → Read (Term × List ℕ)
      by_root (Some root) s rest = path_at levels root rest
      by_root None s rest = Err (fault_at faults.UnknownName s)

      abbrev pub by_enumeration : Option ℤ → List ℕ → (s rest : List ℕ) → Read (Term × List ℕ)
      by_enumeration (Some z) w s rest = Ok (literal (literals.Int z), rest)
      by_enumeration None w s rest = by_root (root_of context w) s rest

      abbrev pub by_binary : Option Binary → List ℕ → (s rest : List ℕ) → Read (Term × List ℕ)
      by_binary (Some b) w s rest = binary_at b rest
      by_binary None w s rest = by_enumeration (enumeration_of w) w s rest

      abbrev pub by_unary : Option Unary → List ℕ → (s rest : List ℕ) → Read (Term × List ℕ)
      by_unary (Some u) w s rest = unary_at u rest
      by_unary None w s rest = by_binary (binary_of w) w s rest

      -- a function, an enumeration or a path
      unfoldable pub named_at : List ℕ → (s rest : List ℕ) → Read (Term × List ℕ)
      named_at w s rest = by_unary (unary_of w) w s rest

      -- `values` reads those of `Concat`
      module _ (values : List ℕ → Read (Term × List ℕ × List ℕ)) where
        -- a name
        unfoldable pub word_at : List ℕ → (s rest : List ℕ) → Read (Term × List ℕ)
        word_at w s rest =
            if bytes_eq w (codes "not") then not_at rest
            else if bytes_eq w (codes "nil") then Ok (literal literals.Nil, rest)
            else if bytes_eq w (codes "true") then Ok (literal (literals.Bool true), rest)
            else if bytes_eq w (codes "false") then Ok (literal (literals.Bool false), rest)
            else if bytes_eq w (codes "IsRootSpan") then root_span_at rest
            else if bytes_eq w (codes "IsMatch") then match_at rest
            else if bytes_eq w (codes "Substring") then substring_at rest
            else if bytes_eq w (codes "ConvertCase") then cased_at rest
            else if bytes_eq w (codes "Concat") then concat_at values rest
            else named_at w s rest

        -- a piece, with which the bytes `s` begin, and `rest` is left
        abbrev pub by_piece : Piece → (s rest : List ℕ) → Read (Term × List ℕ)
        by_piece (word w) s rest = word_at w s rest
        by_piece (sign c) s rest = if c == 40 then inner_at rest else Err (fault_at faults.NoValueHere s)
        by_piece p s rest = literal_at p s >>= λ l. Ok (literal l, rest)

        -- an operand, and what is left
        unfoldable pub operand : List ℕ → Read (Term × List ℕ)
        operand s = next_at s >>= λ p. by_piece p.0 s p.1

  -- `more` goes on with an operator's operand of this precedence, and with what follows
  abbrev pub by_operator : {A : Type 0} → Option Binary → (least : ℕ) → (Binary → Read A) → Read A → Read A
  by_operator None least more stop = stop
  by_operator (Some b) least more stop = if nat_le least (precedence b) then more b else stop

  unfoldable mutual
    -- an expression whose operators bind at least so tight, and what is left
    pub expression : Context → (levels : ℕ) → (least : ℕ) → List ℕ → Read (Term × List ℕ)
    expression context zero least s = Err (fault_at faults.TooDeep s)
    expression context (suc n) least s = operand (expression context n) n context (values context n) s >>= λ p. operators context n least p.0 p.1

    -- what operators behind a term make of it, from left to right
    pub operators : Context → (levels : ℕ) → (least : ℕ) → Term → List ℕ → Read (Term × List ℕ)
    operators context zero least left s = Err (fault_at faults.TooDeep s)
    operators context (suc n) least left s =
        next_at s >>= λ p.
        by_operator (operator_of p.0) least
        (λ b. expression context n (precedence b + 1) p.1 >>= λ q. joined b left q.0 s >>= λ both. operators context n least both q.1)
        (Ok (left, s))

    -- what `Concat` makes of the values that the bytes begin with, its delimiter, and what is left behind its call
    pub values : Context → (levels : ℕ) → List ℕ → Read (Term × List ℕ × List ℕ)
    values context zero s = Err (fault_at faults.TooDeep s)
    values context (suc n) s =
        argument_at (expression context n) s >>= λ p. next_at p.1 >>= λ q.
        behind_value p.0 q.0 p.1 q.1 (values context n q.1)

-- the condition on a span, or on an event, that a text is, or its first fault
unfoldable pub condition_of : Context → List ℕ → Read Term
condition_of context s =
    let behind = length s + 1 in
    expression behind context most_levels 1 s >>= λ p. next_at behind p.1 >>= λ q.
    if is_end q.0 then (if is_condition p.0 then Ok p.0 else Err (fault_at behind faults.NotACondition s))
    else Err (fault_at behind faults.GoesOn p.1)
