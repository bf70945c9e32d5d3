-- What is read from a text is a tree that prints in no more levels.
-- For the law of laws::prints_as_itself.
use Rattle.std.proofs.Common.{◌≡◌, ℕ, zero, suc, ◌+◌, ◌<◌, ◌≤◌, ◌⊎◌, inl, inr, ℤ, Bool, true, false, cond, ◌&&◌, ◌||◌, List, [], length, get_or, nat_lt, nat_le, take, drop, Ok, Err, Result, Option, Some, None, codes, refl, sym, ap, ◌∙◌, subst, arith, true≢false, length-take, length-drop}
use Rattle.std.proofs.lemmas.Bool.{cases_lt}
use Rattle.std.proofs.lemmas.Bool.Decides.{nat_tests}
use Rattle.std.specs.Prelude.{◌==◌, bytes_eq, if◌then◌else◌}
use Rattle.ottl_lengths.specs.Lengths.{bytes_len, float_len, int_len, word_len, front_len, is_hex, quote_at}
use Rattle.ottl_text.specs.declared.expression.Context.{Context}
use Rattle.ottl_text.specs.declared.expression.Root.{Root}
use Rattle.ottl_text.specs.declared.expression.Literal.{Literal}
use Rattle.ottl_text.specs.declared.expression.Literal.TheVariants as literals
use Rattle.ottl_text.specs.declared.expression.Unary.{Unary}
use Rattle.ottl_text.specs.declared.expression.Unary.TheVariants as one
use Rattle.ottl_text.specs.declared.expression.Binary.{Binary}
use Rattle.ottl_text.specs.declared.expression.Binary.TheVariants as two
use Rattle.std.specs.Str.{is_utf8, chars}
use lib.Utf8.{encode}
use Rattle.ottl_text.specs.Literals.{in_utf8}
use Rattle.ottl_text.specs.declared.fault.FaultKind.{FaultKind}
use Rattle.ottl_text.specs.declared.fault.FaultKind.TheVariants as faults
use Rattle.ottl_text.specs.Gives.{Read, ◌>>=◌}
use Rattle.ottl_text.specs.Names.{operator_of, operator_of_word, precedence, takes_keys, unary_of, binary_of, enumeration_of, root_of}
use Rattle.ottl_text.specs.Syntax.{Term, literal, path, is_root_span, unary, binary, is_match, substring, cased, concat, is_condition, is_value, is_not, suits, depth}
use Rattle.ottl_text.specs.Tokens.{Piece, end, word, int, float, bytes, text, sign, operator, long_operator, short_operator, by_long, by_short, is_sign, marked, quoted, unnumbered, piece_at, next_piece}
use Rattle.ottl_text.specs.Grammar.{most_deep, next_at, after_sign, joined, fault_at, text_at, bytes_at, int_at, float_at, keyed, path_at, pattern_of, pattern_at, root_span_at, literal_at, argument_at, unary_at, binary_at, match_at, substring_at, not_at, inner_at, by_root, by_enumeration, by_binary, by_unary, named_at, word_at, by_piece, operand, by_operator, case_at, delimiter_of, delimiter_at, no_values_at, is_the_sign, cased_at, concat_at, values, expression, operators}
use Rattle.ottl_print.specs.Names.{is_operator}
use Rattle.ottl_print.specs.Printing.{tightness, is_row, argument, is_like, operand_of_one, levels_at, joined_size, has_parentheses, called_size, size}
use Rattle.ottl_print.proofs.Literals.{split}
use Rattle.ottl_print.proofs.Steps.{Begins, IsShallow}
use Rattle.ottl_print.proofs.ReadsBack.{FineLiteral, suits_one, Fine, FineValues, precedence_some, from_not_below, no_binary}
use Rattle.ottl_print.proofs.Parts.{no_ok, bind_ok, if_ok, same_ok, same_some, no_some, case_some, int_fits, text_utf8, bytes_fine, next_began, text_began, bytes_began, int_began, float_began, keyed_fine, enumeration_fits, root_in_context}
use Rattle.ottl_print.proofs.Floats.{float_is}

-- ---- what pieces are
abbrev FinePiece : Piece → Type 0
FinePiece (bytes d) = 0 < length d
FinePiece (operator b) = is_operator b ≡ true
FinePiece _ = Unit {0}

abbrev FineRead : Result (Piece × List ℕ) FaultKind → Type 0
FineRead (Ok p) = FinePiece p.0
FineRead (Err e) = Unit {0}

fine_cond : (test : Bool) (r q : Result (Piece × List ℕ) FaultKind) → (test ≡ true → FineRead r) → FineRead q → FineRead (cond test r q)
fine_cond true r q f g = f refl
fine_cond false r q f g = g

operator_cond : (test : Bool) (b : Binary) (o : Option Binary) → is_operator b ≡ true → ((d : Binary) → o ≡ Some d → is_operator d ≡ true) → (d : Binary) → cond test (Some b) o ≡ Some d → is_operator d ≡ true
operator_cond true b o f g d e = subst (λ d. is_operator d ≡ true) (same_some b d e) f
operator_cond false b o f g d e = g d e

none_operator : (d : Binary) → None ≡ Some d → is_operator d ≡ true
none_operator d e = no_binary d e

short_is : (c : ℕ) (d : Binary) → short_operator c ≡ Some d → is_operator d ≡ true
short_is c =
    operator_cond (c == 62) two.Greater (if c == 60 then Some two.Less else if c == 43 then Some two.Add else if c == 45 then Some two.Subtract else if c == 42 then Some two.Multiply else if c == 47 then Some two.Divide else None) refl
    (operator_cond (c == 60) two.Less (if c == 43 then Some two.Add else if c == 45 then Some two.Subtract else if c == 42 then Some two.Multiply else if c == 47 then Some two.Divide else None) refl
    (operator_cond (c == 43) two.Add (if c == 45 then Some two.Subtract else if c == 42 then Some two.Multiply else if c == 47 then Some two.Divide else None) refl
    (operator_cond (c == 45) two.Subtract (if c == 42 then Some two.Multiply else if c == 47 then Some two.Divide else None) refl
    (operator_cond (c == 42) two.Multiply (if c == 47 then Some two.Divide else None) refl (operator_cond (c == 47) two.Divide None refl none_operator)))))

long_first : (first : ℕ) (d : Binary) → (if first == 61 then Some two.Equal else if first == 33 then Some two.NotEqual else if first == 62 then Some two.AtLeast else if first == 60 then Some two.AtMost else None) ≡ Some d → is_operator d ≡ true
long_first first =
    operator_cond (first == 61) two.Equal (if first == 33 then Some two.NotEqual else if first == 62 then Some two.AtLeast else if first == 60 then Some two.AtMost else None) refl
    (operator_cond (first == 33) two.NotEqual (if first == 62 then Some two.AtLeast else if first == 60 then Some two.AtMost else None) refl
    (operator_cond (first == 62) two.AtLeast (if first == 60 then Some two.AtMost else None) refl (operator_cond (first == 60) two.AtMost None refl none_operator)))

long_is : (first second : ℕ) (d : Binary) → long_operator first second ≡ Some d → is_operator d ≡ true
long_is first second d e = go (second == 61) e
  where
    go : (test : Bool) → cond test (if first == 61 then Some two.Equal else if first == 33 then Some two.NotEqual else if first == 62 then Some two.AtLeast else if first == 60 then Some two.AtMost else None) None ≡ Some d → is_operator d ≡ true
    go true e = long_first first d e
    go false e = none_operator d e

short_fine : (o : Option Binary) (s : List ℕ) → ((d : Binary) → o ≡ Some d → is_operator d ≡ true) → FineRead (by_short o s)
short_fine (Some b) s f = f b refl
short_fine None s f = fine_cond (is_sign (get_or s 0 0)) (Ok (sign (get_or s 0 0), drop 1 s)) (Err faults.UnknownCharacter) (λ e. tt) tt

long_fine : (o : Option Binary) (s : List ℕ) → ((d : Binary) → o ≡ Some d → is_operator d ≡ true) → FineRead (by_long o s)
long_fine (Some b) s f = f b refl
long_fine None s f = short_fine (short_operator (get_or s 0 0)) s (short_is (get_or s 0 0))

marked_fine : (s : List ℕ) → FineRead (marked s)
unfolding marked
marked_fine s = long_fine (long_operator (get_or s 0 0) (get_or s 1 0)) s (long_is (get_or s 0 0) (get_or s 1 0))

quoted_fine : (s : List ℕ) → FineRead (quoted s)
unfolding quoted
quoted_fine s = fine_cond (nat_lt (quote_at s) (length s)) (Ok (text (take (quote_at s) s), drop (quote_at s + 1) s)) (Err faults.OpenText) (λ e. tt) tt

unnumbered_fine : (s : List ℕ) → FineRead (unnumbered s)
unfolding unnumbered
unnumbered_fine s =
    fine_cond (nat_lt 0 (word_len s)) (Ok (word (take (word_len s) s), drop (word_len s) s)) (if get_or s 0 0 == 34 then quoted (drop 1 s) else marked s) (λ e. tt)
    (fine_cond (get_or s 0 0 == 34) (quoted (drop 1 s)) (marked s) (λ e. quoted_fine (drop 1 s)) (marked_fine s))

front_within : (p : ℕ → Bool) (s : List ℕ) → front_len p s ≤ length s
front_within p s = omega (arith, length-take (Rattle.std.specs.List.prefix_len p s) s)

hex_digits : (s : List ℕ) → nat_lt 0 (bytes_len s) ≡ true → 0 < length (drop 2 (take (bytes_len s) s))
unfolding bytes_len
hex_digits s e = go ((get_or s 0 0 == 48) && (get_or s 1 0 == 120) && nat_lt 0 digits) refl e
  where
    digits : ℕ
    digits = front_len is_hex (drop 2 s)

    last_true : (a b d : Bool) → (a && b && d) ≡ true → d ≡ true
    last_true true true d e = e
    last_true true false d e = absurd (true≢false (sym e))
    last_true false b d e = absurd (true≢false (sym e))

    go : (test : Bool) → ((get_or s 0 0 == 48) && (get_or s 1 0 == 120) && nat_lt 0 (front_len is_hex (drop 2 s))) ≡ test → nat_lt 0 (cond test (2 + front_len is_hex (drop 2 s)) 0) ≡ true → 0 < length (drop 2 (take (cond test (2 + front_len is_hex (drop 2 s)) 0) s))
    go true is e =
        let n = front_len is_hex (drop 2 s) in
        let some : 0 < n = from_test n (last_true (get_or s 0 0 == 48) (get_or s 1 0 == 120) (nat_lt 0 n) is) in
        omega (arith, some, front_within is_hex (drop 2 s), length-drop 2 s, length-take (2 + n) s, length-drop 2 (take (2 + n) s))
      where
        from_test : (n : ℕ) → nat_lt 0 n ≡ true → 0 < n
        from_test n e = grind (arith, nat_tests, e)
    go false is e = absurd (true≢false (sym e))

piece_at_fine : (s : List ℕ) → FineRead (piece_at s)
unfolding piece_at
piece_at_fine s =
    fine_cond (length s == 0) (Ok (end, s)) (if nat_lt 0 (bytes_len s) then Ok (bytes (drop 2 (take (bytes_len s) s)), drop (bytes_len s) s) else if nat_lt 0 (float_len s) then Ok (float (take (float_len s) s), drop (float_len s) s) else if nat_lt 0 (int_len s) then Ok (int (take (int_len s) s), drop (int_len s) s) else unnumbered s)
    (λ e. tt)
    (fine_cond (nat_lt 0 (bytes_len s)) (Ok (bytes (drop 2 (take (bytes_len s) s)), drop (bytes_len s) s)) (if nat_lt 0 (float_len s) then Ok (float (take (float_len s) s), drop (float_len s) s) else if nat_lt 0 (int_len s) then Ok (int (take (int_len s) s), drop (int_len s) s) else unnumbered s)
    (λ e. hex_digits s e)
    (fine_cond (nat_lt 0 (float_len s)) (Ok (float (take (float_len s) s), drop (float_len s) s)) (if nat_lt 0 (int_len s) then Ok (int (take (int_len s) s), drop (int_len s) s) else unnumbered s) (λ e. tt)
    (fine_cond (nat_lt 0 (int_len s)) (Ok (int (take (int_len s) s), drop (int_len s) s)) (unnumbered s) (λ e. tt) (unnumbered_fine s))))

piece_fine : (s rest : List ℕ) (p : Piece) → Begins s p rest → FinePiece p
unfolding next_piece
piece_fine s rest p e = subst FineRead e (piece_at_fine (Rattle.ottl_lengths.specs.Lengths.skip_blank s))

word_operator : (w : List ℕ) (b : Binary) → operator_of_word w ≡ Some b → is_operator b ≡ true
word_operator w = operator_cond (bytes_eq w (codes "or")) two.Or (if bytes_eq w (codes "and") then Some two.And else None) refl (operator_cond (bytes_eq w (codes "and")) two.And None refl none_operator)

operator_fine : (p : Piece) (b : Binary) → FinePiece p → operator_of p ≡ Some b → is_operator b ≡ true
operator_fine (word w) b f e = word_operator w b e
operator_fine (operator d) b f e = subst (λ d. is_operator d ≡ true) (same_some d b e) f
operator_fine end b f e = none_operator b e
operator_fine (bytes d) b f e = none_operator b e
operator_fine (float d) b f e = none_operator b e
operator_fine (int d) b f e = none_operator b e
operator_fine (text d) b f e = none_operator b e
operator_fine (sign d) b f e = none_operator b e

-- ---- names of functions
abbrev OfOne : Unary → Type 0
OfOne u = ◌≡◌ {A = Bool × Bool} (is_not u, is_like u) (false, false)

unary_named : (w : List ℕ) (value : Unary) → unary_of w ≡ Some value → OfOne value
unfolding unary_of
unary_named w value = λ e.
    case_some OfOne (bytes_eq w (codes "IsString")) one.IsString (if bytes_eq w (codes "IsInt") then Some one.IsInt else (if bytes_eq w (codes "IsDouble") then Some one.IsDouble else (if bytes_eq w (codes "IsBool") then Some one.IsBool else (if bytes_eq w (codes "IsMap") then Some one.IsMap else (if bytes_eq w (codes "IsList") then Some one.IsList else (if bytes_eq w (codes "Len") then Some one.Len else (if bytes_eq w (codes "Int") then Some one.Int else (if bytes_eq w (codes "Double") then Some one.Double else (if bytes_eq w (codes "String") then Some one.Text else (if bytes_eq w (codes "Duration") then Some one.Duration else None)))))))))) value e refl
    (λ e. case_some OfOne (bytes_eq w (codes "IsInt")) one.IsInt (if bytes_eq w (codes "IsDouble") then Some one.IsDouble else (if bytes_eq w (codes "IsBool") then Some one.IsBool else (if bytes_eq w (codes "IsMap") then Some one.IsMap else (if bytes_eq w (codes "IsList") then Some one.IsList else (if bytes_eq w (codes "Len") then Some one.Len else (if bytes_eq w (codes "Int") then Some one.Int else (if bytes_eq w (codes "Double") then Some one.Double else (if bytes_eq w (codes "String") then Some one.Text else (if bytes_eq w (codes "Duration") then Some one.Duration else None))))))))) value e refl
    (λ e. case_some OfOne (bytes_eq w (codes "IsDouble")) one.IsDouble (if bytes_eq w (codes "IsBool") then Some one.IsBool else (if bytes_eq w (codes "IsMap") then Some one.IsMap else (if bytes_eq w (codes "IsList") then Some one.IsList else (if bytes_eq w (codes "Len") then Some one.Len else (if bytes_eq w (codes "Int") then Some one.Int else (if bytes_eq w (codes "Double") then Some one.Double else (if bytes_eq w (codes "String") then Some one.Text else (if bytes_eq w (codes "Duration") then Some one.Duration else None)))))))) value e refl
    (λ e. case_some OfOne (bytes_eq w (codes "IsBool")) one.IsBool (if bytes_eq w (codes "IsMap") then Some one.IsMap else (if bytes_eq w (codes "IsList") then Some one.IsList else (if bytes_eq w (codes "Len") then Some one.Len else (if bytes_eq w (codes "Int") then Some one.Int else (if bytes_eq w (codes "Double") then Some one.Double else (if bytes_eq w (codes "String") then Some one.Text else (if bytes_eq w (codes "Duration") then Some one.Duration else None))))))) value e refl
    (λ e. case_some OfOne (bytes_eq w (codes "IsMap")) one.IsMap (if bytes_eq w (codes "IsList") then Some one.IsList else (if bytes_eq w (codes "Len") then Some one.Len else (if bytes_eq w (codes "Int") then Some one.Int else (if bytes_eq w (codes "Double") then Some one.Double else (if bytes_eq w (codes "String") then Some one.Text else (if bytes_eq w (codes "Duration") then Some one.Duration else None)))))) value e refl
    (λ e. case_some OfOne (bytes_eq w (codes "IsList")) one.IsList (if bytes_eq w (codes "Len") then Some one.Len else (if bytes_eq w (codes "Int") then Some one.Int else (if bytes_eq w (codes "Double") then Some one.Double else (if bytes_eq w (codes "String") then Some one.Text else (if bytes_eq w (codes "Duration") then Some one.Duration else None))))) value e refl
    (λ e. case_some OfOne (bytes_eq w (codes "Len")) one.Len (if bytes_eq w (codes "Int") then Some one.Int else (if bytes_eq w (codes "Double") then Some one.Double else (if bytes_eq w (codes "String") then Some one.Text else (if bytes_eq w (codes "Duration") then Some one.Duration else None)))) value e refl
    (λ e. case_some OfOne (bytes_eq w (codes "Int")) one.Int (if bytes_eq w (codes "Double") then Some one.Double else (if bytes_eq w (codes "String") then Some one.Text else (if bytes_eq w (codes "Duration") then Some one.Duration else None))) value e refl
    (λ e. case_some OfOne (bytes_eq w (codes "Double")) one.Double (if bytes_eq w (codes "String") then Some one.Text else (if bytes_eq w (codes "Duration") then Some one.Duration else None)) value e refl
    (λ e. case_some OfOne (bytes_eq w (codes "String")) one.Text (if bytes_eq w (codes "Duration") then Some one.Duration else None) value e refl
    (λ e. case_some OfOne (bytes_eq w (codes "Duration")) one.Duration None value e refl
    (λ e. no_some value e)))))))))))

abbrev OfTwo : Binary → Type 0
OfTwo b = is_operator b ≡ false

binary_named : (w : List ℕ) (value : Binary) → binary_of w ≡ Some value → OfTwo value
unfolding binary_of
binary_named w value = λ e.
    case_some OfTwo (bytes_eq w (codes "HasPrefix")) two.HasPrefix (if bytes_eq w (codes "HasSuffix") then Some two.HasSuffix else None) value e refl
    (λ e. case_some OfTwo (bytes_eq w (codes "HasSuffix")) two.HasSuffix None value e refl
    (λ e. no_some value e))

case_ok : {A : Type 0} (P : Type 0) (test : Bool) (r q o : A) → cond test r q ≡ o → (r ≡ o → P) → (q ≡ o → P) → P
case_ok P true r q o e f g = f e
case_ok P false r q o e f g = g e

-- ---- sizes
not_row_alone : (sparing : Bool) (t : Term) → is_row t ≡ false → (size sparing t).row ≡ 0
not_row_alone sparing (literal l) e = refl
not_row_alone sparing (path p) e = refl
not_row_alone sparing is_root_span e = refl
not_row_alone sparing (unary u x) e = refl
not_row_alone sparing (binary b x y) e = rw e refl
not_row_alone sparing (is_match x p) e = refl
not_row_alone sparing (substring x y z) e = refl
not_row_alone sparing (cased k x) e = refl
not_row_alone sparing (concat x d y) e = refl

size_called : (b : Binary) (x y : Term) → is_operator b ≡ false → size true (binary b x y) ≡ called_size (levels_at argument x (size true x).levels) (levels_at argument y (size true y).levels)
size_called b x y e = rw e refl

size_joined : (b : Binary) (x y : Term) → is_operator b ≡ true
    → size true (binary b x y) ≡ joined_size (has_parentheses true b x (size true x) (levels_at (precedence b + 1) y (size true y).levels)) (size true x) (levels_at (precedence b + 1) y (size true y).levels)
size_joined b x y e = rw e refl

value_tight : (t : Term) → is_row t ≡ false → is_value t ≡ true → tightness t ≡ 6
value_tight (literal l) e v = refl
value_tight (path p) e v = refl
value_tight is_root_span e v = refl
value_tight (unary u x) e v = go (is_not u) v
  where
    go : (n : Bool) → Rattle.std.specs.Prelude.not n ≡ true → ◌≡◌ {A = ℕ} (cond n 3 6) 6
    go true v = absurd (true≢false (sym v))
    go false v = refl
value_tight (binary b x y) e v = rw e refl
value_tight (is_match x p) e v = refl
value_tight (substring x y z) e v = refl
value_tight (cased k x) e v = refl
value_tight (concat x d y) e v = refl

alone_tight : (t : Term) → is_row t ≡ false → 3 ≤ tightness t
alone_tight (literal l) e = omega arith
alone_tight (path p) e = omega arith
alone_tight is_root_span e = omega arith
alone_tight (unary u x) e = go (is_not u)
  where
    go : (n : Bool) → 3 ≤ cond n 3 6
    go true = omega arith
    go false = omega arith
alone_tight (binary b x y) e = rw e (omega arith)
alone_tight (is_match x p) e = omega arith
alone_tight (substring x y z) e = omega arith
alone_tight (cased k x) e = omega arith
alone_tight (concat x d y) e = omega arith

number_value : (t : Term) → Rattle.ottl_text.specs.Syntax.is_number t ≡ true → is_value t ≡ true
number_value (literal l) e = refl
number_value (path p) e = e
number_value is_root_span e = e
number_value (unary u x) e = e
number_value (binary b x y) e = e
number_value (is_match x p) e = e
number_value (substring x y z) e = e
number_value (cased k x) e = e
number_value (concat x d y) e = e

-- an operand that an operator takes, and that is no row, binds tighter
suited_value : (b : Binary) (t : Term) → 3 ≤ precedence b → suits b t ≡ true → is_value t ≡ true
suited_value two.Or t h e = absurd (omega (arith, h))
suited_value two.And t h e = absurd (omega (arith, h))
suited_value two.Equal t h e = e
suited_value two.NotEqual t h e = e
suited_value two.Less t h e = e
suited_value two.AtMost t h e = e
suited_value two.Greater t h e = e
suited_value two.AtLeast t h e = e
suited_value two.Add t h e = number_value t e
suited_value two.Subtract t h e = number_value t e
suited_value two.Multiply t h e = number_value t e
suited_value two.Divide t h e = number_value t e
suited_value two.HasPrefix t h e = e
suited_value two.HasSuffix t h e = e

suited_tight : (b : Binary) (t : Term) → is_row t ≡ false → suits b t ≡ true → precedence b + 1 ≤ tightness t
suited_tight b t e f = elim (cases_lt (precedence b) 3) [
  | inl low ↦ omega (arith, low, alone_tight t e)
  | inr high ↦ omega (arith, value_tight t e (suited_value b t high f), (precedence_some b).1)
]

module _ (behind : ℕ) (c : Context) where
  abbrev L : Term → ℕ
  L t = (size true t).levels

  abbrev K : Term → ℕ
  K t = (size true t).row

  abbrev reader : ℕ → ℕ → List ℕ → Read (Term × List ℕ)
  reader n = expression behind c n

  -- the operator that follows binds less tight
  abbrev NextBelow : ℕ → List ℕ → Type 0
  NextBelow bound s = (p : Piece) (r : List ℕ) (b : Binary) → Begins s p r → operator_of p ≡ Some b → precedence b < bound

  -- what an expression gives that had n levels
  record Got (n least : ℕ) (t : Term) (rest : List ℕ) : Type 0 where
    fine : Fine c t
    levels : L t ≤ n
    row : (L t + 1 ≤ n) ⊎ ((is_row t ≡ false) ⊎ (least ≤ tightness t))
    next : NextBelow least rest

  abbrev ReadsWell : ℕ → Type 0
  ReadsWell n = (least : ℕ) (s : List ℕ) (q : Term × List ℕ) → expression behind c n least s ≡ Ok q → Got n least q.0 q.1

  -- what stands before k operators, with n levels left
  record State (n k least : ℕ) (left : Term) (s : List ℕ) : Type 0 where
    fine : Fine c left
    levels : L left ≤ n + k + 1
    few : n + k + 1 ≤ L left → K left ≤ k
    row : (L left + 1 ≤ n + k + 1) ⊎ ((is_row left ≡ false) ⊎ ((least ≤ tightness left) × NextBelow (tightness left + 1) s))

  abbrev GoesWell : ℕ → Type 0
  GoesWell n = (k least : ℕ) (left : Term) (s : List ℕ) (q : Term × List ℕ) → State n k least left s → operators behind c n least left s ≡ Ok q → Got (n + k + 1) least q.0 q.1

  at_least : (n least : ℕ) (t : Term) → L t ≤ n → (L t + 1 ≤ n) ⊎ ((is_row t ≡ false) ⊎ (least ≤ tightness t)) → (is_row t ≡ false → least ≤ tightness t) → levels_at least t (L t) ≤ n
  at_least n least t few row alone = go (nat_lt (tightness t) least) refl
    where
      loose : (a b : ℕ) → nat_lt a b ≡ true → a < b
      loose a b e = grind (arith, nat_tests, e)

      go : (b : Bool) → nat_lt (tightness t) least ≡ b → cond b (L t + 1) (L t) ≤ n
      go false is = few
      go true is = elim row [
        | inl h ↦ h
        | inr r ↦ elim r [
          | inl a ↦ absurd (omega (arith, loose (tightness t) least is, alone a))
          | inr h ↦ absurd (omega (arith, loose (tightness t) least is, h))
        ]
      ]

  -- ---- operands
  -- an operand is no row, or it has a level for its parentheses
  abbrev Good : ℕ → Term → Type 0
  Good n t = Fine c t × (((is_row t ≡ false) × (L t ≤ suc n)) ⊎ (L t ≤ n))

  same_good : (n : ℕ) (t : Term) (rest : List ℕ) (q : Term × List ℕ) → (let r : Read (Term × List ℕ) = Ok (t, rest) in r ≡ Ok q) → Good n t → Good n q.0
  same_good n t rest q e g = subst (λ q. Good n q.0) (same_ok (t, rest) q e) g

  literal_good : (n : ℕ) (l : Literal) (rest : List ℕ) (q : Term × List ℕ) → 0 < n → FineLiteral l → (let r : Read (Term × List ℕ) = Ok (literal l, rest) in r ≡ Ok q) → Good n q.0
  literal_good n l rest q some fine e = same_good n (literal l) rest q e (fine, inl (refl, omega (arith, some)))

  literal_fine : (p : Piece) (s rest : List ℕ) (l : Literal) → FinePiece p → literal_at behind p s ≡ Ok l → FineLiteral l
  unfolding literal_at
  literal_fine (bytes d) s rest l f e =
      let h = bind_ok (bytes_at behind d s) _ l e in subst FineLiteral (same_ok (literals.Bytes h.0) l h.2) (bytes_fine d h.0 (bytes_began behind d s h.0 h.1) f)
  literal_fine (float d) s rest l f e =
      let h = bind_ok (float_at behind d s) _ l e in subst FineLiteral (same_ok (literals.Float h.0) l h.2) (float_is d h.0 (float_began behind d s h.0 h.1))
  literal_fine (int d) s rest l f e =
      let h = bind_ok (int_at behind d s) _ l e in subst FineLiteral (same_ok (literals.Int h.0) l h.2) (int_fits d h.0 (int_began behind d s h.0 h.1))
  literal_fine (text d) s rest l f e =
      let h = bind_ok (text_at behind d s) _ l e in subst FineLiteral (same_ok (literals.Text h.0) l h.2) (text_utf8 d h.0 (text_began behind d s h.0 h.1))
  literal_fine end s rest l f e = no_ok _ l e
  literal_fine (word d) s rest l f e = no_ok _ l e
  literal_fine (operator d) s rest l f e = no_ok _ l e
  literal_fine (sign d) s rest l f e = no_ok _ l e

  argument_got : (n : ℕ) → ReadsWell n → (s : List ℕ) (q : Term × List ℕ) → argument_at behind (reader n) s ≡ Ok q → Fine c q.0 × (is_value q.0 ≡ true) × (levels_at argument q.0 (L q.0) ≤ n)
  unfolding argument_at
  argument_got n well s q e =
      let h = bind_ok (reader n 4 s) _ q e in
      let v = if_ok (is_value h.0.0) (Ok h.0) _ q h.2 in
      let g = well 4 s h.0 h.1 in
      subst (λ q. Fine c q.0 × (is_value q.0 ≡ true) × (levels_at argument q.0 (L q.0) ≤ n)) (same_ok h.0 q v.1)
      (g.fine, v.0, at_least n argument h.0.0 g.levels g.row (λ a. omega (arith, value_tight h.0.0 a v.0)))

  root_span_good : (n : ℕ) (s : List ℕ) (q : Term × List ℕ) → 0 < n → root_span_at behind s ≡ Ok q → Good n q.0
  unfolding root_span_at
  root_span_good n s q some e =
      let h = bind_ok (after_sign behind 40 faults.NoOpening s) _ q e in
      let k = bind_ok (after_sign behind 41 faults.NoClosing h.0) _ q h.2 in
      same_good n is_root_span k.0 q k.2 (tt, inl (refl, omega (arith, some)))

  unary_few : (u : Unary) (x : Term) (n : ℕ) → is_not u ≡ false → is_like u ≡ false → levels_at argument x (L x) ≤ n → L (unary u x) ≤ suc n
  unary_few u x n is plain few =
      let at : operand_of_one u ≡ argument = rw is refl in
      let one_more : ◌≡◌ {A = ℕ} (cond (is_like u) 2 1) 1 = rw plain refl in
      let same : levels_at (operand_of_one u) x (L x) ≡ levels_at argument x (L x) = ap (λ k. levels_at k x (L x)) at in
      omega (arith, one_more, same, few)

  unary_good : (n : ℕ) → ReadsWell n → (u : Unary) (s : List ℕ) (q : Term × List ℕ) → is_not u ≡ false → is_like u ≡ false → unary_at behind (reader n) u s ≡ Ok q → Good n q.0
  unfolding unary_at
  unary_good n well u s q is plain e =
      let h = bind_ok (after_sign behind 40 faults.NoOpening s) _ q e in
      let a = bind_ok (argument_at behind (reader n) h.0) _ q h.2 in
      let k = bind_ok (after_sign behind 41 faults.NoClosing a.0.1) _ q a.2 in
      let g = argument_got n well h.0 a.0 a.1 in
      same_good n (unary u a.0.0) k.0 q k.2 (((rw is g.1), g.0), inl (refl, unary_few u a.0.0 n is plain g.2))

  binary_good : (n : ℕ) → ReadsWell n → (b : Binary) (s : List ℕ) (q : Term × List ℕ) → is_operator b ≡ false → binary_at behind (reader n) b s ≡ Ok q → Good n q.0
  unfolding binary_at
  binary_good n well b s q is e =
      let h = bind_ok (after_sign behind 40 faults.NoOpening s) _ q e in
      let x = bind_ok (argument_at behind (reader n) h.0) _ q h.2 in
      let k = bind_ok (after_sign behind 44 faults.NoComma x.0.1) _ q x.2 in
      let y = bind_ok (argument_at behind (reader n) k.0) _ q k.2 in
      let j = bind_ok (after_sign behind 41 faults.NoClosing y.0.1) _ q y.2 in
      let f = argument_got n well h.0 x.0 x.1 in
      let g = argument_got n well k.0 y.0 y.1 in
      same_good n (binary b x.0.0 y.0.0) j.0 q j.2 ((value_suits b x.0.0 is f.1, value_suits b y.0.0 is g.1, f.0, g.0, λ o. absurd (true≢false (sym o ∙ is))), inl (is, subst (λ z. z.levels ≤ suc n) (sym (size_called b x.0.0 y.0.0 is)) (omega (arith, f.2, g.2))))
    where
      value_suits : (b : Binary) (t : Term) → is_operator b ≡ false → is_value t ≡ true → suits b t ≡ true
      value_suits two.HasPrefix t o e = e
      value_suits two.HasSuffix t o e = e
      value_suits two.Or t o e = absurd (true≢false o)
      value_suits two.And t o e = absurd (true≢false o)
      value_suits two.Equal t o e = absurd (true≢false o)
      value_suits two.NotEqual t o e = absurd (true≢false o)
      value_suits two.Less t o e = absurd (true≢false o)
      value_suits two.AtMost t o e = absurd (true≢false o)
      value_suits two.Greater t o e = absurd (true≢false o)
      value_suits two.AtLeast t o e = absurd (true≢false o)
      value_suits two.Add t o e = absurd (true≢false o)
      value_suits two.Subtract t o e = absurd (true≢false o)
      value_suits two.Multiply t o e = absurd (true≢false o)
      value_suits two.Divide t o e = absurd (true≢false o)

  pattern_utf8 : (s : List ℕ) (q : List ℕ × List ℕ) → pattern_at behind s ≡ Ok q → Rattle.ottl_text.specs.Literals.in_utf8 q.0 ≡ Ok q.0
  unfolding pattern_at
  pattern_utf8 s q e = let h = bind_ok (next_at behind s) _ q e in of_piece h.0.0 s h.0.1 q h.2
    where
      of_piece : (p : Piece) (s rest : List ℕ) (q : List ℕ × List ℕ) → pattern_of behind p s rest ≡ Ok q → Rattle.ottl_text.specs.Literals.in_utf8 q.0 ≡ Ok q.0
      of_piece (text d) s rest q e =
          let h = bind_ok (text_at behind d s) _ q e in
          subst (λ q. Rattle.ottl_text.specs.Literals.in_utf8 q.0 ≡ Ok q.0) (same_ok (h.0, rest) q h.2) (text_utf8 d h.0 (text_began behind d s h.0 h.1))
      of_piece end s rest q e = no_ok _ q e
      of_piece (bytes d) s rest q e = no_ok _ q e
      of_piece (float d) s rest q e = no_ok _ q e
      of_piece (int d) s rest q e = no_ok _ q e
      of_piece (word d) s rest q e = no_ok _ q e
      of_piece (operator d) s rest q e = no_ok _ q e
      of_piece (sign d) s rest q e = no_ok _ q e

  match_good : (n : ℕ) → ReadsWell n → (s : List ℕ) (q : Term × List ℕ) → match_at behind (reader n) s ≡ Ok q → Good n q.0
  unfolding match_at
  match_good n well s q e =
      let h = bind_ok (after_sign behind 40 faults.NoOpening s) _ q e in
      let x = bind_ok (argument_at behind (reader n) h.0) _ q h.2 in
      let k = bind_ok (after_sign behind 44 faults.NoComma x.0.1) _ q x.2 in
      let p = bind_ok (pattern_at behind k.0) _ q k.2 in
      let j = bind_ok (after_sign behind 41 faults.NoClosing p.0.1) _ q p.2 in
      let f = argument_got n well h.0 x.0 x.1 in
      same_good n (is_match x.0.0 p.0.0) j.0 q j.2 ((f.1, pattern_utf8 k.0 p.0 p.1, f.0), inl (refl, omega (arith, f.2)))

  substring_good : (n : ℕ) → ReadsWell n → (s : List ℕ) (q : Term × List ℕ) → substring_at behind (reader n) s ≡ Ok q → Good n q.0
  unfolding substring_at
  substring_good n well s q e =
      let h = bind_ok (after_sign behind 40 faults.NoOpening s) _ q e in
      let x = bind_ok (argument_at behind (reader n) h.0) _ q h.2 in
      let k = bind_ok (after_sign behind 44 faults.NoComma x.0.1) _ q x.2 in
      let y = bind_ok (argument_at behind (reader n) k.0) _ q k.2 in
      let l = bind_ok (after_sign behind 44 faults.NoComma y.0.1) _ q y.2 in
      let z = bind_ok (argument_at behind (reader n) l.0) _ q l.2 in
      let j = bind_ok (after_sign behind 41 faults.NoClosing z.0.1) _ q z.2 in
      let f = argument_got n well h.0 x.0 x.1 in
      let g = argument_got n well k.0 y.0 y.1 in
      let i = argument_got n well l.0 z.0 z.1 in
      same_good n (substring x.0.0 y.0.0 z.0.0) j.0 q j.2 ((f.1, g.1, i.1, f.0, g.0, i.0), inl (refl, omega (arith, f.2, g.2, i.2)))

  not_good : (n : ℕ) → ReadsWell n → (s : List ℕ) (q : Term × List ℕ) → not_at behind (reader n) s ≡ Ok q → Good n q.0
  unfolding not_at
  not_good n well s q e =
      let h = bind_ok (reader n 3 s) _ q e in
      let v = if_ok (is_condition h.0.0) (Ok (unary one.Not h.0.0, h.0.1)) _ q h.2 in
      let g = well 3 s h.0 h.1 in
      same_good n (unary one.Not h.0.0) h.0.1 q v.1 ((v.0, g.fine), inl (refl, omega (arith, at_least n 3 h.0.0 g.levels g.row (alone_tight h.0.0))))

  inner_good : (n : ℕ) → ReadsWell n → (s : List ℕ) (q : Term × List ℕ) → inner_at behind (reader n) s ≡ Ok q → Good n q.0
  unfolding inner_at
  inner_good n well s q e =
      let h = bind_ok (reader n 1 s) _ q e in
      let k = bind_ok (after_sign behind 41 faults.NoClosing h.0.1) _ q h.2 in
      let g = well 1 s h.0 h.1 in
      same_good n h.0.0 k.0 q k.2 (g.fine, inr g.levels)

  path_good : (n : ℕ) (root : Root) (s : List ℕ) (q : Term × List ℕ) → Rattle.ottl_print.proofs.NamesBack.in_context c root ≡ true → path_at behind n root s ≡ Ok q → Good n q.0
  unfolding path_at
  path_good n root s q fine e =
      let h = bind_ok (keyed behind n [] s) _ q e in
      let v = if_ok (takes_keys root || (length h.0.0 == 0)) (Ok (path (record { root = root; keys = h.0.0 }), h.0.1)) _ q h.2 in
      let k = keyed_fine behind n [] s h.0 tt h.1 in
      same_good n (path (record { root = root; keys = h.0.0 })) h.0.1 q v.1 ((fine, v.0, k.0), inl (refl, omega (arith, k.1)))

  named_good : (n : ℕ) → ReadsWell n → 0 < n → (w s rest : List ℕ) (q : Term × List ℕ) → named_at behind (reader n) n c w s rest ≡ Ok q → Good n q.0
  unfolding named_at
  named_good n well some w s rest q e = of_unary (unary_of w) refl e
    where
      of_root : (o : Option Root) → root_of c w ≡ o → by_root behind (reader n) n c o s rest ≡ Ok q → Good n q.0
      of_root (Some root) is e = path_good n root rest q (root_in_context c w root is) e
      of_root None is e = no_ok _ q e

      of_enumeration : (o : Option ℤ) → enumeration_of w ≡ o → by_enumeration behind (reader n) n c o w s rest ≡ Ok q → Good n q.0
      of_enumeration (Some z) is e = literal_good n (literals.Int z) rest q some (enumeration_fits w z is) e
      of_enumeration None is e = of_root (root_of c w) refl e

      of_binary : (o : Option Binary) → binary_of w ≡ o → by_binary behind (reader n) n c o w s rest ≡ Ok q → Good n q.0
      of_binary (Some b) is e = binary_good n well b rest q (binary_named w b is) e
      of_binary None is e = of_enumeration (enumeration_of w) refl e

      of_unary : (o : Option Unary) → unary_of w ≡ o → by_unary behind (reader n) n c o w s rest ≡ Ok q → Good n q.0
      of_unary (Some u) is e = (let plain = unary_named w u is in unary_good n well u rest q (ap (λ p. p.0) plain) (ap (λ p. p.1) plain) e)
      of_unary None is e = of_binary (binary_of w) refl e

  -- ---- `ConvertCase` and `Concat`
  cased_good : (n : ℕ) → ReadsWell n → (s : List ℕ) (q : Term × List ℕ) → cased_at behind (reader n) s ≡ Ok q → Good n q.0
  unfolding cased_at
  cased_good n well s q e =
      let h = bind_ok (after_sign behind 40 faults.NoOpening s) _ q e in
      let x = bind_ok (argument_at behind (reader n) h.0) _ q h.2 in
      let k = bind_ok (after_sign behind 44 faults.NoComma x.0.1) _ q x.2 in
      let p = bind_ok (case_at behind k.0) _ q k.2 in
      let j = bind_ok (after_sign behind 41 faults.NoClosing p.0.1) _ q p.2 in
      let f = argument_got n well h.0 x.0 x.1 in
      same_good n (cased p.0.0 x.0.0) j.0 q j.2 ((f.1, f.0), inl (refl, omega (arith, f.2)))

  -- what the values of `Concat` give that had n levels
  abbrev GoodValues : ℕ → Term × List ℕ × List ℕ → Type 0
  GoodValues n q = FineValues c q.1 q.0 × (in_utf8 q.1 ≡ Ok q.1) × (L q.0 ≤ suc n)

  abbrev ListsWell : ℕ → Type 0
  ListsWell n = (s : List ℕ) (q : Term × List ℕ × List ℕ) → values behind c n s ≡ Ok q → GoodValues n q

  delimiter_utf8 : (s : List ℕ) (q : List ℕ × List ℕ) → delimiter_at behind s ≡ Ok q → in_utf8 q.0 ≡ Ok q.0
  unfolding delimiter_at
  delimiter_utf8 s q e =
      let h = bind_ok (after_sign behind 44 faults.NoComma s) _ q e in
      let g = bind_ok (next_at behind h.0) _ q h.2 in
      of_piece g.0.0 h.0 g.0.1 q g.2
    where
      of_piece : (p : Piece) (s rest : List ℕ) (q : List ℕ × List ℕ) → delimiter_of behind p s rest ≡ Ok q → in_utf8 q.0 ≡ Ok q.0
      of_piece (text d) s rest q e =
          let h = bind_ok (text_at behind d s) _ q e in
          let g = bind_ok (after_sign behind 41 faults.NoClosing rest) _ q h.2 in
          subst (λ q. in_utf8 q.0 ≡ Ok q.0) (same_ok (h.0, g.0) q g.2) (text_utf8 d h.0 (text_began behind d s h.0 h.1))
      of_piece end s rest q e = no_ok _ q e
      of_piece (bytes d) s rest q e = no_ok _ q e
      of_piece (float d) s rest q e = no_ok _ q e
      of_piece (int d) s rest q e = no_ok _ q e
      of_piece (word d) s rest q e = no_ok _ q e
      of_piece (operator d) s rest q e = no_ok _ q e
      of_piece (sign d) s rest q e = no_ok _ q e

  lists_well : (n : ℕ) → ReadsWell n → ListsWell n → ListsWell (suc n)
  unfolding values
  lists_well n well lists s q e =
      let h = bind_ok (argument_at behind (reader n) s) _ q e in
      let g = argument_got n well s h.0 h.1 in
      let p = bind_ok (next_at behind h.0.1) _ q h.2 in
      let t = h.0.0 in
      let more : Read (Term × List ℕ × List ℕ) = values behind c n p.0.1 >>= λ m. Ok (concat (unary one.Like t) m.1 m.0, m.1, m.2) in
      let last : Read (Term × List ℕ × List ℕ) = delimiter_at behind p.0.1 >>= λ d. Ok (unary one.Like t, d.0, d.1) in
      let fault : Read (Term × List ℕ × List ℕ) = Err (fault_at behind faults.NoClosingBracket h.0.1) in
      case_ok (GoodValues (suc n) q) (is_the_sign 44 p.0.0) more (if is_the_sign 93 p.0.0 then last else fault) (Ok q) p.2
      (λ e. let m = bind_ok (values behind c n p.0.1) _ q e in
      let v = lists p.0.1 m.0 m.1 in
      subst (GoodValues (suc n)) (same_ok (concat (unary one.Like t) m.0.1 m.0.0, m.0.1, m.0.2) q m.2) ((refl, (refl, g.1, g.0), v.0), v.1, omega (arith, g.2, v.2)))
      (λ e. let w = if_ok (is_the_sign 93 p.0.0) last _ q e in
      let d = bind_ok (delimiter_at behind p.0.1) _ q w.1 in
      subst (GoodValues (suc n)) (same_ok (unary one.Like t, d.0.0, d.0.1) q d.2) ((refl, g.1, g.0), delimiter_utf8 p.0.1 d.0 d.1, omega (arith, g.2)))

  chain_fine : (d : List ℕ) (t : Term) → in_utf8 d ≡ Ok d → FineValues c d t → Fine c t
  chain_fine d (unary u x) utf8 f = (ap (λ v. suits_one v x) f.0 ∙ f.1, f.2)
  chain_fine d (concat x e y) utf8 f = (subst (λ e. in_utf8 e ≡ Ok e) (sym f.0) utf8, f.1, subst (λ e. FineValues c e y) (sym f.0) f.2)
  chain_fine d (literal l) utf8 f = absurd f
  chain_fine d (path p) utf8 f = absurd f
  chain_fine d is_root_span utf8 f = absurd f
  chain_fine d (binary b x z) utf8 f = absurd f
  chain_fine d (is_match x p) utf8 f = absurd f
  chain_fine d (substring x w z) utf8 f = absurd f
  chain_fine d (cased k x) utf8 f = absurd f

  chain_no_row : (d : List ℕ) (t : Term) → FineValues c d t → is_row t ≡ false
  chain_no_row d (unary u x) f = refl
  chain_no_row d (concat x e y) f = refl
  chain_no_row d (literal l) f = absurd f
  chain_no_row d (path p) f = absurd f
  chain_no_row d is_root_span f = absurd f
  chain_no_row d (binary b x z) f = absurd f
  chain_no_row d (is_match x p) f = absurd f
  chain_no_row d (substring x w z) f = absurd f
  chain_no_row d (cased k x) f = absurd f

  empty_utf8 : in_utf8 [] ≡ Ok []
  unfolding is_utf8 chars encode
  empty_utf8 = refl

  no_values_good : (n : ℕ) → 0 < n → (s : List ℕ) (q : Term × List ℕ) → no_values_at behind s ≡ Ok q → Good n q.0
  unfolding no_values_at
  no_values_good n some s q e = let h = bind_ok (delimiter_at behind s) _ q e in literal_good n (literals.Text []) h.0.1 q some empty_utf8 h.2

  concat_good : (n : ℕ) → 0 < n → ListsWell n → (s : List ℕ) (q : Term × List ℕ) → concat_at behind (values behind c n) s ≡ Ok q → Good n q.0
  unfolding concat_at
  concat_good n some lists s q e =
      let h = bind_ok (after_sign behind 40 faults.NoOpening s) _ q e in
      let k = bind_ok (after_sign behind 91 faults.NoOpeningBracket h.0) _ q h.2 in
      let p = bind_ok (next_at behind k.0) _ q k.2 in
      let listed : Read (Term × List ℕ) = values behind c n k.0 >>= λ m. Ok (m.0, m.2) in
      case_ok (Good n q.0) (is_the_sign 93 p.0.0) (no_values_at behind p.0.1) listed (Ok q) p.2 (λ e. no_values_good n some p.0.1 q e)
      (λ e. let m = bind_ok (values behind c n k.0) _ q e in
      let v = lists k.0 m.0 m.1 in
      same_good n m.0.0 m.0.2 q m.2 (chain_fine m.0.1 m.0.0 v.1 v.0, inl (chain_no_row m.0.1 m.0.0 v.0, v.2)))

  word_good : (n : ℕ) → ReadsWell n → 0 < n → ListsWell n → (w s rest : List ℕ) (q : Term × List ℕ) → word_at behind (reader n) n c (values behind c n) w s rest ≡ Ok q → Good n q.0
  unfolding word_at
  word_good n well some lists w s rest q e =
      case_ok (Good n q.0) (bytes_eq w (codes "not")) (not_at behind (reader n) rest) (if bytes_eq w (codes "nil") then Ok (literal literals.Nil, rest) else (if bytes_eq w (codes "true") then Ok (literal (literals.Bool true), rest) else (if bytes_eq w (codes "false") then Ok (literal (literals.Bool false), rest) else (if bytes_eq w (codes "IsRootSpan") then root_span_at behind rest else (if bytes_eq w (codes "IsMatch") then match_at behind (reader n) rest else (if bytes_eq w (codes "Substring") then substring_at behind (reader n) rest else (if bytes_eq w (codes "ConvertCase") then cased_at behind (reader n) rest else (if bytes_eq w (codes "Concat") then concat_at behind (values behind c n) rest else (named_at behind (reader n) n c w s rest))))))))) (Ok q) e
      (λ e. not_good n well rest q e)
      (λ e. case_ok (Good n q.0) (bytes_eq w (codes "nil")) (Ok (literal literals.Nil, rest)) (if bytes_eq w (codes "true") then Ok (literal (literals.Bool true), rest) else (if bytes_eq w (codes "false") then Ok (literal (literals.Bool false), rest) else (if bytes_eq w (codes "IsRootSpan") then root_span_at behind rest else (if bytes_eq w (codes "IsMatch") then match_at behind (reader n) rest else (if bytes_eq w (codes "Substring") then substring_at behind (reader n) rest else (if bytes_eq w (codes "ConvertCase") then cased_at behind (reader n) rest else (if bytes_eq w (codes "Concat") then concat_at behind (values behind c n) rest else (named_at behind (reader n) n c w s rest)))))))) (Ok q) e
      (λ e. literal_good n literals.Nil rest q some tt e)
      (λ e. case_ok (Good n q.0) (bytes_eq w (codes "true")) (Ok (literal (literals.Bool true), rest)) (if bytes_eq w (codes "false") then Ok (literal (literals.Bool false), rest) else (if bytes_eq w (codes "IsRootSpan") then root_span_at behind rest else (if bytes_eq w (codes "IsMatch") then match_at behind (reader n) rest else (if bytes_eq w (codes "Substring") then substring_at behind (reader n) rest else (if bytes_eq w (codes "ConvertCase") then cased_at behind (reader n) rest else (if bytes_eq w (codes "Concat") then concat_at behind (values behind c n) rest else (named_at behind (reader n) n c w s rest))))))) (Ok q) e
      (λ e. literal_good n (literals.Bool true) rest q some tt e)
      (λ e. case_ok (Good n q.0) (bytes_eq w (codes "false")) (Ok (literal (literals.Bool false), rest)) (if bytes_eq w (codes "IsRootSpan") then root_span_at behind rest else (if bytes_eq w (codes "IsMatch") then match_at behind (reader n) rest else (if bytes_eq w (codes "Substring") then substring_at behind (reader n) rest else (if bytes_eq w (codes "ConvertCase") then cased_at behind (reader n) rest else (if bytes_eq w (codes "Concat") then concat_at behind (values behind c n) rest else (named_at behind (reader n) n c w s rest)))))) (Ok q) e
      (λ e. literal_good n (literals.Bool false) rest q some tt e)
      (λ e. case_ok (Good n q.0) (bytes_eq w (codes "IsRootSpan")) (root_span_at behind rest) (if bytes_eq w (codes "IsMatch") then match_at behind (reader n) rest else (if bytes_eq w (codes "Substring") then substring_at behind (reader n) rest else (if bytes_eq w (codes "ConvertCase") then cased_at behind (reader n) rest else (if bytes_eq w (codes "Concat") then concat_at behind (values behind c n) rest else (named_at behind (reader n) n c w s rest))))) (Ok q) e
      (λ e. root_span_good n rest q some e)
      (λ e. case_ok (Good n q.0) (bytes_eq w (codes "IsMatch")) (match_at behind (reader n) rest) (if bytes_eq w (codes "Substring") then substring_at behind (reader n) rest else (if bytes_eq w (codes "ConvertCase") then cased_at behind (reader n) rest else (if bytes_eq w (codes "Concat") then concat_at behind (values behind c n) rest else (named_at behind (reader n) n c w s rest)))) (Ok q) e
      (λ e. match_good n well rest q e)
      (λ e. case_ok (Good n q.0) (bytes_eq w (codes "Substring")) (substring_at behind (reader n) rest) (if bytes_eq w (codes "ConvertCase") then cased_at behind (reader n) rest else (if bytes_eq w (codes "Concat") then concat_at behind (values behind c n) rest else (named_at behind (reader n) n c w s rest))) (Ok q) e
      (λ e. substring_good n well rest q e)
      (λ e. case_ok (Good n q.0) (bytes_eq w (codes "ConvertCase")) (cased_at behind (reader n) rest) (if bytes_eq w (codes "Concat") then concat_at behind (values behind c n) rest else (named_at behind (reader n) n c w s rest)) (Ok q) e
      (λ e. cased_good n well rest q e)
      (λ e. case_ok (Good n q.0) (bytes_eq w (codes "Concat")) (concat_at behind (values behind c n) rest) (named_at behind (reader n) n c w s rest) (Ok q) e
      (λ e. concat_good n some lists rest q e)
      (λ e. named_good n well some w s rest q e)))))))))

  piece_good : (n : ℕ) → ReadsWell n → 0 < n → ListsWell n → (p : Piece) (s rest : List ℕ) (q : Term × List ℕ) → FinePiece p → by_piece behind (reader n) n c (values behind c n) p s rest ≡ Ok q → Good n q.0
  piece_good n well some lists (word w) s rest q f e = word_good n well some lists w s rest q e
  piece_good n well some lists (sign d) s rest q f e = let h = if_ok (d == 40) (inner_at behind (reader n) rest) _ q e in inner_good n well rest q h.1
  piece_good n well some lists end s rest q f e = let h = bind_ok (literal_at behind end s) _ q e in literal_good n h.0 rest q some (literal_fine end s rest h.0 f h.1) h.2
  piece_good n well some lists (bytes d) s rest q f e = let h = bind_ok (literal_at behind (bytes d) s) _ q e in literal_good n h.0 rest q some (literal_fine (bytes d) s rest h.0 f h.1) h.2
  piece_good n well some lists (float d) s rest q f e = let h = bind_ok (literal_at behind (float d) s) _ q e in literal_good n h.0 rest q some (literal_fine (float d) s rest h.0 f h.1) h.2
  piece_good n well some lists (int d) s rest q f e = let h = bind_ok (literal_at behind (int d) s) _ q e in literal_good n h.0 rest q some (literal_fine (int d) s rest h.0 f h.1) h.2
  piece_good n well some lists (text d) s rest q f e = let h = bind_ok (literal_at behind (text d) s) _ q e in literal_good n h.0 rest q some (literal_fine (text d) s rest h.0 f h.1) h.2
  piece_good n well some lists (operator d) s rest q f e = let h = bind_ok (literal_at behind (operator d) s) _ q e in literal_good n h.0 rest q some (literal_fine (operator d) s rest h.0 f h.1) h.2

  operand_good : (n : ℕ) → ReadsWell n → 0 < n → ListsWell n → (s : List ℕ) (q : Term × List ℕ) → operand behind (reader n) n c (values behind c n) s ≡ Ok q → Good n q.0
  unfolding operand
  operand_good n well some lists s q e =
      let h = bind_ok (next_at behind s) _ q e in piece_good n well some lists h.0.0 s h.0.1 q (piece_fine s h.0.1 h.0.0 (next_began behind s h.0.1 h.0.0 h.1)) h.2

  -- ---- operators
  operator_cases : {A : Type 0} (o : Option Binary) (least : ℕ) (more : Binary → Read A) (stop : Read A) (q : A) → by_operator behind o least more stop ≡ Ok q
      → ((b : Binary) × (o ≡ Some b) × (nat_le least (precedence b) ≡ true) × (more b ≡ Ok q)) ⊎ (((b : Binary) → o ≡ Some b → precedence b < least) × (stop ≡ Ok q))
  operator_cases None least more stop q e = inr ((λ b f. no_some b f), e)
  operator_cases (Some b) least more stop q e = go (nat_le least (precedence b)) refl e
    where
      below : (a d : ℕ) → nat_le a d ≡ false → d < a
      below a d e = grind (arith, nat_tests, e)

      go : (test : Bool) → nat_le least (precedence b) ≡ test → cond test (more b) stop ≡ Ok q
          → ((d : Binary) × (Some b ≡ Some d) × (nat_le least (precedence d) ≡ true) × (more d ≡ Ok q)) ⊎ (((d : Binary) → Some b ≡ Some d → precedence d < least) × (stop ≡ Ok q))
      go true is e = inl (b, refl, is, e)
      go false is e = inr ((λ d f. subst (λ d. precedence d < least) (same_some b d f) (below least (precedence b) is)), e)

  true_le : (a d : ℕ) → nat_le a d ≡ true → a ≤ d
  true_le a d e = grind (arith, nat_tests, e)

  true_lt : (a d : ℕ) → nat_lt a d ≡ true → a < d
  true_lt a d e = grind (arith, nat_tests, e)

  joined_state : (n k least : ℕ) (b : Binary) (left y : Term) (s a rest : List ℕ) (p : Piece) → State (suc n) k least left s → Begins s p a → operator_of p ≡ Some b → is_operator b ≡ true → least ≤ precedence b
      → suits b left ≡ true → suits b y ≡ true → IsShallow b left y → Got n (precedence b + 1) y rest → State n (k + 1) least (binary b left y) rest
  joined_state n k least b left y s a rest p state begins op is tight suits_left suits_y shallow got =
      let right = levels_at (precedence b + 1) y (L y) in
      let few_right : right ≤ n = at_least n (precedence b + 1) y got.levels got.row (λ e. suited_tight b y e suits_y) in
      let sizes = by_wrap (has_parentheses true b left (size true left) right) refl few_right in
      record {
        fine = (suits_left, suits_y, state.fine, got.fine, λ o. shallow);
        levels = subst (λ z. z.levels ≤ n + (k + 1) + 1) (sym (size_joined b left y is)) sizes.0;
        few = subst (λ z. n + (k + 1) + 1 ≤ z.levels → z.row ≤ k + 1) (sym (size_joined b left y is)) sizes.1;
        row = inr (inr (rw is (tight, got.next)));
      }
    where
      parted : (x w v : Bool) → (x || (w && v)) ≡ true → (x ≡ true) ⊎ ((w ≡ true) × (v ≡ true))
      parted true w v e = inl refl
      parted false true v e = inr (refl, e)
      parted false false v e = inr (e, absurd (true≢false (sym e)))

      neither : (x w v : Bool) → (x || (w && v)) ≡ false → (w ≡ false) ⊎ (v ≡ false)
      neither true w v e = absurd (true≢false e)
      neither false true v e = inr e
      neither false false v e = inl refl

      room : (right : ℕ) → has_parentheses true b left (size true left) right ≡ true → right ≤ n → L left + 1 ≤ suc n + k + 1
      room right is few_right = elim (parted (nat_lt (tightness left) (precedence b)) (is_row left) (nat_lt (L left) (K left + 2 + right)) is) [
        | inl loose ↦ elim state.row [
          | inl h ↦ h
          | inr r ↦ elim r [
            | inl alone ↦ absurd (omega (arith, true_lt (tightness left) (precedence b) loose, suited_tight b left alone suits_left))
            | inr h ↦ absurd (omega (arith, true_lt (tightness left) (precedence b) loose, h.1 p a b begins op))
          ]
        ]
        | inr long ↦ elim (cases_lt (L left) (suc n + k + 1)) [
          | inl h ↦ omega (arith, h)
          | inr h ↦ absurd (omega (arith, true_lt (L left) (K left + 2 + right) long.1, state.few h, few_right, h))
        ]
      ]

      within : (right : ℕ) → has_parentheses true b left (size true left) right ≡ false → right ≤ n → (K left + 2 + right ≤ L left) ⊎ (K left ≡ 0)
      within right is few_right = elim (neither (nat_lt (tightness left) (precedence b)) (is_row left) (nat_lt (L left) (K left + 2 + right)) is) [
        | inl alone ↦ inr (not_row_alone true left alone)
        | inr short ↦ inl (from_not_below (L left) (K left + 2 + right) short)
      ]

      by_wrap : (w : Bool) → has_parentheses true b left (size true left) (levels_at (precedence b + 1) y (L y)) ≡ w → levels_at (precedence b + 1) y (L y) ≤ n
          → ((joined_size w (size true left) (levels_at (precedence b + 1) y (L y))).levels ≤ n + (k + 1) + 1) × (n + (k + 1) + 1 ≤ (joined_size w (size true left) (levels_at (precedence b + 1) y (L y))).levels → (joined_size w (size true left) (levels_at (precedence b + 1) y (L y))).row ≤ k + 1)
      by_wrap true is few_right = let h = room (levels_at (precedence b + 1) y (L y)) is few_right in (omega (arith, h, few_right), λ full. omega arith)
      by_wrap false is few_right = elim (within (levels_at (precedence b + 1) y (L y)) is few_right) [
        | inl h ↦ (omega (arith, h, state.levels), λ full. let whole : suc n + k + 1 ≤ L left = omega (arith, full, h) in omega (arith, state.few whole))
        | inr none ↦ (omega (arith, none, few_right, state.levels), λ full. omega (arith, none))
      ]

  -- ---- expressions, by the levels
  same_piece : (s r a : List ℕ) (p d : Piece) → Begins s p a → Begins s d r → p ≡ d
  same_piece s r a p d e f = ap (λ q. q.0) (same_ok (p, a) (d, r) (sym e ∙ f))

  stops_well : (n k least : ℕ) (left : Term) (s a : List ℕ) (p : Piece) → State (suc n) k least left s → Begins s p a → ((b : Binary) → operator_of p ≡ Some b → precedence b < least) → Got (suc n + k + 1) least left s
  stops_well n k least left s a p state begins below =
      record {
        fine = state.fine;
        levels = state.levels;
        row = elim state.row [ inl h ↦ inl h | inr r ↦ elim r [ inl h ↦ inr (inl h) | inr h ↦ inr (inr h.0) ] ];
        next = λ d r b e f. below b (ap operator_of (same_piece s r a p d begins e) ∙ f);
      }

  joined_is : (b : Binary) (x y both : Term) (s : List ℕ) → joined behind b x y s ≡ Ok both → (suits b x ≡ true) × (suits b y ≡ true) × IsShallow b x y × (binary b x y ≡ both)
  unfolding joined
  joined_is b x y both s e =
      let h = if_ok (suits b x && suits b y) _ _ both e in
      let v = split (suits b x) (suits b y) h.0 in
      let d = if_ok (nat_le (depth (binary b x y)) most_deep) (Ok (binary b x y)) _ both h.1 in (v.0, v.1, d.0, same_ok (binary b x y) both d.1)

  goes_well : (n : ℕ) → ReadsWell n → GoesWell n → GoesWell (suc n)
  unfolding operators
  goes_well n reads goes k least left s q state e =
      let h = bind_ok (next_at behind s) _ q e in
      let begins = next_began behind s h.0.1 h.0.0 h.1 in
      let more : Binary → Read (Term × List ℕ) = λ b. expression behind c n (precedence b + 1) h.0.1 >>= λ y. joined behind b left y.0 s >>= λ both. operators behind c n least both y.1 in
      let stop : Read (Term × List ℕ) = Ok (left, s) in
      elim (operator_cases (operator_of h.0.0) least more stop q h.2) [
        | inl w ↦
            (let b = w.0 in
            let y = bind_ok (expression behind c n (precedence b + 1) h.0.1) _ q w.3 in
            let j = bind_ok (joined behind b left y.0.0 s) _ q y.2 in
            let g = reads (precedence b + 1) h.0.1 y.0 y.1 in
            let t = joined_is b left y.0.0 j.0 s j.1 in
            let is = operator_fine h.0.0 b (piece_fine s h.0.1 h.0.0 begins) w.1 in
            let state : State n (k + 1) least (binary b left y.0.0) y.0.1 = joined_state n k least b left y.0.0 s h.0.1 y.0.1 h.0.0 state begins w.1 is (true_le least (precedence b) w.2) t.0 t.1 t.2 g in
            let sum : n + (k + 1) + 1 ≡ suc n + k + 1 = omega arith in
            subst (λ m. Got m least q.0 q.1) sum (goes (k + 1) least (binary b left y.0.0) y.0.1 q state (ap (λ both. operators behind c n least both y.0.1) t.3 ∙ j.2)))
        | inr w ↦ (let same = same_ok (left, s) q w.1 in subst (λ q. Got (suc n + k + 1) least q.0 q.1) same (stops_well n k least left s h.0.1 h.0.0 state begins w.0))
      ]

  has_some : (n least : ℕ) (t : Term) (s : List ℕ) (q : Term × List ℕ) → operators behind c n least t s ≡ Ok q → 0 < n
  unfolding operators
  has_some zero least t s q e = no_ok _ q e
  has_some (suc n) least t s q e = omega arith

  reads_well : (n : ℕ) → ReadsWell n → GoesWell n → ListsWell n → ReadsWell (suc n)
  unfolding expression
  reads_well n reads goes lists least s q e =
      let h = bind_ok (operand behind (reader n) n c (values behind c n) s) _ q e in
      let some : 0 < n = has_some n least h.0.0 h.0.1 q h.2 in
      let g = operand_good n reads some lists s h.0 h.1 in
      let sum : n + 0 + 1 ≡ suc n = omega arith in
      let state : State n 0 least h.0.0 h.0.1 = first n least h.0.0 h.0.1 g in
      subst (λ m. Got m least q.0 q.1) sum (goes 0 least h.0.0 h.0.1 q state h.2)
    where
      first : (n least : ℕ) (t : Term) (s : List ℕ) → Good n t → State n 0 least t s
      first n least t s g =
          elim g.1 [
            | inl a ↦ record { fine = g.0; levels = omega (arith, a.1); few = λ full. omega (arith, not_row_alone true t a.0); row = inr (inl a.0) }
            | inr few ↦ record { fine = g.0; levels = omega (arith, few); few = λ full. absurd (omega (arith, full, few)); row = inl (omega (arith, few)) }
          ]

  both_well : (n : ℕ) → ReadsWell n × GoesWell n × ListsWell n
  unfolding expression operators values
  both_well zero = (λ least s q e. no_ok _ q e, λ k least left s q state e. no_ok _ q e, λ s q e. no_ok _ q e)
  both_well (suc n) = let h = both_well n in (reads_well n h.0 h.1 h.2, goes_well n h.0 h.1, lists_well n h.0 h.2)

  pub from_text : (n least : ℕ) (s : List ℕ) (q : Term × List ℕ) → expression behind c n least s ≡ Ok q → Fine c q.0 × ((size true q.0).levels ≤ n)
  from_text n least s q e = let g = (both_well n).0 least s q e in (g.fine, g.levels)
