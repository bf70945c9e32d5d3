-- The text of a tree is read back, by induction on the tree.
-- For the law of laws::prints_as_itself.
use Rattle.std.proofs.Common.{◌≡◌, ℕ, zero, suc, ◌+◌, ◌-◌, ◌<◌, ◌≤◌, Bool, true, false, cond, ◌||◌, List, [], ◌∷◌, ◌++◌, length, nat_lt, Ok, codes, refl, sym, ap, ◌∙◌, arith, append_assoc}
use Rattle.std.specs.Prelude.{◌==◌}
use Rattle.std.specs.Fmt.{signed_decimal}
use Rattle.hex.specs.Hex.{encode_lower}
use Rattle.ottl_text.specs.declared.expression.Context.{Context}
use Rattle.ottl_text.specs.declared.expression.Key.{Key}
use Rattle.ottl_text.specs.declared.expression.Path.{Path}
use Rattle.ottl_text.specs.declared.expression.Literal.{Literal}
use Rattle.ottl_text.specs.declared.expression.Literal.TheVariants as literals
use Rattle.ottl_text.specs.declared.expression.Unary.{Unary}
use Rattle.ottl_text.specs.declared.expression.Unary.TheVariants as one
use Rattle.ottl_text.specs.declared.expression.Binary.{Binary}
use Rattle.ottl_text.specs.Gives.{Read}
use Rattle.ottl_text.specs.Literals.{in_utf8}
use Rattle.ottl_text.specs.Names.{precedence}
use Rattle.ottl_text.specs.Syntax.{Term, literal, path, is_root_span, unary, binary, is_match, substring, cased, concat, is_condition, is_value, is_not, suits}
use Rattle.ottl_text.specs.declared.expression.Case.{Case}
use Rattle.std.specs.Str.{is_utf8, chars}
use lib.Utf8.{encode}
use Rattle.ottl_text.specs.Grammar.{is_the_sign, next_at, argument_at, by_piece, cased_at, concat_at, literal_at, inner_at, word_at, operand, expression, operators, values}
use Rattle.ottl_print.proofs.Parts.{bind_ok, if_ok, no_ok, next_began, eq_of_test}
use Rattle.ottl_text.specs.Tokens.{Piece, end, word, int, float, bytes, text as quoted_text, sign, operator, next_piece}
use Rattle.ottl_print.specs.Names.{unary_name, binary_name, case_name, is_operator, root_name}
use Rattle.ottl_print.specs.Texts.{escaped, in_quotes, keys_text, float_text, literal_text}
use Rattle.ottl_print.specs.Printing.{tightness, argument, Size, levels_at, joined_size, has_parentheses, size, in_parentheses, operand_text, first_of, next_of, closing, is_like, concat_text, text, values_text}
use Rattle.ottl_print.proofs.Pieces.{Free}
use Rattle.ottl_print.proofs.Marks.{text_piece, sign_40, sign_41, sign_44, sign_91, sign_93, piece_of_operator, operator_piece, operator_again}
use Rattle.ottl_print.proofs.Literals.{whole_number, int_read, float_read, bytes_read}
use Rattle.ottl_print.proofs.NamesBack.{name_piece, root_is_name, unary_is_name, root_word, unary_word, binary_word, is_name}
use Rattle.ottl_print.proofs.Steps.{IsShallow, Begins, Ends, keys_ok, path_ok, literal_int, literal_float, literal_of_text, literal_bytes, root_span_ok, IsArgument, unary_ok, binary_ok, match_ok, substring_ok, not_ok, inner_ok, operand_ok, expression_ok, stops_ok, goes_on, cased_ok, delimiter_ok, concat_ok, last_value, more_values}
use Rattle.ottl_print.proofs.ReadsBack.{ends_41, ends_44, ends_93, ends_operator, ends_more, end_of, end_ok, tight_some, left_end, FineLiteral, suits_one, Fine, FineValue, FineValues, function_suits, binary_is_name, levels_at_least, row_levels, from_not_below, at_most_is_true, is_not_only, is_like_only}

module _ (sparing : Bool) (c : Context) (behind : ℕ) where
  -- the expressions that nest one level less
  abbrev reader : ℕ → ℕ → List ℕ → Read (Term × List ℕ)
  reader n = expression behind c n

  -- What begins as the text `l` is read as the tree, up to what ends it, and the levels behind it are those that its row leaves.
  abbrev RowReadAs : Term → Size → (tight stop : ℕ) → List ℕ → Type 0
  RowReadAs t z tight stop l =
      (n m least : ℕ) (s rest : List ℕ) → n ≡ m + z.row → z.levels ≤ suc n → least ≤ tight → Ends stop rest → next_piece s ≡ next_piece (l ++ rest)
      → expression behind c (suc n) least s ≡ operators behind c m least t rest

  abbrev RowRead : Term → Type 0
  RowRead t = RowReadAs t (size sparing t) (tightness t) (end_of t) (text sparing c t)

  stops_any : (n least : ℕ) (t : Term) (rest : List ℕ) → 0 < n → Ends least rest → operators behind c n least t rest ≡ Ok (t, rest)
  stops_any zero least t rest h e = absurd (omega (arith, h))
  stops_any (suc n) least t rest h e = stops_ok behind c n least t rest e

  -- a tree that is a row of its own
  alone_reads : (t : Term) (n m least : ℕ) (s rest : List ℕ) → n ≡ m + 0 → operand behind (reader n) n c (values behind c n) s ≡ Ok (t, rest) → expression behind c (suc n) least s ≡ operators behind c m least t rest
  alone_reads t n m least s rest e h = let same : n ≡ m = omega (arith, e) in expression_ok behind c n least s rest t h ∙ ap (λ k. operators behind c k least t rest) same

  in_front : (s l rest : List ℕ) (p : Piece) (left : List ℕ) → next_piece s ≡ next_piece (l ++ rest) → Begins (l ++ rest) p left → Begins s p left
  in_front s l rest p left e b = e ∙ b

  -- ---- parentheses
  inner_reads : (t : Term) → RowRead t → (n : ℕ) (s rest : List ℕ) → (size sparing t).levels ≤ n → next_piece s ≡ next_piece ((40 ∷ (text sparing c t ++ 41 ∷ [])) ++ rest)
      → operand behind (reader n) n c (values behind c n) s ≡ Ok (t, rest)
  inner_reads t reads zero s rest few e = absurd (omega (arith, few, row_levels sparing t))
  inner_reads t reads (suc n) s rest few e =
      let inner = (text sparing c t ++ 41 ∷ []) ++ rest in
      let m = n - (size sparing t).row in
      let again : next_piece inner ≡ next_piece (text sparing c t ++ 41 ∷ rest) = ap next_piece (append_assoc (text sparing c t) (41 ∷ []) rest) in
      let read : expression behind c (suc n) 1 inner ≡ Ok (t, 41 ∷ rest) =
      reads n m 1 inner (41 ∷ rest) (omega (arith, few, row_levels sparing t)) few (tight_some t) (ends_41 (end_of t) rest) again
      ∙ stops_any m 1 t (41 ∷ rest) (omega (arith, few, row_levels sparing t)) (ends_41 1 rest) in
      operand_ok behind (reader (suc n)) (suc n) c (values behind c (suc n)) s inner (sign 40) (Ok (t, rest)) (e ∙ sign_40 inner)
      (inner_ok behind (reader (suc n)) inner (41 ∷ rest) rest t read (sign_41 rest))

  -- ---- an operand
  operand_reads : (t : Term) → RowRead t → (n least : ℕ) (s rest : List ℕ) → levels_at least t (size sparing t).levels ≤ n → Ends least rest
      → next_piece s ≡ next_piece (operand_text least t (text sparing c t) ++ rest) → expression behind c n least s ≡ Ok (t, rest)
  operand_reads t reads zero least s rest few ends e = absurd (omega (arith, few, row_levels sparing t, levels_at_least least t (size sparing t).levels))
  operand_reads t reads (suc n) least s rest few ends e = go (nat_lt (tightness t) least) refl few e
    where
      go : (b : Bool) → nat_lt (tightness t) least ≡ b → cond b ((size sparing t).levels + 1) (size sparing t).levels ≤ suc n → next_piece s ≡ next_piece (in_parentheses b (text sparing c t) ++ rest)
          → expression behind c (suc n) least s ≡ Ok (t, rest)
      go true is few e =
          expression_ok behind c n least s rest t (inner_reads t reads n s rest (omega (arith, few)) e) ∙ stops_any n least t rest (omega (arith, few, row_levels sparing t)) ends
      go false is few e =
          let m = n - (size sparing t).row in
          let tight = from_not_below (tightness t) least is in
          reads n m least s rest (omega (arith, few, row_levels sparing t)) few tight (ends_more least (end_of t) rest (end_ok t least tight) ends) e
          ∙ stops_any m least t rest (omega (arith, few, row_levels sparing t)) ends

  -- an argument of a function
  argument_reads : (t : Term) → RowRead t → (n : ℕ) (s rest : List ℕ) → levels_at argument t (size sparing t).levels ≤ n → is_value t ≡ true → Ends argument rest
      → next_piece s ≡ next_piece (operand_text argument t (text sparing c t) ++ rest) → IsArgument behind (reader n) s t rest
  argument_reads t reads n s rest few value ends e = (operand_reads t reads n argument s rest few ends e, value)

  -- ---- literals, paths, `IsRootSpan`
  word_reads : (n : ℕ) (w s rest : List ℕ) (r : Read (Term × List ℕ)) → is_name w ≡ true → Free rest → next_piece s ≡ next_piece (w ++ rest) → word_at behind (reader n) n c (values behind c n) w s rest ≡ r
      → operand behind (reader n) n c (values behind c n) s ≡ r
  word_reads n w s rest r name free e h = operand_ok behind (reader n) n c (values behind c n) s rest (word w) r (e ∙ name_piece w rest name free) h

  literal_reads : (l : Literal) → FineLiteral l → (n : ℕ) (s rest : List ℕ) → Free rest → next_piece s ≡ next_piece (literal_text l ++ rest) → operand behind (reader n) n c (values behind c n) s ≡ Ok (literal l, rest)
  unfolding word_at
  literal_reads literals.Nil fine n s rest free e = word_reads n (codes "nil") s rest (Ok (literal literals.Nil, rest)) refl free e refl
  literal_reads (literals.Bool true) fine n s rest free e = word_reads n (codes "true") s rest (Ok (literal (literals.Bool true), rest)) refl free e refl
  literal_reads (literals.Bool false) fine n s rest free e = word_reads n (codes "false") s rest (Ok (literal (literals.Bool false), rest)) refl free e refl
  literal_reads (literals.Int z) fine n s rest free e =
      let w = whole_number z fine in
      operand_ok behind (reader n) n c (values behind c n) s rest (int (signed_decimal z)) (Ok (literal (literals.Int z), rest)) (e ∙ int_read z rest w free) (rw (literal_int behind z s w.again) refl)
  literal_reads (literals.Float x) fine n s rest free e =
      operand_ok behind (reader n) n c (values behind c n) s rest (float (float_text x)) (Ok (literal (literals.Float x), rest)) (e ∙ float_read x rest fine free) (rw (literal_float behind x s fine.again) refl)
  literal_reads (literals.Text t) fine n s rest free e =
      operand_ok behind (reader n) n c (values behind c n) s rest (quoted_text (escaped t)) (Ok (literal (literals.Text t), rest))
      (e ∙ ap (λ l. next_piece (34 ∷ l)) (append_assoc (escaped t) (34 ∷ []) rest) ∙ text_piece t rest) (rw (literal_of_text behind t s fine) refl)
  literal_reads (literals.Bytes t) fine n s rest free e =
      operand_ok behind (reader n) n c (values behind c n) s rest (bytes (encode_lower t)) (Ok (literal (literals.Bytes t), rest)) (e ∙ bytes_read t rest fine.0 fine.1 free) (rw (literal_bytes behind t s fine.0) refl)

  keys_free : (ks : List Key) (rest : List ℕ) → Free rest → Free (keys_text ks ++ rest)
  keys_free [] rest free = free
  keys_free (k ∷ ks) rest free = refl

  path_reads : (p : Path) → Fine c (path p) → (n : ℕ) (s rest : List ℕ) (least : ℕ) → length p.keys + 2 ≤ suc n → Ends least rest → next_piece s ≡ next_piece ((root_name c p.root ++ keys_text p.keys) ++ rest)
      → operand behind (reader n) n c (values behind c n) s ≡ Ok (path p, rest)
  path_reads p fine n s rest least few ends e =
      let more = keys_text p.keys ++ rest in
      word_reads n (root_name c p.root) s more (Ok (path p, rest)) (root_is_name c p.root) (keys_free p.keys rest ends.free) (e ∙ ap next_piece (append_assoc (root_name c p.root) (keys_text p.keys) rest))
      (root_word behind (reader n) n (values behind c n) c p.root s more fine.0 ∙ path_ok behind n p.root p.keys more rest (keys_ok behind p.keys [] n least rest fine.2 (omega (arith, few)) ends) fine.1)

  root_span_reads : (n : ℕ) (s rest : List ℕ) → next_piece s ≡ next_piece (codes "IsRootSpan()" ++ rest) → operand behind (reader n) n c (values behind c n) s ≡ Ok (is_root_span, rest)
  unfolding word_at
  root_span_reads n s rest e =
      word_reads n (codes "IsRootSpan") s (40 ∷ 41 ∷ rest) (Ok (is_root_span, rest)) refl refl e (root_span_ok behind (40 ∷ 41 ∷ rest) (41 ∷ rest) rest (sign_40 (41 ∷ rest)) (sign_41 rest))

  -- ---- functions of one value, and `not`
  skip_space : (s : List ℕ) → next_piece (32 ∷ s) ≡ next_piece s
  unfolding next_piece
  skip_space s = refl

  not_reads : (x : Term) → RowRead x → (n : ℕ) (s rest : List ℕ) → levels_at 3 x (size sparing x).levels ≤ n → is_condition x ≡ true → Ends 3 rest
      → next_piece s ≡ next_piece ((codes "not " ++ operand_text 3 x (text sparing c x)) ++ rest) → operand behind (reader n) n c (values behind c n) s ≡ Ok (unary one.Not x, rest)
  unfolding word_at
  not_reads x reads n s rest few condition ends e =
      let more = operand_text 3 x (text sparing c x) ++ rest in
      word_reads n (codes "not") s (32 ∷ more) (Ok (unary one.Not x, rest)) refl refl e
      (not_ok behind (reader n) (32 ∷ more) rest x (operand_reads x reads n 3 (32 ∷ more) rest few ends (skip_space more)) condition)

  unary_reads : (u : Unary) (x : Term) → RowRead x → (n : ℕ) (s rest : List ℕ) → levels_at argument x (size sparing x).levels ≤ n → is_not u ≡ false → is_like u ≡ false → is_value x ≡ true
      → next_piece s ≡ next_piece ((unary_name u ++ first_of (operand_text argument x (text sparing c x)) closing) ++ rest) → operand behind (reader n) n c (values behind c n) s ≡ Ok (unary u x, rest)
  unary_reads u x reads n s rest few is plain value e =
      let X = operand_text argument x (text sparing c x) in
      let more = (X ++ closing) ++ rest in
      word_reads n (unary_name u) s (40 ∷ more) (Ok (unary u x, rest)) (unary_is_name u) refl (e ∙ ap next_piece (append_assoc (unary_name u) (40 ∷ (X ++ closing)) rest))
      (unary_word behind (reader n) n (values behind c n) c u s (40 ∷ more) is plain
      ∙ unary_ok behind (reader n) u (40 ∷ more) more (41 ∷ rest) rest x (sign_40 more)
      (argument_reads x reads n more (41 ∷ rest) few value (ends_41 argument rest) (ap next_piece (append_assoc X closing rest))) (sign_41 rest))

  -- ---- functions of more
  called_reads : (b : Binary) (x y : Term) → RowRead x → RowRead y → (n : ℕ) (s rest : List ℕ) → levels_at argument x (size sparing x).levels ≤ n → levels_at argument y (size sparing y).levels ≤ n
      → is_operator b ≡ false → is_value x ≡ true → is_value y ≡ true
      → next_piece s ≡ next_piece ((binary_name b ++ first_of (operand_text argument x (text sparing c x)) (next_of (operand_text argument y (text sparing c y)) closing)) ++ rest)
      → operand behind (reader n) n c (values behind c n) s ≡ Ok (binary b x y, rest)
  called_reads b x y reads_x reads_y n s rest few_x few_y is value_x value_y e =
      let X = operand_text argument x (text sparing c x) in
      let Y = operand_text argument y (text sparing c y) in
      let last = (Y ++ closing) ++ rest in
      let more = (X ++ next_of Y closing) ++ rest in
      word_reads n (binary_name b) s (40 ∷ more) (Ok (binary b x y, rest)) (binary_is_name b is) refl (e ∙ ap next_piece (append_assoc (binary_name b) (40 ∷ (X ++ next_of Y closing)) rest))
      (binary_word behind (reader n) n (values behind c n) c b s (40 ∷ more) is
      ∙ binary_ok behind (reader n) b (40 ∷ more) more (44 ∷ 32 ∷ last) (32 ∷ last) (41 ∷ rest) rest x y (sign_40 more)
      (argument_reads x reads_x n more (44 ∷ 32 ∷ last) few_x value_x (ends_44 argument (32 ∷ last)) (ap next_piece (append_assoc X (next_of Y closing) rest)))
      (sign_44 (32 ∷ last))
      (argument_reads y reads_y n (32 ∷ last) (41 ∷ rest) few_y value_y (ends_41 argument rest) (skip_space last ∙ ap next_piece (append_assoc Y closing rest)))
      (sign_41 rest))

  match_reads : (x : Term) (p : List ℕ) → RowRead x → (n : ℕ) (s rest : List ℕ) → levels_at argument x (size sparing x).levels ≤ n → is_value x ≡ true → in_utf8 p ≡ Ok p
      → next_piece s ≡ next_piece ((codes "IsMatch" ++ first_of (operand_text argument x (text sparing c x)) (next_of (in_quotes p) closing)) ++ rest) → operand behind (reader n) n c (values behind c n) s ≡ Ok (is_match x p, rest)
  unfolding word_at
  match_reads x p reads n s rest few value utf8 e =
      let X = operand_text argument x (text sparing c x) in
      let last = (in_quotes p ++ closing) ++ rest in
      let more = (X ++ next_of (in_quotes p) closing) ++ rest in
      let pattern : next_piece (32 ∷ last) ≡ Ok (quoted_text (escaped p), 41 ∷ rest) =
      skip_space last ∙ ap next_piece (append_assoc (in_quotes p) closing rest) ∙ ap (λ l. next_piece (34 ∷ l)) (append_assoc (escaped p) (34 ∷ []) (41 ∷ rest)) ∙ text_piece p (41 ∷ rest) in
      word_reads n (codes "IsMatch") s (40 ∷ more) (Ok (is_match x p, rest)) refl refl e
      (match_ok behind (reader n) p (40 ∷ more) more (44 ∷ 32 ∷ last) (32 ∷ last) (41 ∷ rest) rest x (sign_40 more)
      (argument_reads x reads n more (44 ∷ 32 ∷ last) few value (ends_44 argument (32 ∷ last)) (ap next_piece (append_assoc X (next_of (in_quotes p) closing) rest)))
      (sign_44 (32 ∷ last)) utf8 pattern (sign_41 rest))

  substring_reads : (x y z : Term) → RowRead x → RowRead y → RowRead z → (n : ℕ) (s rest : List ℕ) → levels_at argument x (size sparing x).levels ≤ n → levels_at argument y (size sparing y).levels ≤ n → levels_at argument z (size sparing z).levels ≤ n
      → is_value x ≡ true → is_value y ≡ true → is_value z ≡ true
      → next_piece s ≡ next_piece ((codes "Substring" ++ first_of (operand_text argument x (text sparing c x)) (next_of (operand_text argument y (text sparing c y)) (next_of (operand_text argument z (text sparing c z)) closing))) ++ rest)
      → operand behind (reader n) n c (values behind c n) s ≡ Ok (substring x y z, rest)
  unfolding word_at
  substring_reads x y z reads_x reads_y reads_z n s rest few_x few_y few_z value_x value_y value_z e =
      let X = operand_text argument x (text sparing c x) in
      let Y = operand_text argument y (text sparing c y) in
      let Z = operand_text argument z (text sparing c z) in
      let last = (Z ++ closing) ++ rest in
      let middle = (Y ++ next_of Z closing) ++ rest in
      let more = (X ++ next_of Y (next_of Z closing)) ++ rest in
      word_reads n (codes "Substring") s (40 ∷ more) (Ok (substring x y z, rest)) refl refl e
      (substring_ok behind (reader n) (40 ∷ more) more (44 ∷ 32 ∷ middle) (32 ∷ middle) (44 ∷ 32 ∷ last) (32 ∷ last) (41 ∷ rest) rest x y z (sign_40 more)
      (argument_reads x reads_x n more (44 ∷ 32 ∷ middle) few_x value_x (ends_44 argument (32 ∷ middle)) (ap next_piece (append_assoc X (next_of Y (next_of Z closing)) rest)))
      (sign_44 (32 ∷ middle))
      (argument_reads y reads_y n (32 ∷ middle) (44 ∷ 32 ∷ last) few_y value_y (ends_44 argument (32 ∷ last)) (skip_space middle ∙ ap next_piece (append_assoc Y (next_of Z closing) rest)))
      (sign_44 (32 ∷ last))
      (argument_reads z reads_z n (32 ∷ last) (41 ∷ rest) few_z value_z (ends_41 argument rest) (skip_space last ∙ ap next_piece (append_assoc Z closing rest)))
      (sign_41 rest))

  -- ---- operators
  abbrev right_levels : Binary → Term → ℕ
  right_levels b y = levels_at (precedence b + 1) y (size sparing y).levels

  -- behind the operand on the left
  right_reads : (b : Binary) (x y : Term) → RowRead y → (m least : ℕ) (rest : List ℕ) → right_levels b y ≤ m → least ≤ precedence b → is_operator b ≡ true → suits b x ≡ true → suits b y ≡ true → IsShallow b x y → Ends (precedence b + 1) rest
      → operators behind c (suc m) least x (32 ∷ (binary_name b ++ 32 ∷ (operand_text (precedence b + 1) y (text sparing c y) ++ rest))) ≡ operators behind c m least (binary b x y) rest
  right_reads b x y reads m least rest few tight o suits_x suits_y shallow ends =
      let more = operand_text (precedence b + 1) y (text sparing c y) ++ rest in
      goes_on behind c m least b x y (32 ∷ (binary_name b ++ 32 ∷ more)) (32 ∷ more) rest (piece_of_operator b) (operator_piece b more o) (operator_again b o) (at_most_is_true least (precedence b) tight)
      (operand_reads y reads m (precedence b + 1) (32 ∷ more) rest few ends (skip_space more)) suits_x suits_y shallow

  operator_reads : (b : Binary) (x y : Term) → RowRead x → RowRead y → is_operator b ≡ true → suits b x ≡ true → suits b y ≡ true → IsShallow b x y → (w : Bool) → (w ≡ false → precedence b ≤ tightness x)
      → RowReadAs (binary b x y) (joined_size w (size sparing x) (right_levels b y)) (precedence b) (precedence b + 1)
      (in_parentheses w (text sparing c x) ++ (32 ∷ (binary_name b ++ 32 ∷ operand_text (precedence b + 1) y (text sparing c y))))
  operator_reads b x y reads_x reads_y o suits_x suits_y shallow true bare = λ n m least s rest is few tight ends e.
      let Y = operand_text (precedence b + 1) y (text sparing c y) in
      let P = in_parentheses true (text sparing c x) in
      let R = 32 ∷ (binary_name b ++ 32 ∷ (Y ++ rest)) in
      let one_more : n ≡ suc m = omega (arith, is) in
      let again : (P ++ (32 ∷ (binary_name b ++ 32 ∷ Y))) ++ rest ≡ P ++ R = append_assoc P (32 ∷ (binary_name b ++ 32 ∷ Y)) rest ∙ ap (λ l. P ++ (32 ∷ l)) (append_assoc (binary_name b) (32 ∷ Y) rest) in
      expression_ok behind c n least s R x (inner_reads x reads_x n s R (omega (arith, few)) (e ∙ ap next_piece again))
      ∙ ap (λ k. operators behind c k least x R) one_more
      ∙ right_reads b x y reads_y m least rest (omega (arith, few, is)) tight o suits_x suits_y shallow ends
  operator_reads b x y reads_x reads_y o suits_x suits_y shallow false bare = λ n m least s rest is few tight ends e.
      let Y = operand_text (precedence b + 1) y (text sparing c y) in
      let P = text sparing c x in
      let R = 32 ∷ (binary_name b ++ 32 ∷ (Y ++ rest)) in
      let bound = bare refl in
      let again : (P ++ (32 ∷ (binary_name b ++ 32 ∷ Y))) ++ rest ≡ P ++ R = append_assoc P (32 ∷ (binary_name b ++ 32 ∷ Y)) rest ∙ ap (λ l. P ++ (32 ∷ l)) (append_assoc (binary_name b) (32 ∷ Y) rest) in
      reads_x n (suc m) least s R (omega (arith, is)) (omega (arith, few)) (omega (arith, tight, bound))
      (ends_operator (end_of x) b (Y ++ rest) o (left_end b x o bound suits_x)) (e ∙ ap next_piece again)
      ∙ right_reads b x y reads_y m least rest (omega (arith, few, is)) tight o suits_x suits_y shallow ends

  first_false : (p q : Bool) → (p || q) ≡ false → p ≡ false
  first_false true q e = e
  first_false false q e = refl

  binary_reads : (b : Binary) (x y : Term) → RowRead x → RowRead y → suits b x ≡ true → suits b y ≡ true → (is_operator b ≡ true → IsShallow b x y) → RowRead (binary b x y)
  binary_reads b x y reads_x reads_y suits_x suits_y shallow = go (is_operator b) refl
    where
      go : (o : Bool) → is_operator b ≡ o → RowRead (binary b x y)
      go true o =
          rw o
          (operator_reads b x y reads_x reads_y o suits_x suits_y (shallow o) (has_parentheses sparing b x (size sparing x) (right_levels b y))
          (λ w. from_not_below (tightness x) (precedence b) (first_false (nat_lt (tightness x) (precedence b)) _ w)))
      go false o =
          rw o
          (λ n m least s rest is few tight ends e. alone_reads (binary b x y) n m least s rest is
          (called_reads b x y reads_x reads_y n s rest (omega (arith, few)) (omega (arith, few)) o (function_suits b x o suits_x) (function_suits b y o suits_y) e))

  -- ---- `ConvertCase` and `Concat`
  case_piece : (k : Case) (rest : List ℕ) → next_piece (in_quotes (case_name k) ++ rest) ≡ Ok (quoted_text (escaped (case_name k)), rest)
  case_piece k rest = ap (λ l. next_piece (34 ∷ l)) (append_assoc (escaped (case_name k)) (34 ∷ []) rest) ∙ text_piece (case_name k) rest

  cased_reads : (k : Case) (x : Term) → RowRead x → (n : ℕ) (s rest : List ℕ) → levels_at argument x (size sparing x).levels ≤ n → is_value x ≡ true
      → next_piece s ≡ next_piece ((codes "ConvertCase" ++ first_of (operand_text argument x (text sparing c x)) (next_of (in_quotes (case_name k)) closing)) ++ rest)
      → operand behind (reader n) n c (values behind c n) s ≡ Ok (cased k x, rest)
  unfolding word_at
  cased_reads k x reads n s rest few value e =
      let X = operand_text argument x (text sparing c x) in
      let last = (in_quotes (case_name k) ++ closing) ++ rest in
      let more = (X ++ next_of (in_quotes (case_name k)) closing) ++ rest in
      let named : next_piece (32 ∷ last) ≡ Ok (quoted_text (escaped (case_name k)), 41 ∷ rest) =
      skip_space last ∙ ap next_piece (append_assoc (in_quotes (case_name k)) closing rest) ∙ case_piece k (41 ∷ rest) in
      word_reads n (codes "ConvertCase") s (40 ∷ more) (Ok (cased k x, rest)) refl refl e
      (cased_ok behind (reader n) k (40 ∷ more) more (44 ∷ 32 ∷ last) (32 ∷ last) (41 ∷ rest) rest x (sign_40 more)
      (argument_reads x reads n more (44 ∷ 32 ∷ last) few value (ends_44 argument (32 ∷ last)) (ap next_piece (append_assoc X (next_of (in_quotes (case_name k)) closing) rest)))
      (sign_44 (32 ∷ last)) named (sign_41 rest))

  -- behind the values of `Concat`
  abbrev behind_values : List ℕ → List ℕ → List ℕ
  behind_values d rest = 93 ∷ ((44 ∷ 32 ∷ (in_quotes d ++ closing)) ++ rest)

  -- values read back, with the delimiter
  abbrev ValuesRead : List ℕ → Term → Type 0
  ValuesRead d t =
      (n : ℕ) (s rest : List ℕ) → (size sparing t).levels ≤ suc n → next_piece s ≡ next_piece (values_text sparing c t ++ behind_values d rest) → values behind c n s ≡ Ok (t, d, rest)

  delimiter_reads : (d rest : List ℕ) → in_utf8 d ≡ Ok d → Rattle.ottl_text.specs.Grammar.delimiter_at behind ((44 ∷ 32 ∷ (in_quotes d ++ closing)) ++ rest) ≡ Ok (d, rest)
  delimiter_reads d rest utf8 =
      let last = (in_quotes d ++ closing) ++ rest in
      let quoted : next_piece (32 ∷ last) ≡ Ok (quoted_text (escaped d), 41 ∷ rest) =
      skip_space last ∙ ap next_piece (append_assoc (in_quotes d) closing rest) ∙ ap (λ l. next_piece (34 ∷ l)) (append_assoc (escaped d) (34 ∷ []) (41 ∷ rest)) ∙ text_piece d (41 ∷ rest) in
      delimiter_ok behind (reader 0) d (44 ∷ 32 ∷ last) (32 ∷ last) (41 ∷ rest) rest utf8 (sign_44 (32 ∷ last)) quoted (sign_41 rest)

  last_reads : (d : List ℕ) → in_utf8 d ≡ Ok d → (x : Term) → is_value x ≡ true → RowRead x → ValuesRead d (unary one.Like x)
  last_reads d utf8 x value reads zero s rest few e = absurd (omega (arith, few, row_levels sparing x, levels_at_least argument x (size sparing x).levels))
  last_reads d utf8 x value reads (suc n) s rest few e =
      last_value behind c n x s (behind_values d rest) ((44 ∷ 32 ∷ (in_quotes d ++ closing)) ++ rest) d rest
      (argument_reads x reads n s (behind_values d rest) (omega (arith, few)) value (ends_93 argument ((44 ∷ 32 ∷ (in_quotes d ++ closing)) ++ rest)) e)
      (sign_93 ((44 ∷ 32 ∷ (in_quotes d ++ closing)) ++ rest)) (delimiter_reads d rest utf8)

  first_reads : (d : List ℕ) (x y : Term) → is_value x ≡ true → RowRead x → ValuesRead d y → ValuesRead d (concat (unary one.Like x) d y)
  first_reads d x y value reads more zero s rest few e = absurd (omega (arith, few, row_levels sparing x, levels_at_least argument x (size sparing x).levels))
  first_reads d x y value reads more (suc n) s rest few e =
      let X = operand_text argument x (text sparing c x) in
      let next = values_text sparing c y ++ behind_values d rest in
      more_values behind c n x y s (44 ∷ 32 ∷ next) (32 ∷ next) d rest
      (argument_reads x reads n s (44 ∷ 32 ∷ next) (omega (arith, few)) value (ends_44 argument (32 ∷ next)) (e ∙ ap next_piece (append_assoc X (44 ∷ 32 ∷ values_text sparing c y) (behind_values d rest))))
      (sign_44 (32 ∷ next)) (more n (32 ∷ next) rest (omega (arith, few)) (skip_space next))

  -- what an expression begins with closes no list
  closes_none : (n : ℕ) (p : Piece) (s rest : List ℕ) (vs : List ℕ → Read (Term × List ℕ × List ℕ)) (q : Term × List ℕ) → by_piece behind (reader n) n c vs p s rest ≡ Ok q → is_the_sign 93 p ≡ false
  closes_none n (sign d) s rest vs q e =
      let h = if_ok (d == 40) (inner_at behind (reader n) rest) _ q e in ap (λ k. k == 93) (eq_of_test d 40 h.0)
  closes_none n end s rest vs q e = refl
  closes_none n (bytes d) s rest vs q e = refl
  closes_none n (float d) s rest vs q e = refl
  closes_none n (int d) s rest vs q e = refl
  closes_none n (quoted_text d) s rest vs q e = refl
  closes_none n (word d) s rest vs q e = refl
  closes_none n (operator d) s rest vs q e = refl

  abbrev OpensNone : List ℕ → Type 0
  OpensNone s = (p : Piece) × (left : List ℕ) × Begins s p left × (is_the_sign 93 p ≡ false)

  operand_opens : (n : ℕ) (vs : List ℕ → Read (Term × List ℕ × List ℕ)) (s : List ℕ) (q : Term × List ℕ) → operand behind (reader n) n c vs s ≡ Ok q → OpensNone s
  unfolding operand
  operand_opens n vs s q e = let h = bind_ok (next_at behind s) _ q e in (h.0.0, h.0.1, next_began behind s h.0.1 h.0.0 h.1, closes_none n h.0.0 s h.0.1 vs q h.2)

  expression_opens : (n least : ℕ) (s : List ℕ) (q : Term × List ℕ) → expression behind c n least s ≡ Ok q → OpensNone s
  unfolding expression
  expression_opens zero least s q e = no_ok _ q e
  expression_opens (suc n) least s q e = let h = bind_ok (operand behind (reader n) n c (values behind c n) s) _ q e in operand_opens n (values behind c n) s h.0 h.1

  values_open : (n : ℕ) (s : List ℕ) (q : Term × List ℕ × List ℕ) → values behind c n s ≡ Ok q → OpensNone s
  unfolding values argument_at
  values_open zero s q e = no_ok _ q e
  values_open (suc n) s q e =
      let h = bind_ok (argument_at behind (reader n) s) _ q e in
      let g = bind_ok (expression behind c n 4 s) _ h.0 h.1 in expression_opens n 4 s g.0 g.1

  concat_reads : (d : List ℕ) (t : Term) → ValuesRead d t → (n : ℕ) (s rest : List ℕ) → (size sparing t).levels ≤ suc n → next_piece s ≡ next_piece (concat_text (values_text sparing c t) d ++ rest)
      → operand behind (reader n) n c (values behind c n) s ≡ Ok (t, rest)
  unfolding word_at
  concat_reads d t reads n s rest few e =
      let V = values_text sparing c t in
      let more = (V ++ 93 ∷ next_of (in_quotes d) closing) ++ rest in
      let read = reads n more rest few (ap next_piece (append_assoc V (93 ∷ next_of (in_quotes d) closing) rest)) in
      let opens = values_open n more (t, d, rest) read in
      word_reads n (codes "Concat") s (40 ∷ 91 ∷ more) (Ok (t, rest)) refl refl e
      (concat_ok behind (reader n) (values behind c n) (40 ∷ 91 ∷ more) (91 ∷ more) more opens.1 rest d opens.0 t (sign_40 (91 ∷ more)) (sign_91 more) opens.2 opens.3 read)

  empty_utf8 : in_utf8 [] ≡ Ok []
  unfolding is_utf8 chars encode
  empty_utf8 = refl

  one_reads : (u : Unary) (x : Term) → RowRead x → suits_one u x ≡ true → RowRead (unary u x)
  one_reads u x reads suited = go (is_not u) refl
    where
      by_like : (l : Bool) → is_like u ≡ l → is_not u ≡ false → is_value x ≡ true → RowRead (unary u x)
      by_like true l o value =
          rw (is_like_only u l)
          (λ n m least s rest is few tight ends e. alone_reads (unary one.Like x) n m least s rest is
          (concat_reads [] (unary one.Like x) (last_reads [] empty_utf8 x value reads) n s rest few e))
      by_like false l o value =
          rw (o, l)
          (λ n m least s rest is few tight ends e. alone_reads (unary u x) n m least s rest is (unary_reads u x reads n s rest (omega (arith, few)) o l value e))

      go : (o : Bool) → is_not u ≡ o → RowRead (unary u x)
      go true o =
          rw (is_not_only u o)
          (λ n m least s rest is few tight ends e. alone_reads (unary one.Not x) n m least s rest is
          (not_reads x reads n s rest (omega (arith, few)) (ap (λ v. suits_one v x) (sym (is_not_only u o)) ∙ suited) ends e))
      go false o = let value : is_value x ≡ true = rw o at suited in by_like (is_like u) refl o value

  -- one value of `Concat`
  abbrev OneRead : Term → Type 0
  OneRead (unary u x) = (u ≡ one.Like) × (is_value x ≡ true) × RowRead x
  OneRead _ = ⊥

  joined_reads : (d e : List ℕ) (x y : Term) → e ≡ d → OneRead x → ValuesRead d y → ValuesRead d (concat x e y)
  joined_reads d e (unary u x) y same one more = rw (one.0, same) (first_reads d x y one.1 one.2 more)
  joined_reads d e (literal l) y same one more = absurd one
  joined_reads d e (path p) y same one more = absurd one
  joined_reads d e is_root_span y same one more = absurd one
  joined_reads d e (binary b x z) y same one more = absurd one
  joined_reads d e (is_match x p) y same one more = absurd one
  joined_reads d e (substring x w z) y same one more = absurd one
  joined_reads d e (cased k x) y same one more = absurd one
  joined_reads d e (concat x w z) y same one more = absurd one

  -- ---- all trees
  mutual
    pub tree_reads : (t : Term) → Fine c t → RowRead t
    tree_reads (literal l) fine = λ n m least s rest is few tight ends e. alone_reads (literal l) n m least s rest is (literal_reads l fine n s rest ends.free e)
    tree_reads (path p) fine = λ n m least s rest is few tight ends e. alone_reads (path p) n m least s rest is (path_reads p fine n s rest 7 few ends e)
    tree_reads is_root_span fine = λ n m least s rest is few tight ends e. alone_reads is_root_span n m least s rest is (root_span_reads n s rest e)
    tree_reads (unary u x) fine = one_reads u x (tree_reads x fine.1) fine.0
    tree_reads (binary b x y) fine = binary_reads b x y (tree_reads x fine.2) (tree_reads y fine.3) fine.0 fine.1 fine.4
    tree_reads (is_match x p) fine = λ n m least s rest is few tight ends e. alone_reads (is_match x p) n m least s rest is (match_reads x p (tree_reads x fine.2) n s rest (omega (arith, few)) fine.0 fine.1 e)
    tree_reads (substring x y z) fine = λ n m least s rest is few tight ends e.
        alone_reads (substring x y z) n m least s rest is
        (substring_reads x y z (tree_reads x fine.3) (tree_reads y fine.4) (tree_reads z fine.5) n s rest (omega (arith, few)) (omega (arith, few)) (omega (arith, few)) fine.0 fine.1 fine.2 e)
    tree_reads (cased k x) fine = λ n m least s rest is few tight ends e. alone_reads (cased k x) n m least s rest is (cased_reads k x (tree_reads x fine.1) n s rest (omega (arith, few)) fine.0 e)
    tree_reads (concat x d y) fine = λ n m least s rest is few tight ends e.
        alone_reads (concat x d y) n m least s rest is (concat_reads d (concat x d y) (joined_reads d d x y refl (value_reads x fine.1) (values_reads y d fine.0 fine.2)) n s rest few e)

    value_reads : (t : Term) → FineValue c t → OneRead t
    value_reads (unary u x) fine = (fine.0, fine.1, tree_reads x fine.2)
    value_reads (literal l) fine = absurd fine
    value_reads (path p) fine = absurd fine
    value_reads is_root_span fine = absurd fine
    value_reads (binary b x z) fine = absurd fine
    value_reads (is_match x p) fine = absurd fine
    value_reads (substring x w z) fine = absurd fine
    value_reads (cased k x) fine = absurd fine
    value_reads (concat x w z) fine = absurd fine

    values_reads : (t : Term) (d : List ℕ) → in_utf8 d ≡ Ok d → FineValues c d t → ValuesRead d t
    values_reads (unary u x) d utf8 fine = rw fine.0 (last_reads d utf8 x fine.1 (tree_reads x fine.2))
    values_reads (concat x e y) d utf8 fine = joined_reads d e x y fine.0 (value_reads x fine.1) (values_reads y d utf8 fine.2)
    values_reads (literal l) d utf8 fine = absurd fine
    values_reads (path p) d utf8 fine = absurd fine
    values_reads is_root_span d utf8 fine = absurd fine
    values_reads (binary b x z) d utf8 fine = absurd fine
    values_reads (is_match x p) d utf8 fine = absurd fine
    values_reads (substring x w z) d utf8 fine = absurd fine
    values_reads (cased k x) d utf8 fine = absurd fine
