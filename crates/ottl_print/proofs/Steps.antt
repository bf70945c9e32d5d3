-- The readers of the grammar, where each piece that they want stands in front of them.
-- For the law of laws::prints_as_itself.
use Rattle.std.proofs.Common.{◌≡◌, ℕ, zero, suc, ◌+◌, ◌<◌, ℤ, true, false, ◌||◌, List, [], ◌∷◌, ◌++◌, length, nat_le, Ok, Option, Some, None, codes, refl, sym, ap, ◌∙◌, arith, append_assoc, append-nil}
use Rattle.std.specs.Prelude.{◌==◌}
use Rattle.std.specs.Fmt.{signed_decimal}
use Rattle.std.specs.Float.{Float}
use Rattle.hex.specs.Hex.{IsBytes, encode_lower}
use Rattle.ottl_text.specs.declared.expression.Context.{Context}
use Rattle.ottl_text.specs.declared.expression.Key.{Key}
use Rattle.ottl_text.specs.declared.expression.Key.TheVariants as keys
use Rattle.ottl_text.specs.declared.expression.Root.{Root}
use Rattle.ottl_text.specs.declared.expression.Literal.TheVariants as literals
use Rattle.ottl_text.specs.declared.expression.Unary.{Unary}
use Rattle.ottl_text.specs.declared.expression.Unary.TheVariants as one
use Rattle.ottl_text.specs.declared.expression.Binary.{Binary}
use Rattle.ottl_text.specs.declared.expression.Case.{Case}
use Rattle.ottl_text.specs.declared.expression.Case.TheVariants as cases
use Rattle.ottl_text.specs.Names.{case_named}
use Rattle.ottl_print.specs.Names.{case_name}
use Rattle.ottl_text.specs.declared.fault.FaultKind.{FaultKind}
use Rattle.ottl_text.specs.Gives.{Read}
use Rattle.ottl_text.specs.Literals.{fits, in_utf8, int_of, float_of}
use Rattle.ottl_text.specs.Names.{operator_of, precedence, takes_keys}
use Rattle.ottl_text.specs.Syntax.{Term, path, is_root_span, unary, binary, is_match, substring, cased, concat, is_condition, is_value, suits, depth}
use Rattle.ottl_text.specs.Grammar.{most_deep, next_at, after_sign, is_the_sign, joined, text_at, bytes_at, int_at, float_at, key_of, key_at, keyed, path_at, pattern_at, root_span_at, literal_at, argument_at, unary_at, binary_at, match_at, substring_at, not_at, inner_at, by_piece, operand, by_operator, case_at, delimiter_at, cased_at, concat_at, values, expression, operators}
use Rattle.ottl_text.specs.Tokens.{Piece, int, float, bytes, text, sign, next_piece}
use Rattle.ottl_print.specs.Texts.{escaped, in_quotes, float_text, key_text, keys_text}
use Rattle.ottl_print.proofs.Pieces.{Free}
use Rattle.ottl_print.proofs.Marks.{text_piece, text_back, sign_91, sign_93}
use Rattle.ottl_print.proofs.Literals.{whole_number, int_read, bytes_back}

-- what a text begins with, and what is left
abbrev pub Begins : List ℕ → Piece → List ℕ → Type 0
Begins s p rest = next_piece s ≡ Ok (p, rest)

-- what may stand behind an expression whose operators bind at least so tight
pub record Ends (least : ℕ) (rest : List ℕ) : Type 0 where
  pub free : Free rest
  pub piece : Piece
  pub left : List ℕ
  pub is : Begins rest piece left
  pub no_key : is_the_sign 91 piece ≡ false
  pub stops : (b : Binary) → operator_of piece ≡ Some b → nat_le least (precedence b) ≡ false

-- two operands and the operator between them are no deeper than one may be
abbrev pub IsShallow : Binary → Term → Term → Type 0
IsShallow b x y = nat_le (depth (binary b x y)) most_deep ≡ true

abbrev pub FineKey : Key → Type 0
FineKey (keys.Text t) = in_utf8 t ≡ Ok t
FineKey (keys.Index z) = fits z ≡ true

abbrev pub FineKeys : List Key → Type 0
FineKeys [] = Unit {0}
FineKeys (k ∷ ks) = FineKey k × FineKeys ks

module _ (behind : ℕ) where
  next_ok : (s rest : List ℕ) (p : Piece) → Begins s p rest → next_at behind s ≡ Ok (p, rest)
  unfolding next_at
  next_ok s rest p e = rw e refl

  pub sign_ok : (c : ℕ) (kind : FaultKind) (s rest : List ℕ) → (c == c) ≡ true → Begins s (sign c) rest → after_sign behind c kind s ≡ Ok rest
  unfolding after_sign
  sign_ok c kind s rest same e = rw (next_ok s rest (sign c) e, same) refl

  -- ---- keys
  key_text_ok : (t s rest : List ℕ) → in_utf8 t ≡ Ok t → Begins s (text (escaped t)) rest → key_at behind s ≡ Ok (keys.Text t, rest)
  unfolding key_at key_of text_at
  key_text_ok t s rest u e = rw (next_ok s rest (text (escaped t)) e, text_back t u) refl

  key_int_ok : (z : ℤ) (s rest : List ℕ) → int_of (signed_decimal z) ≡ Ok z → Begins s (int (signed_decimal z)) rest → key_at behind s ≡ Ok (keys.Index z, rest)
  unfolding key_at key_of int_at
  key_int_ok z s rest u e = rw (next_ok s rest (int (signed_decimal z)) e, u) refl

  key_ok : (k : Key) (rest : List ℕ) → FineKey k → key_at behind (key_text k ++ 93 ∷ rest) ≡ Ok (k, 93 ∷ rest)
  key_ok (keys.Text t) rest u =
      key_text_ok t (in_quotes t ++ 93 ∷ rest) (93 ∷ rest) u (ap (λ l. next_piece (34 ∷ l)) (append_assoc (escaped t) (34 ∷ []) (93 ∷ rest)) ∙ text_piece t (93 ∷ rest))
  key_ok (keys.Index z) rest u = let w = whole_number z u in key_int_ok z (signed_decimal z ++ 93 ∷ rest) (93 ∷ rest) w.again (int_read z (93 ∷ rest) w refl)

  keyed_step : (n : ℕ) (k : Key) (done : List Key) (s a b rest : List ℕ) → Begins s (sign 91) a → key_at behind a ≡ Ok (k, b) → Begins b (sign 93) rest → keyed behind (suc n) done s ≡ keyed behind n (done ++ k ∷ []) rest
  unfolding keyed
  keyed_step n k done s a b rest e f g = rw (next_ok s a (sign 91) e, f, sign_ok 93 Rattle.ottl_text.specs.declared.fault.FaultKind.TheVariants.NoClosingBracket b rest refl g) refl

  keyed_end : (n : ℕ) (done : List Key) (s rest : List ℕ) (p : Piece) → Begins s p rest → is_the_sign 91 p ≡ false → keyed behind (suc n) done s ≡ Ok (done, s)
  unfolding keyed
  keyed_end n done s rest p e f = rw (next_ok s rest p e, f) refl

  pub keys_ok : (ks done : List Key) (n least : ℕ) (rest : List ℕ) → FineKeys ks → length ks < n → Ends least rest → keyed behind n done (keys_text ks ++ rest) ≡ Ok (done ++ ks, rest)
  keys_ok ks done zero least rest fine more h = absurd (omega arith)
  keys_ok [] done (suc n) least rest fine more h = keyed_end n done rest h.left h.piece h.is h.no_key ∙ ap (λ l. Ok (l, rest)) (sym (append-nil done))
  keys_ok (k ∷ ks) done (suc n) least rest fine more h =
      let reassoc : (key_text k ++ 93 ∷ keys_text ks) ++ rest ≡ key_text k ++ 93 ∷ (keys_text ks ++ rest) = append_assoc (key_text k) (93 ∷ keys_text ks) rest in
      ap (λ l. keyed behind (suc n) done (91 ∷ l)) reassoc
      ∙ keyed_step n k done (91 ∷ (key_text k ++ 93 ∷ (keys_text ks ++ rest))) (key_text k ++ 93 ∷ (keys_text ks ++ rest)) (93 ∷ (keys_text ks ++ rest)) (keys_text ks ++ rest)
      (sign_91 (key_text k ++ 93 ∷ (keys_text ks ++ rest))) (key_ok k (keys_text ks ++ rest) fine.0) (sign_93 (keys_text ks ++ rest))
      ∙ keys_ok ks (done ++ k ∷ []) n least rest fine.1 (omega (arith, more)) h
      ∙ ap (λ l. Ok (l, rest)) (append_assoc done (k ∷ []) ks)

  pub path_ok : (n : ℕ) (root : Root) (ks : List Key) (s rest : List ℕ) → keyed behind n [] s ≡ Ok (ks, rest) → (takes_keys root || (length ks == 0)) ≡ true → path_at behind n root s ≡ Ok (path (record { root = root; keys = ks }), rest)
  unfolding path_at
  path_ok n root ks s rest e f = rw (e, f) refl

  -- ---- literals
  pub literal_int : (z : ℤ) (s : List ℕ) → int_of (signed_decimal z) ≡ Ok z → literal_at behind (int (signed_decimal z)) s ≡ Ok (literals.Int z)
  unfolding literal_at int_at
  literal_int z s e = rw e refl

  pub literal_float : (x : Float) (s : List ℕ) → float_of (float_text x) ≡ Ok x → literal_at behind (float (float_text x)) s ≡ Ok (literals.Float x)
  unfolding literal_at float_at
  literal_float x s e = rw e refl

  pub literal_of_text : (t s : List ℕ) → in_utf8 t ≡ Ok t → literal_at behind (text (escaped t)) s ≡ Ok (literals.Text t)
  unfolding literal_at text_at
  literal_of_text t s e = rw (text_back t e) refl

  pub literal_bytes : (t s : List ℕ) → IsBytes t → literal_at behind (bytes (encode_lower t)) s ≡ Ok (literals.Bytes t)
  unfolding literal_at bytes_at
  literal_bytes t s e = rw (bytes_back t e) refl

  -- ---- `IsRootSpan`
  pub root_span_ok : (s a rest : List ℕ) → Begins s (sign 40) a → Begins a (sign 41) rest → root_span_at behind s ≡ Ok (is_root_span, rest)
  unfolding root_span_at
  root_span_ok s a rest e f = rw (sign_ok 40 Rattle.ottl_text.specs.declared.fault.FaultKind.TheVariants.NoOpening s a refl e, sign_ok 41 Rattle.ottl_text.specs.declared.fault.FaultKind.TheVariants.NoClosing a rest refl f) refl

  module _ (read : ℕ → List ℕ → Read (Term × List ℕ)) where
    -- `read` gives a value, which is an argument
    abbrev pub IsArgument : List ℕ → Term → List ℕ → Type 0
    IsArgument s x rest = (read 4 s ≡ Ok (x, rest)) × (is_value x ≡ true)

    argument_ok : (s rest : List ℕ) (x : Term) → IsArgument s x rest → argument_at behind read s ≡ Ok (x, rest)
    unfolding argument_at
    argument_ok s rest x h = rw (h.0, h.1) refl

    abbrev opening : (s a : List ℕ) → Begins s (sign 40) a → after_sign behind 40 Rattle.ottl_text.specs.declared.fault.FaultKind.TheVariants.NoOpening s ≡ Ok a
    opening s a e = sign_ok 40 Rattle.ottl_text.specs.declared.fault.FaultKind.TheVariants.NoOpening s a refl e

    abbrev comma : (s a : List ℕ) → Begins s (sign 44) a → after_sign behind 44 Rattle.ottl_text.specs.declared.fault.FaultKind.TheVariants.NoComma s ≡ Ok a
    comma s a e = sign_ok 44 Rattle.ottl_text.specs.declared.fault.FaultKind.TheVariants.NoComma s a refl e

    abbrev closing : (s a : List ℕ) → Begins s (sign 41) a → after_sign behind 41 Rattle.ottl_text.specs.declared.fault.FaultKind.TheVariants.NoClosing s ≡ Ok a
    closing s a e = sign_ok 41 Rattle.ottl_text.specs.declared.fault.FaultKind.TheVariants.NoClosing s a refl e

    pub unary_ok : (u : Unary) (s a b rest : List ℕ) (x : Term) → Begins s (sign 40) a → IsArgument a x b → Begins b (sign 41) rest → unary_at behind read u s ≡ Ok (unary u x, rest)
    unfolding unary_at
    unary_ok u s a b rest x e f g = rw (opening s a e, argument_ok a b x f, closing b rest g) refl

    pub binary_ok : (u : Binary) (s a b c d rest : List ℕ) (x y : Term) → Begins s (sign 40) a → IsArgument a x b → Begins b (sign 44) c → IsArgument c y d → Begins d (sign 41) rest
        → binary_at behind read u s ≡ Ok (binary u x y, rest)
    unfolding binary_at
    binary_ok u s a b c d rest x y e f g h i = rw (opening s a e, argument_ok a b x f, comma b c g, argument_ok c d y h, closing d rest i) refl

    pattern_ok : (t s rest : List ℕ) → in_utf8 t ≡ Ok t → Begins s (text (escaped t)) rest → pattern_at behind s ≡ Ok (t, rest)
    unfolding pattern_at text_at
    pattern_ok t s rest u e = rw (next_ok s rest (text (escaped t)) e, text_back t u) refl

    pub match_ok : (t s a b c d rest : List ℕ) (x : Term) → Begins s (sign 40) a → IsArgument a x b → Begins b (sign 44) c → in_utf8 t ≡ Ok t → Begins c (text (escaped t)) d → Begins d (sign 41) rest
        → match_at behind read s ≡ Ok (is_match x t, rest)
    unfolding match_at
    match_ok t s a b c d rest x e f g u h i = rw (opening s a e, argument_ok a b x f, comma b c g, pattern_ok t c d u h, closing d rest i) refl

    pub substring_ok : (s a b c d e f rest : List ℕ) (x y z : Term) → Begins s (sign 40) a → IsArgument a x b → Begins b (sign 44) c → IsArgument c y d → Begins d (sign 44) e → IsArgument e z f → Begins f (sign 41) rest
        → substring_at behind read s ≡ Ok (substring x y z, rest)
    unfolding substring_at
    substring_ok s a b c d e f rest x y z h i j k l m o = rw (opening s a h, argument_ok a b x i, comma b c j, argument_ok c d y k, comma d e l, argument_ok e f z m, closing f rest o) refl

    pub not_ok : (s rest : List ℕ) (x : Term) → read 3 s ≡ Ok (x, rest) → is_condition x ≡ true → not_at behind read s ≡ Ok (unary one.Not x, rest)
    unfolding not_at
    not_ok s rest x e f = rw (e, f) refl

    pub inner_ok : (s a rest : List ℕ) (x : Term) → read 1 s ≡ Ok (x, a) → Begins a (sign 41) rest → inner_at behind read s ≡ Ok (x, rest)
    unfolding inner_at
    inner_ok s a rest x e f = rw (e, closing a rest f) refl

    case_text_ok : (k : Case) (s rest : List ℕ) → Begins s (text (escaped (case_name k))) rest → case_at behind s ≡ Ok (k, rest)
    unfolding case_at case_named
    case_text_ok cases.Lower s rest e = rw (next_ok s rest (text (codes "lower")) e) refl
    case_text_ok cases.Upper s rest e = rw (next_ok s rest (text (codes "upper")) e) refl

    pub cased_ok : (k : Case) (s a b c d rest : List ℕ) (x : Term) → Begins s (sign 40) a → IsArgument a x b → Begins b (sign 44) c → Begins c (text (escaped (case_name k))) d → Begins d (sign 41) rest
        → cased_at behind read s ≡ Ok (cased k x, rest)
    unfolding cased_at
    cased_ok k s a b c d rest x e f g h i = rw (opening s a e, argument_ok a b x f, comma b c g, case_text_ok k c d h, closing d rest i) refl

    pub delimiter_ok : (t s a b rest : List ℕ) → in_utf8 t ≡ Ok t → Begins s (sign 44) a → Begins a (text (escaped t)) b → Begins b (sign 41) rest → delimiter_at behind s ≡ Ok (t, rest)
    unfolding delimiter_at text_at
    delimiter_ok t s a b rest u e f g = rw (comma s a e, next_ok a b (text (escaped t)) f, text_back t u, closing b rest g) refl

    pub concat_ok : (values : List ℕ → Read (Term × List ℕ × List ℕ)) (s a b left rest d : List ℕ) (p : Piece) (v : Term) → Begins s (sign 40) a → Begins a (sign 91) b → Begins b p left → is_the_sign 93 p ≡ false
        → values b ≡ Ok (v, d, rest) → concat_at behind values s ≡ Ok (v, rest)
    unfolding concat_at
    concat_ok values s a b left rest d p v e f g other h =
        rw (opening s a e, sign_ok 91 Rattle.ottl_text.specs.declared.fault.FaultKind.TheVariants.NoOpeningBracket a b refl f, next_ok b left p g, other, h) refl

    pub operand_ok : (levels : ℕ) (c : Context) (values : List ℕ → Read (Term × List ℕ × List ℕ)) (s rest : List ℕ) (p : Piece) (r : Read (Term × List ℕ)) → Begins s p rest
        → by_piece behind read levels c values p s rest ≡ r → operand behind read levels c values s ≡ r
    unfolding operand
    operand_ok levels c values s rest p r e f = rw (next_ok s rest p e) f

  -- ---- expressions
  module _ (c : Context) where
    pub expression_ok : (n least : ℕ) (s rest : List ℕ) (t : Term) → operand behind (expression behind c n) n c (values behind c n) s ≡ Ok (t, rest) → expression behind c (suc n) least s ≡ operators behind c n least t rest
    unfolding expression
    expression_ok n least s rest t e = rw e refl

    stopped : {A : Type 0} (o : Option Binary) (least : ℕ) (more : Binary → Read A) (stop : Read A) → ((b : Binary) → o ≡ Some b → nat_le least (precedence b) ≡ false) → by_operator behind o least more stop ≡ stop
    stopped None least more stop h = refl
    stopped (Some b) least more stop h = rw (h b refl) refl

    pub stops_ok : (n least : ℕ) (t : Term) (rest : List ℕ) → Ends least rest → operators behind c (suc n) least t rest ≡ Ok (t, rest)
    unfolding operators
    stops_ok n least t rest h = rw (next_ok rest h.left h.piece h.is) (stopped (operator_of h.piece) least _ (Ok (t, rest)) h.stops)

    joined_ok : (b : Binary) (x y : Term) (s : List ℕ) → suits b x ≡ true → suits b y ≡ true → IsShallow b x y → joined behind b x y s ≡ Ok (binary b x y)
    unfolding joined
    joined_ok b x y s e f g = rw (e, f, g) refl

    pub goes_on : (n least : ℕ) (b : Binary) (x y : Term) (s a rest : List ℕ) (p : Piece) → Begins s p a → operator_of p ≡ Some b → nat_le least (precedence b) ≡ true
        → expression behind c n (precedence b + 1) a ≡ Ok (y, rest) → suits b x ≡ true → suits b y ≡ true → IsShallow b x y → operators behind c (suc n) least x s ≡ operators behind c n least (binary b x y) rest
    unfolding operators
    goes_on n least b x y s a rest p e f g h i j k = rw (next_ok s a p e, f, g, h, joined_ok b x y s i j k) refl

    -- the last value of `Concat`, and one that others follow
    pub last_value : (n : ℕ) (t : Term) (s a b d rest : List ℕ) → IsArgument (expression behind c n) s t a → Begins a (sign 93) b → delimiter_at behind b ≡ Ok (d, rest) → values behind c (suc n) s ≡ Ok (unary one.Like t, d, rest)
    unfolding values
    last_value n t s a b d rest e f g = rw (argument_ok (expression behind c n) s a t e, next_ok a b (sign 93) f, g) refl

    pub more_values : (n : ℕ) (t v : Term) (s a b d rest : List ℕ) → IsArgument (expression behind c n) s t a → Begins a (sign 44) b → values behind c n b ≡ Ok (v, d, rest)
        → values behind c (suc n) s ≡ Ok (concat (unary one.Like t) d v, d, rest)
    unfolding values
    more_values n t v s a b d rest e f g = rw (argument_ok (expression behind c n) s a t e, next_ok a b (sign 44) f, g) refl
