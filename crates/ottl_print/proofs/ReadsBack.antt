-- The text of a tree is read back, by induction on the tree.
-- For the law of laws::prints_as_itself.
use Rattle.std.proofs.Common.{◌≡◌, ℕ, ◌+◌, ◌<◌, ◌≤◌, Bool, true, false, cond, ◌||◌, List, [], ◌∷◌, ◌++◌, length, nat_lt, nat_le, Ok, Option, Some, None, refl, sym, ap, ◌∙◌, arith, true≢false}
use Rattle.std.proofs.lemmas.Bool.Decides.{nat_tests}
use Rattle.std.specs.Prelude.{◌==◌}
use Rattle.hex.specs.Hex.{IsBytes}
use Rattle.ottl_text.specs.declared.expression.Context.{Context}
use Rattle.ottl_text.specs.declared.expression.Literal.{Literal}
use Rattle.ottl_text.specs.declared.expression.Literal.TheVariants as literals
use Rattle.ottl_text.specs.declared.expression.Unary.{Unary}
use Rattle.ottl_text.specs.declared.expression.Unary.TheVariants as one
use Rattle.ottl_text.specs.declared.expression.Binary.{Binary}
use Rattle.ottl_text.specs.declared.expression.Binary.TheVariants as two
use Rattle.ottl_text.specs.Literals.{fits, in_utf8}
use Rattle.ottl_text.specs.Names.{precedence, takes_keys}
use Rattle.ottl_text.specs.Syntax.{Term, literal, path, is_root_span, unary, binary, is_match, substring, cased, concat, is_condition, is_value, is_not, suits}
use Rattle.ottl_text.specs.Grammar.{is_the_sign}
use Rattle.ottl_text.specs.Tokens.{end, sign, piece_at, next_piece}
use Rattle.ottl_print.specs.Names.{binary_name, is_operator}
use Rattle.ottl_print.specs.Printing.{tightness, argument, operand_of_one, Size, levels_at, joined_size, has_parentheses, called_size, size, is_like}
use Rattle.ottl_print.proofs.Marks.{sign_41, sign_44, sign_93, piece_of_operator, operator_piece, operator_again}
use Rattle.ottl_print.proofs.Literals.{IsFloat}
use Rattle.ottl_print.proofs.NamesBack.{in_context, is_name}
use Rattle.ottl_print.proofs.Steps.{IsShallow, Ends, FineKeys}

-- ---- what ends an expression
is_some_binary : Option Binary → Bool
is_some_binary None = false
is_some_binary (Some b) = true

pub no_binary : {A : Type 0} (b : Binary) → None ≡ Some b → A
unfolding is_some_binary
no_binary b e = absurd (true≢false (sym (ap is_some_binary e)))

pub ends_here : (least : ℕ) → Ends least []
unfolding next_piece piece_at
ends_here least = record { free = tt; piece = end; left = []; is = refl; no_key = refl; stops = λ b e. no_binary b e }

pub ends_41 : (least : ℕ) (s : List ℕ) → Ends least (41 ∷ s)
ends_41 least s = record { free = refl; piece = sign 41; left = s; is = sign_41 s; no_key = refl; stops = λ b e. no_binary b e }

pub ends_44 : (least : ℕ) (s : List ℕ) → Ends least (44 ∷ s)
ends_44 least s = record { free = refl; piece = sign 44; left = s; is = sign_44 s; no_key = refl; stops = λ b e. no_binary b e }

pub ends_93 : (least : ℕ) (s : List ℕ) → Ends least (93 ∷ s)
ends_93 least s = record { free = refl; piece = sign 93; left = s; is = sign_93 s; no_key = refl; stops = λ b e. no_binary b e }

operator_no_key : (b : Binary) → is_the_sign 91 (piece_of_operator b) ≡ false
operator_no_key two.Or = refl
operator_no_key two.And = refl
operator_no_key two.Equal = refl
operator_no_key two.NotEqual = refl
operator_no_key two.Less = refl
operator_no_key two.AtMost = refl
operator_no_key two.Greater = refl
operator_no_key two.AtLeast = refl
operator_no_key two.Add = refl
operator_no_key two.Subtract = refl
operator_no_key two.Multiply = refl
operator_no_key two.Divide = refl
operator_no_key two.HasPrefix = refl
operator_no_key two.HasSuffix = refl

abbrev reaches : ℕ → Option Binary → Bool
reaches least None = false
reaches least (Some b) = nat_le least (precedence b)

above_is_false : (a b : ℕ) → b < a → nat_le a b ≡ false
above_is_false a b h = grind (arith, nat_tests, h)

pub from_not_below : (a b : ℕ) → nat_lt a b ≡ false → b ≤ a
from_not_below a b e = grind (arith, nat_tests, e)

pub at_most_is_true : (a b : ℕ) → a ≤ b → nat_le a b ≡ true
at_most_is_true a b h = grind (arith, nat_tests, h)

not_at_most : (a b : ℕ) → nat_le a b ≡ false → b < a
not_at_most a b e = grind (arith, nat_tests, e)

pub ends_operator : (least : ℕ) (b : Binary) (s : List ℕ) → is_operator b ≡ true → precedence b < least → Ends least (32 ∷ (binary_name b ++ 32 ∷ s))
ends_operator least b s e h =
    record {
      free = refl;
      piece = piece_of_operator b;
      left = 32 ∷ s;
      is = operator_piece b s e;
      no_key = operator_no_key b;
      stops = λ d same. ap (reaches least) (sym same ∙ operator_again b e) ∙ above_is_false least (precedence b) h;
    }

pub ends_more : (a b : ℕ) (rest : List ℕ) → a ≤ b → Ends a rest → Ends b rest
ends_more a b rest h ends =
    record {
      free = ends.free;
      piece = ends.piece;
      left = ends.left;
      is = ends.is;
      no_key = ends.no_key;
      stops = λ d same. let below = not_at_most a (precedence d) (ends.stops d same) in above_is_false b (precedence d) (omega (arith, below, h));
    }

-- operators that bind less tight end a tree's text
abbrev pub end_of : Term → ℕ
end_of (binary b x y) = cond (is_operator b) (precedence b + 1) 7
end_of (unary u x) = cond (is_not u) 3 7
end_of _ = 7

pub end_ok : (t : Term) (least : ℕ) → least ≤ tightness t → least ≤ end_of t
end_ok (literal l) least h = omega (arith, h)
end_ok (path p) least h = omega (arith, h)
end_ok is_root_span least h = omega (arith, h)
end_ok (unary u x) least h = go (is_not u) h
  where
    go : (b : Bool) → least ≤ cond b 3 6 → least ≤ cond b 3 7
    go true h = h
    go false h = omega (arith, h)
end_ok (binary b x y) least h = go (is_operator b) h
  where
    go : (o : Bool) → least ≤ cond o (precedence b) 6 → least ≤ cond o (precedence b + 1) 7
    go true h = omega (arith, h)
    go false h = omega (arith, h)
end_ok (is_match x p) least h = omega (arith, h)
end_ok (substring x y z) least h = omega (arith, h)
end_ok (cased k x) least h = omega (arith, h)
end_ok (concat x d y) least h = omega (arith, h)

pub precedence_some : (b : Binary) → (1 ≤ precedence b) × (precedence b ≤ 5)
precedence_some two.Or = (omega arith, omega arith)
precedence_some two.And = (omega arith, omega arith)
precedence_some two.Equal = (omega arith, omega arith)
precedence_some two.NotEqual = (omega arith, omega arith)
precedence_some two.Less = (omega arith, omega arith)
precedence_some two.AtMost = (omega arith, omega arith)
precedence_some two.Greater = (omega arith, omega arith)
precedence_some two.AtLeast = (omega arith, omega arith)
precedence_some two.Add = (omega arith, omega arith)
precedence_some two.Subtract = (omega arith, omega arith)
precedence_some two.Multiply = (omega arith, omega arith)
precedence_some two.Divide = (omega arith, omega arith)
precedence_some two.HasPrefix = (omega arith, omega arith)
precedence_some two.HasSuffix = (omega arith, omega arith)

pub tight_some : (t : Term) → 1 ≤ tightness t
tight_some (literal l) = omega arith
tight_some (path p) = omega arith
tight_some is_root_span = omega arith
tight_some (unary u x) = go (is_not u)
  where
    go : (b : Bool) → 1 ≤ cond b 3 6
    go true = omega arith
    go false = omega arith
tight_some (binary b x y) = go (is_operator b)
  where
    go : (o : Bool) → 1 ≤ cond o (precedence b) 6
    go true = (precedence_some b).0
    go false = omega arith
tight_some (is_match x p) = omega arith
tight_some (substring x y z) = omega arith
tight_some (cased k x) = omega arith
tight_some (concat x d y) = omega arith

-- what `not` makes is an operand of `and` and `or` alone
not_of_comparison : (b : Binary) (x : Term) → is_operator b ≡ true → precedence b ≤ 3 → suits b (unary one.Not x) ≡ true → precedence b < 3
not_of_comparison two.Or x o h e = omega arith
not_of_comparison two.And x o h e = omega arith
not_of_comparison two.Equal x o h e = absurd (true≢false (sym e))
not_of_comparison two.NotEqual x o h e = absurd (true≢false (sym e))
not_of_comparison two.Less x o h e = absurd (true≢false (sym e))
not_of_comparison two.AtMost x o h e = absurd (true≢false (sym e))
not_of_comparison two.Greater x o h e = absurd (true≢false (sym e))
not_of_comparison two.AtLeast x o h e = absurd (true≢false (sym e))
not_of_comparison two.Add x o h e = absurd (true≢false (sym e))
not_of_comparison two.Subtract x o h e = absurd (true≢false (sym e))
not_of_comparison two.Multiply x o h e = absurd (true≢false (sym e))
not_of_comparison two.Divide x o h e = absurd (true≢false (sym e))
not_of_comparison two.HasPrefix x o h e = absurd (true≢false (sym o))
not_of_comparison two.HasSuffix x o h e = absurd (true≢false (sym o))

pub is_not_only : (u : Unary) → is_not u ≡ true → u ≡ one.Not
is_not_only one.Not e = refl
is_not_only one.IsString e = absurd (true≢false (sym e))
is_not_only one.IsInt e = absurd (true≢false (sym e))
is_not_only one.IsDouble e = absurd (true≢false (sym e))
is_not_only one.IsBool e = absurd (true≢false (sym e))
is_not_only one.IsMap e = absurd (true≢false (sym e))
is_not_only one.IsList e = absurd (true≢false (sym e))
is_not_only one.Len e = absurd (true≢false (sym e))
is_not_only one.Int e = absurd (true≢false (sym e))
is_not_only one.Double e = absurd (true≢false (sym e))
is_not_only one.Text e = absurd (true≢false (sym e))
is_not_only one.Duration e = absurd (true≢false (sym e))
is_not_only one.Like e = absurd (true≢false (sym e))

pub is_like_only : (u : Unary) → is_like u ≡ true → u ≡ one.Like
is_like_only one.Like e = refl
is_like_only one.Not e = absurd (true≢false (sym e))
is_like_only one.IsString e = absurd (true≢false (sym e))
is_like_only one.IsInt e = absurd (true≢false (sym e))
is_like_only one.IsDouble e = absurd (true≢false (sym e))
is_like_only one.IsBool e = absurd (true≢false (sym e))
is_like_only one.IsMap e = absurd (true≢false (sym e))
is_like_only one.IsList e = absurd (true≢false (sym e))
is_like_only one.Len e = absurd (true≢false (sym e))
is_like_only one.Int e = absurd (true≢false (sym e))
is_like_only one.Double e = absurd (true≢false (sym e))
is_like_only one.Text e = absurd (true≢false (sym e))
is_like_only one.Duration e = absurd (true≢false (sym e))

pub left_end : (b : Binary) (x : Term) → is_operator b ≡ true → precedence b ≤ tightness x → suits b x ≡ true → precedence b < end_of x
left_end b (literal l) o h e = omega (arith, (precedence_some b).1)
left_end b (path p) o h e = omega (arith, (precedence_some b).1)
left_end b is_root_span o h e = omega (arith, (precedence_some b).1)
left_end b (unary u x) o h e = go (is_not u) refl h
  where
    go : (n : Bool) → is_not u ≡ n → precedence b ≤ cond n 3 6 → precedence b < cond n 3 7
    go true is h = not_of_comparison b x o h (ap (λ v. suits b (unary v x)) (sym (is_not_only u is)) ∙ e)
    go false is h = omega (arith, (precedence_some b).1)
left_end b (binary d x y) o h e = go (is_operator d) h
  where
    go : (n : Bool) → precedence b ≤ cond n (precedence d) 6 → precedence b < cond n (precedence d + 1) 7
    go true h = omega (arith, h)
    go false h = omega (arith, (precedence_some b).1)
left_end b (is_match x p) o h e = omega (arith, (precedence_some b).1)
left_end b (substring x y z) o h e = omega (arith, (precedence_some b).1)
left_end b (cased k x) o h e = omega (arith, (precedence_some b).1)
left_end b (concat x d y) o h e = omega (arith, (precedence_some b).1)

-- ---- trees that are read from some text
abbrev pub FineLiteral : Literal → Type 0
FineLiteral literals.Nil = Unit {0}
FineLiteral (literals.Bool b) = Unit {0}
FineLiteral (literals.Int z) = fits z ≡ true
FineLiteral (literals.Float x) = IsFloat x
FineLiteral (literals.Text t) = in_utf8 t ≡ Ok t
FineLiteral (literals.Bytes t) = IsBytes t × (0 < length t)

abbrev pub suits_one : Unary → Term → Bool
suits_one u x = cond (is_not u) (is_condition x) (is_value x)

abbrev mutual
  pub Fine : Context → Term → Type 0
  Fine c (literal l) = FineLiteral l
  Fine c (path p) = (in_context c p.root ≡ true) × ((takes_keys p.root || (length p.keys == 0)) ≡ true) × FineKeys p.keys
  Fine c is_root_span = Unit {0}
  Fine c (unary u x) = (suits_one u x ≡ true) × Fine c x
  Fine c (binary b x y) = (suits b x ≡ true) × (suits b y ≡ true) × Fine c x × Fine c y × (is_operator b ≡ true → IsShallow b x y)
  Fine c (is_match x pattern) = (is_value x ≡ true) × (in_utf8 pattern ≡ Ok pattern) × Fine c x
  Fine c (substring x y z) = (is_value x ≡ true) × (is_value y ≡ true) × (is_value z ≡ true) × Fine c x × Fine c y × Fine c z
  Fine c (cased k x) = (is_value x ≡ true) × Fine c x
  Fine c (concat x delimiter y) = (in_utf8 delimiter ≡ Ok delimiter) × FineValue c x × FineValues c delimiter y

  -- one value of `Concat`
  pub FineValue : Context → Term → Type 0
  FineValue c (unary u x) = (u ≡ one.Like) × (is_value x ≡ true) × Fine c x
  FineValue c _ = ⊥

  -- values of `Concat` with this delimiter
  pub FineValues : Context → List ℕ → Term → Type 0
  FineValues c d (unary u x) = (u ≡ one.Like) × (is_value x ≡ true) × Fine c x
  FineValues c d (concat x delimiter y) = (delimiter ≡ d) × FineValue c x × FineValues c d y
  FineValues c d _ = ⊥

pub function_suits : (b : Binary) (x : Term) → is_operator b ≡ false → suits b x ≡ true → is_value x ≡ true
function_suits two.HasPrefix x o e = e
function_suits two.HasSuffix x o e = e
function_suits two.Or x o e = absurd (true≢false o)
function_suits two.And x o e = absurd (true≢false o)
function_suits two.Equal x o e = absurd (true≢false o)
function_suits two.NotEqual x o e = absurd (true≢false o)
function_suits two.Less x o e = absurd (true≢false o)
function_suits two.AtMost x o e = absurd (true≢false o)
function_suits two.Greater x o e = absurd (true≢false o)
function_suits two.AtLeast x o e = absurd (true≢false o)
function_suits two.Add x o e = absurd (true≢false o)
function_suits two.Subtract x o e = absurd (true≢false o)
function_suits two.Multiply x o e = absurd (true≢false o)
function_suits two.Divide x o e = absurd (true≢false o)

pub binary_is_name : (b : Binary) → is_operator b ≡ false → is_name (binary_name b) ≡ true
binary_is_name two.HasPrefix o = refl
binary_is_name two.HasSuffix o = refl
binary_is_name two.Or o = absurd (true≢false o)
binary_is_name two.And o = absurd (true≢false o)
binary_is_name two.Equal o = absurd (true≢false o)
binary_is_name two.NotEqual o = absurd (true≢false o)
binary_is_name two.Less o = absurd (true≢false o)
binary_is_name two.AtMost o = absurd (true≢false o)
binary_is_name two.Greater o = absurd (true≢false o)
binary_is_name two.AtLeast o = absurd (true≢false o)
binary_is_name two.Add o = absurd (true≢false o)
binary_is_name two.Subtract o = absurd (true≢false o)
binary_is_name two.Multiply o = absurd (true≢false o)
binary_is_name two.Divide o = absurd (true≢false o)

-- ---- levels
pub levels_at_least : (least : ℕ) (t : Term) (n : ℕ) → n ≤ levels_at least t n
levels_at_least least t n = go (nat_lt (tightness t) least)
  where
    go : (b : Bool) → n ≤ cond b (n + 1) n
    go true = omega arith
    go false = omega arith

by_parentheses : (w : Bool) (s : Size) (right : ℕ) → 2 ≤ right → (joined_size w s right).row + 2 ≤ (joined_size w s right).levels
by_parentheses true s right h = omega (arith, h)
by_parentheses false s right h = omega (arith, h)

binary_row : (sparing : Bool) (b : Binary) (x y : Term) → 2 ≤ (size sparing x).levels → 2 ≤ (size sparing y).levels → (size sparing (binary b x y)).row + 2 ≤ (size sparing (binary b x y)).levels
binary_row sparing b x y hx hy = go (is_operator b)
  where
    right : ℕ
    right = levels_at (precedence b + 1) y (size sparing y).levels

    enough : 2 ≤ levels_at (precedence b + 1) y (size sparing y).levels
    enough = omega (arith, hy, levels_at_least (precedence b + 1) y (size sparing y).levels)

    go : (o : Bool)
        → (cond o (joined_size (has_parentheses sparing b x (size sparing x) (levels_at (precedence b + 1) y (size sparing y).levels)) (size sparing x) (levels_at (precedence b + 1) y (size sparing y).levels)) (called_size (levels_at argument x (size sparing x).levels) (levels_at argument y (size sparing y).levels))).row
        + 2
        ≤ (cond o (joined_size (has_parentheses sparing b x (size sparing x) (levels_at (precedence b + 1) y (size sparing y).levels)) (size sparing x) (levels_at (precedence b + 1) y (size sparing y).levels)) (called_size (levels_at argument x (size sparing x).levels) (levels_at argument y (size sparing y).levels))).levels
    go true = by_parentheses (has_parentheses sparing b x (size sparing x) (levels_at (precedence b + 1) y (size sparing y).levels)) (size sparing x) _ enough
    go false = omega (arith, hx, levels_at_least argument x (size sparing x).levels)

pub row_levels : (sparing : Bool) (t : Term) → (size sparing t).row + 2 ≤ (size sparing t).levels
row_levels sparing (literal l) = omega arith
row_levels sparing (path p) = omega arith
row_levels sparing is_root_span = omega arith
row_levels sparing (unary u x) = omega (arith, row_levels sparing x, levels_at_least (operand_of_one u) x (size sparing x).levels)
row_levels sparing (binary b x y) = binary_row sparing b x y (omega (arith, row_levels sparing x)) (omega (arith, row_levels sparing y))
row_levels sparing (is_match x p) = omega (arith, row_levels sparing x, levels_at_least argument x (size sparing x).levels)
row_levels sparing (substring x y z) = omega (arith, row_levels sparing x, levels_at_least argument x (size sparing x).levels)
row_levels sparing (cased k x) = omega (arith, row_levels sparing x, levels_at_least argument x (size sparing x).levels)
row_levels sparing (concat x d y) = omega (arith, row_levels sparing x)
