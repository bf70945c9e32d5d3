-- Levels as they are counted, and the parts that fit where the whole does.
-- For the contracts of sizes and printing.
use Rattle.std.proofs.Common.{◌≡◌, ℕ, ◌+◌, ◌<◌, ◌≤◌, min, max, Bool, true, false, cond, List, nat_lt, subst, inl, inr, arith}
use Rattle.std.proofs.lemmas.Bool.{cases_lt}
use Rattle.std.proofs.lemmas.Bool.Decides.{nat_tests}
use Rattle.ottl_text.specs.declared.expression.Unary.{Unary}
use Rattle.ottl_text.specs.declared.expression.Binary.{Binary}
use Rattle.ottl_text.specs.declared.expression.Case.{Case}
use Rattle.ottl_text.specs.Syntax.{Term, unary, binary, is_match, substring, cased, concat}
use Rattle.ottl_text.specs.Names.{precedence}
use Rattle.ottl_print.specs.Names.{is_operator}
use Rattle.ottl_print.specs.Printing.{Size, levels_at, joined_size, has_parentheses, called_size, size, argument, operand_of_one}
use Rattle.ottl_print.specs.Sizes.{IsCapped, IsSizeOf, Fits}
use Rattle.ottl_print.proofs.ReadsBack.{levels_at_least}

pub not_joined : (s : Size) (n levels row right both : ℕ) → IsSizeOf s levels row → IsCapped right n → both ≡ min (max levels (row + 2 + right)) 201 → (r : ℕ) → r ≡ min (row + 1) 201
    → IsSizeOf (joined_size false s n) both r
not_joined s n levels row right both h k is r same = elim (cases_lt s.levels 201) [
  | inl few ↦ (
      let row_is = h.row_is (omega (arith, few)) in
      record { levels_are = omega (arith, h.levels_are, k, is, row_is); row_is = λ e. omega (arith, e, row_is, same); row_small = omega (arith, same) })
  | inr many ↦ record { levels_are = omega (arith, h.levels_are, k, is, many); row_is = λ e. absurd (omega (arith, e, many)); row_small = omega (arith, same) }
]

-- too many levels are too many with parentheses and without
any_joined : (s : Size) (n levels row : ℕ) (w v : Bool) → 200 < s.levels → IsSizeOf (joined_size w s n) levels row → IsSizeOf (joined_size v s n) levels row
any_joined s n levels row w v many h =
    let big = at_least w in
    let other = at_least v in
    record { levels_are = omega (arith, h.levels_are, big, other); row_is = λ e. absurd (omega (arith, e, other)); row_small = h.row_small }
  where
    at_least : (w : Bool) → 200 < (joined_size w s n).levels
    at_least true = omega (arith, many)
    at_least false = omega (arith, many)

pub chosen_joined : (s : Size) (n levels row : ℕ) (w v : Bool) → (s.levels ≤ 200 → w ≡ v) → IsSizeOf (joined_size w s n) levels row → IsSizeOf (joined_size v s n) levels row
chosen_joined s n levels row w v same h = elim (cases_lt 200 s.levels) [
  | inl many ↦ any_joined s n levels row w v many h
  | inr few ↦ subst (λ w. IsSizeOf (joined_size w s n) levels row) (same few) h
]

-- ---- whether more parentheses are put
pub many : (counted n : ℕ) → IsCapped counted n → 200 < counted → nat_lt 200 n ≡ true
many counted n h large = let big : 200 < n = omega (arith, h, large) in grind (arith, nat_tests, big)

-- ---- parts
within : (s t : Term) (sparing : Bool) → (size true s).levels ≤ (size true t).levels → Fits sparing t → Fits sparing s
within s t sparing h f = record { few = λ e. omega (arith, h, f.few e) }

pub within_unary : (sparing : Bool) (u : Unary) (x : Term) → Fits sparing (unary u x) → Fits sparing x
within_unary sparing u x = within x (unary u x) sparing (omega (arith, levels_at_least (operand_of_one u) x (size true x).levels))

abbrev right_levels : Binary → Term → ℕ
right_levels b y = levels_at (precedence b + 1) y (size true y).levels

binary_holds : (b : Binary) (x y : Term) → ((size true x).levels ≤ (size true (binary b x y)).levels) × ((size true y).levels ≤ (size true (binary b x y)).levels)
binary_holds b x y = go (is_operator b)
  where
    go : (o : Bool)
        → ((size true x).levels ≤ (cond o (joined_size (has_parentheses true b x (size true x) (levels_at (precedence b + 1) y (size true y).levels)) (size true x) (levels_at (precedence b + 1) y (size true y).levels)) (called_size (levels_at argument x (size true x).levels) (levels_at argument y (size true y).levels))).levels)
        × ((size true y).levels ≤ (cond o (joined_size (has_parentheses true b x (size true x) (levels_at (precedence b + 1) y (size true y).levels)) (size true x) (levels_at (precedence b + 1) y (size true y).levels)) (called_size (levels_at argument x (size true x).levels) (levels_at argument y (size true y).levels))).levels)
    go true = by_wrap (has_parentheses true b x (size true x) (levels_at (precedence b + 1) y (size true y).levels))
      where
        by_wrap : (w : Bool) → ((size true x).levels ≤ (joined_size w (size true x) (levels_at (precedence b + 1) y (size true y).levels)).levels) × ((size true y).levels ≤ (joined_size w (size true x) (levels_at (precedence b + 1) y (size true y).levels)).levels)
        by_wrap true = (omega arith, omega (arith, levels_at_least (precedence b + 1) y (size true y).levels))
        by_wrap false = (omega arith, omega (arith, levels_at_least (precedence b + 1) y (size true y).levels))
    go false = (omega (arith, levels_at_least argument x (size true x).levels), omega (arith, levels_at_least argument y (size true y).levels))

pub within_left : (sparing : Bool) (b : Binary) (x y : Term) → Fits sparing (binary b x y) → Fits sparing x
within_left sparing b x y = within x (binary b x y) sparing (binary_holds b x y).0

pub within_right : (sparing : Bool) (b : Binary) (x y : Term) → Fits sparing (binary b x y) → Fits sparing y
within_right sparing b x y = within y (binary b x y) sparing (binary_holds b x y).1

pub within_match : (sparing : Bool) (x : Term) (p : List ℕ) → Fits sparing (is_match x p) → Fits sparing x
within_match sparing x p = within x (is_match x p) sparing (omega (arith, levels_at_least argument x (size true x).levels))

pub within_cased : (sparing : Bool) (k : Case) (x : Term) → Fits sparing (cased k x) → Fits sparing x
within_cased sparing k x = within x (cased k x) sparing (omega (arith, levels_at_least argument x (size true x).levels))

pub within_first : (sparing : Bool) (x y z : Term) → Fits sparing (substring x y z) → Fits sparing x
within_first sparing x y z = within x (substring x y z) sparing (omega (arith, levels_at_least argument x (size true x).levels))

pub within_second : (sparing : Bool) (x y z : Term) → Fits sparing (substring x y z) → Fits sparing y
within_second sparing x y z = within y (substring x y z) sparing (omega (arith, levels_at_least argument y (size true y).levels))

pub within_third : (sparing : Bool) (x y z : Term) → Fits sparing (substring x y z) → Fits sparing z
within_third sparing x y z = within z (substring x y z) sparing (omega (arith, levels_at_least argument z (size true z).levels))

pub within_value : (sparing : Bool) (x y : Term) (d : List ℕ) → Fits sparing (concat x d y) → Fits sparing x
within_value sparing x y d = within x (concat x d y) sparing (omega arith)

pub within_others : (sparing : Bool) (x y : Term) (d : List ℕ) → Fits sparing (concat x d y) → Fits sparing y
within_others sparing x y d = within y (concat x d y) sparing (omega arith)
