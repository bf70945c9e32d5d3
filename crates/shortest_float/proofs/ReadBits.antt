-- Which fractions read as a float: those close to it, and all that lie between two that do.
-- For the clauses of `shortest_decimal`.
use Rattle.std.proofs.Common.{◌≡◌, ℕ, suc, ◌+◌, ◌-◌, ◌*◌, ◌/◌, ◌%◌, ◌^◌, ◌<◌, ◌≤◌, Bool, true, false, not, cond, ◌&&◌, ◌||◌, T, ltb, eqb, refl, sym, ap, ◌∙◌, subst, inl, inr, arith, mod-eq_of_lt, mul-div_cancel, mul-pos, pow_pos, le_antisymm, mul_right_comm, le_of_lt, true≢false}
use Rattle.std.specs.Float.{Float, binary64, nan, inf, fin}
use lib.Dec.{ltb→lt, eqb→eq}
use native.Mathlib.Nat.{eq_of_mul-eq-mul_right, le_of_eq}
use lib.Ieee.{low, up, down, size, round, le, lt, eq, is_nan, of_bits, to_bits}
use lib.Ieee.Bits.{of_bits-to_bits, to_bits-of_bits, nan_bits_is, nan_bits_above}
use lib.Pow.{pow_mono, shl_lt}
use lib.Ieee.Exact.{HasValue, units_val}
use lib.Ieee.Fits.{down_pos, round-fits}
use lib.Ieee.Order.{round_mono}
use Rattle.fast_float.specs.Rounding.{scaled_bits, IsNearestBits}
use Rattle.fast_float.proofs.Extremes.{nearest_of_zero}
use Rattle.fast_float.proofs.RoundingLemmas.{nearest_of_near}
use Rattle.fast_float.proofs.Patterns.{of_bits-scaled_bits}
use Rattle.shortest_float.specs.Sizes.{IsFinite}

-- the bits of the float that a / c reads as
abbrev pub read_bits : ℕ → ℕ → ℕ
read_bits a c = to_bits binary64 (round binary64 false a c)

no_nan : (bits : ℕ) → bits ≤ 2047 * 2 ^ 52 → T (not (is_nan (of_bits binary64 bits)))
no_nan bits h =
    let small : bits % 2 ^ 63 ≡ bits = mod-eq_of_lt (omega arith) in
    let e : is_nan (of_bits binary64 bits) ≡ false = sym (nan_bits_is binary64 bits) ∙ nan_bits_above binary64 bits ∙ rw small (Rattle.std.proofs.Common.le-ltb (2047 * 2 ^ 52) bits h) in
    subst (λ b. T (not b)) (sym e) tt

pub read_of_nearest : (num den bits : ℕ) → IsNearestBits binary64 num den bits → read_bits num den ≡ bits
read_of_nearest num den bits h = ap (to_bits binary64) (sym h.0) ∙ to_bits-of_bits binary64 bits (omega arith) (no_nan bits h.1)

-- less than half a unit off reads as the float
pub read_near : (bits m k num den : ℕ) → scaled_bits binary64 m k ≡ bits → m ≤ 2 ^ 53 → (0 < k → 2 ^ 52 ≤ m) → 0 < den → (0 < k → 2 ^ 52 * (den * 2 ^ k) ≤ num * 2 ^ 1074)
    → 2 * (m * (den * 2 ^ k)) < 2 * (num * 2 ^ 1074) + den * 2 ^ k → 2 * (num * 2 ^ 1074) < 2 * (m * (den * 2 ^ k)) + den * 2 ^ k → read_bits num den ≡ bits
read_near bits m k num den is M N D lo from to =
    read_of_nearest num den bits (subst (IsNearestBits binary64 num den) is (nearest_of_near binary64 num den m k D M N lo from to))

-- the float's own value
pub read_own : (bits m k : ℕ) → IsFinite bits m k → read_bits (m * 2 ^ k) (2 ^ 1074) ≡ bits
read_own bits m k f =
    let u = 2 ^ 1074 * 2 ^ k in
    let same : m * 2 ^ k * 2 ^ 1074 ≡ m * u = omega arith in
    let some : 0 < u = mul-pos (pow_pos 1074) (pow_pos k) in
    read_near bits m k (m * 2 ^ k) (2 ^ 1074) f.bits_are (omega (arith, f.fits)) f.normal (pow_pos 1074) (λ K. omega (arith, Rattle.std.proofs.Common.mul-le-mul_right u (f.normal K))) (omega arith) (omega arith)

pub read_zero : (num den : ℕ) → 0 < den → num ≡ 0 → read_bits num den ≡ 0
read_zero num den D e = read_of_nearest num den 0 (nearest_of_zero binary64 num den D e)

-- ---- between two fractions that read as the float, all do
at_most : (a b : ℕ) → T (ltb a b || (eqb a b && true)) → a ≤ b
at_most a b t = by_tests (ltb a b) (eqb a b) (ltb→lt a b) (eqb→eq a b) t
  where
    by_tests : (less same : Bool) → (T less → a < b) → (T same → a ≡ b) → T (less || (same && true)) → a ≤ b
    by_tests true same l e t = le_of_lt (l tt)
    by_tests false true l e t = le_of_eq (e tt)
    by_tests false false l e t = absurd t

not_below : (a b : ℕ) → 0 < a → T (false || (eqb a b && (false || eqb a 0))) → ⊥
not_below a b some t = go (eqb a b) (eqb a 0) (eqb→eq a 0) t
  where
    go : (c d : Bool) → (T d → a ≡ 0) → T (c && d) → ⊥
    go true true z t = omega (arith, z tt)
    go true false z t = t
    go false d z t = t

shared : (m u n v d e size low : ℕ) → 0 < d → m * u * low ≡ size * d → m * u * e ≡ n * v * d → n * v * low ≡ size * e
shared m u n v d e size low D is same =
    let twist : n * v * low * d ≡ size * e * d = mul_right_comm (n * v) low d ∙ ap (λ x. x * low) (sym same) ∙ mul_right_comm (m * u) e low ∙ ap (λ x. x * e) is ∙ mul_right_comm size d e in
    eq_of_mul-eq-mul_right d D _ _ twist

-- what is neither below nor above a float above 0 has its value
same_value : (x y : Float) (size : ℕ) → 0 < size → HasValue x false size (2 ^ 1074) → T (le x y) → T (le y x) → HasValue y false size (2 ^ 1074)
unfolding le lt eq
same_value nan y size some h p q = absurd h
same_value (inf s) y size some h p q = absurd h
same_value (fin true m e) y size some h p q = absurd (true≢false h.0)
same_value (fin false m e) nan size some h p q = absurd p
same_value (fin false m e) (inf true) size some h p q = absurd p
same_value (fin false m e) (inf false) size some h p q = absurd q
same_value (fin false m e) (fin true n d) size some h p q =
    let whole : 0 < m * up e * 2 ^ 1074 = omega (arith, h.1, mul-pos some (down_pos e)) in
    let part : 0 < m * up e = Rattle.std.proofs.Common.pos_of_ne-zero (λ z. omega (arith, ap (λ x. x * 2 ^ 1074) z)) in
    absurd (not_below (m * up e * down d) (n * up d * down e) (mul-pos part (down_pos d)) p)
same_value (fin false m e) (fin false n d) size some h p q =
    (refl, shared m (up e) n (up d) (down e) (down d) size (2 ^ 1074) (down_pos e) h.1 (le_antisymm (at_most _ _ p) (at_most _ _ q)))

bits_of_value : (x : Float) (a : ℕ) → HasValue x false a (2 ^ 1074) → to_bits binary64 x ≡ 0 + (size a - 53) * 2 ^ 52 + a / 2 ^ (size a - 53)
unfolding to_bits
bits_of_value nan a v = absurd v
bits_of_value (inf t) a v = absurd v
bits_of_value (fin true m e) a v = absurd (true≢false v.0)
bits_of_value (fin false m e) a v =
    let n : m * up e * 2 ^ 1074 / down e ≡ a = ap (λ k. k / down e) v.1 ∙ mul-div_cancel a (down_pos e) in
    λ i. 0 + (size (n i) - 53) * 2 ^ 52 + n i / 2 ^ (size (n i) - 53)

-- the float has the value that its bits say
pub value_of_bits : (bits m k : ℕ) → IsFinite bits m k → HasValue (of_bits binary64 bits) false (m * 2 ^ k) (2 ^ 1074)
value_of_bits bits m k f =
    let few : 53 + k ≤ 2098 = omega (arith, f.finite) in
    let below : m * 2 ^ k < 2 ^ 2098 = Rattle.std.proofs.Common.lt_of_lt_of_le (shl_lt {a = m} 53 k f.fits) (pow_mono few) in
    subst (λ x. HasValue x false (m * 2 ^ k) (2 ^ 1074)) (sym (of_bits-scaled_bits binary64 m k (omega (arith, f.fits)) f.normal) ∙ ap (of_bits binary64) f.bits_are)
    (units_val binary64 false m k below)

pub read_between : (bits m k a b c d e g : ℕ) → IsFinite bits m k → 0 < b → 0 < d → 0 < g → a * d ≤ c * b → c * g ≤ e * d → read_bits a b ≡ bits → read_bits e g ≡ bits → read_bits c d ≡ bits
read_between bits m k a b c d e g f B D G lo hi first last =
    let left : round binary64 false a b ≡ of_bits binary64 bits = sym (of_bits-to_bits binary64 _ (round-fits binary64 false a b)) ∙ ap (of_bits binary64) first in
    let right : round binary64 false e g ≡ of_bits binary64 bits = sym (of_bits-to_bits binary64 _ (round-fits binary64 false e g)) ∙ ap (of_bits binary64) last in
    let y = round binary64 false c d in
    let up : T (le (of_bits binary64 bits) y) = subst (λ x. T (le x y)) left (round_mono binary64 a b c d B D lo) in
    let down : T (le y (of_bits binary64 bits)) = subst (λ x. T (le y x)) right (round_mono binary64 c d e g D G hi) in
    let is = value_of_bits bits m k f in
    let some : 0 < m * 2 ^ k = mul-pos f.some (pow_pos k) in
    bits_of_value y _ (same_value (of_bits binary64 bits) y _ some is up down)
    ∙ sym (bits_of_value (of_bits binary64 bits) _ is)
    ∙ ap (to_bits binary64) (sym left) ∙ first
