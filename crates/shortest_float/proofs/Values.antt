-- A float's size from its bits, and what its text reads as.
-- For the clauses of `text_of`.
use Rattle.std.proofs.Common.{◌≡◌, ℕ, ◌+◌, ◌-◌, ◌*◌, ◌/◌, ◌^◌, ◌<◌, ◌≤◌, Bool, true, false, cond, not, ◌&&◌, eqb, nat_lt, nat_le, T, ◌≢◌, List, [], ◌∷◌, ◌++◌, length, get_or, Some, codes, refl, sym, ap, ◌∙◌, subst, arith, mul-div_cancel, ne_eqb, eq-eqb, IsAscii}
use Rattle.std.proofs.lemmas.Fmt.{decimal_is_IsNumeral, decimal_nonempty, first_decimal, length-decimal-le}
use Rattle.std.specs.Char.{digit_value}
use Rattle.std.specs.Float.{Float, binary64, nan, inf, fin, float_is_finite}
use Rattle.std.specs.Fmt.{decimal, sign_text}
use Rattle.std.specs.Str.Parse.{AllDigits}
use lib.Ieee.{down, round, neg, top, fits, of_bits, to_bits}
use lib.Ieee.Bits.{of_bits-to_bits, to_bits-lt}
use lib.Ieee.Exact.{HasValue}
use lib.Ieee.Fits.{down_pos, round-fits}
use Rattle.fast_float.specs.Rounding.{IsNearestBits}
use Rattle.fast_float.specs.Text.{Parts, text_of, nearest}
use Rattle.fast_float.proofs.Extremes.{nearest_of_zero}
use Rattle.fast_float.proofs.Writing.{scan-text_of, IsAscii-text_of}
use Rattle.json.proofs.Printed.Floats.{IsNumber-plain}
use Rattle.ryu.specs.Plain.{IsPlain}
use Rattle.ryu.specs.Sign.{IsSignAndSize}
use Rattle.ryu.proofs.Signs.{finite_number, parts}
use Rattle.ryu.proofs.Texts.{nearest_is}
use Rattle.serde_json.specs.Data.{float}
use Rattle.serde_json.specs.Read.{number_of, number_from, float_of, is_integer}
use Rattle.shortest_float.specs.Decimals.{size_of, size_bits, reads, shortest_power, shortest_digits, distance}
use Rattle.shortest_float.specs.Layout.{layout}
use Rattle.shortest_float.specs.Shortest.{size_text, shortest_text, HasText, HasFewestDigits, HasClosestDigits}
use Rattle.shortest_float.specs.Sizes.{IsFinite}
use Rattle.shortest_float.proofs.ReadBits.{value_of_bits}
use Rattle.shortest_float.proofs.Multiples.{read_of}
use Rattle.shortest_float.proofs.Room.{bits_pos, shortest_reads}
use Rattle.shortest_float.proofs.Fewest.{fewest}
use Rattle.shortest_float.proofs.Nearest.{nearest_digits}
use Rattle.shortest_float.proofs.Forms.{IsPlainText, zero_text, layout_form}

-- ---- the size
size_of_neg : (y : Float) → size_of (neg y) ≡ size_of y
unfolding neg
size_of_neg nan = refl
size_of_neg (inf s) = refl
size_of_neg (fin s m e) = refl

size_of_value : (y : Float) (a : ℕ) → HasValue y false a (2 ^ 1074) → size_of y ≡ a
size_of_value nan a v = absurd v
size_of_value (inf t) a v = absurd v
size_of_value (fin t m e) a v = ap (λ k. k / down e) v.1 ∙ mul-div_cancel a (down_pos e)

signed_size : (x y : Float) (negative : Bool) → cond negative (neg y) y ≡ x → size_of x ≡ size_of y
signed_size x y true e = ap size_of (sym e) ∙ size_of_neg y
signed_size x y false e = ap size_of (sym e)

pub sign_and_size : (x : Float) → T (fits binary64 x) → float_is_finite x ≡ true → IsSignAndSize binary64 x (nat_le (2 ^ 63) (to_bits binary64 x)) (size_bits x)
sign_and_size x f finite = parts binary64 x (to_bits binary64 x) (of_bits-to_bits binary64 x f) (to_bits-lt binary64 x f) (finite_number x finite)

pub finite_bits : (x : Float) → T (fits binary64 x) → float_is_finite x ≡ true → size_bits x < 2047 * 2 ^ 52
finite_bits x f finite = (sign_and_size x f finite).finite.0 finite

pub size_is : (x : Float) (m k : ℕ) → T (fits binary64 x) → float_is_finite x ≡ true → IsFinite (size_bits x) m k → size_of x ≡ m * 2 ^ k
size_is x m k f finite is =
    let s = sign_and_size x f finite in
    signed_size x (of_bits binary64 (size_bits x)) (nat_le (2 ^ 63) (to_bits binary64 x)) s.same ∙ size_of_value (of_bits binary64 (size_bits x)) (m * 2 ^ k) (value_of_bits (size_bits x) m k is)

-- ---- the number that a plain text is
-- a digit stands where a minus would
not_minus : (whole rest : List ℕ) → AllDigits 10 whole → 0 < length whole → get_or (whole ++ rest) 0 0 ≢ 45
not_minus [] rest all some minus = absurd (omega (arith, some))
not_minus (d ∷ ds) rest all some minus = let digit : digit_value 45 < 10 = subst (λ b. digit_value b < 10) minus all.0 in absurd (omega (arith, digit))

and_not : (a b c : Bool) → (b ≡ false → c ≡ false) → (a && not b && c) ≡ false
and_not false b c given = refl
and_not true true c given = refl
and_not true false c given = given refl

no_integer : (p : Parts) → IsPlain p → is_integer p ≡ false
no_integer p plain = and_not (nat_lt 0 (length p.whole)) p.point (eqb (length p.exponent) 0) (λ e. ne_eqb (length p.exponent) 0 (λ z. omega (arith, plain.marked e, z)))

reads_float : (negative : Bool) (p : Parts) → IsPlain p → number_of (sign_text negative ++ text_of p) ≡ float_of negative p
unfolding number_of
reads_float true p plain =
    let read : number_of (45 ∷ text_of p) ≡ number_from true p = ap (number_from true) (scan-text_of p plain.well_formed) in
    let real : number_from true p ≡ float_of true p = rw (no_integer p plain) refl in
    read ∙ real
reads_float false p plain =
    let first = ne_eqb (get_or (text_of p) 0 0) 45 (not_minus p.whole _ plain.well_formed.whole_digits plain.whole) in
    let read : number_of (text_of p) ≡ number_from false p = rw first (ap (number_from false) (scan-text_of p plain.well_formed)) in
    let real : number_from false p ≡ float_of false p = rw (no_integer p plain) refl in
    read ∙ real

-- a text worth a decimal that reads as the float's size is the float
from_form : (x : Float) (negative : Bool) (bits digits power : ℕ) (text : List ℕ) → float_is_finite x ≡ true → IsSignAndSize binary64 x negative bits → IsPlainText text digits power
    → IsNearestBits binary64 (digits * 10 ^ (power + 58 - 400)) (10 ^ (400 - (power + 58))) bits
    → number_of (sign_text negative ++ text) ≡ Some (float x)
from_form x negative bits digits power text finite s form near =
    let p = form.0 in
    let plain = form.2 in
    let same : nearest binary64 negative p ≡ x = nearest_is binary64 x negative bits digits (power + 58) p s near form.3 in
    ap (λ t. number_of (sign_text negative ++ t)) form.1 ∙ reads_float negative p plain ∙ rw same (rw finite)

is_number : (negative : Bool) (digits power : ℕ) (text : List ℕ) → IsPlainText text digits power → Rattle.json.specs.Print.IsNumber (sign_text negative ++ text)
is_number negative digits power text form = IsNumber-plain _ (negative, form.0, ap (λ t. sign_text negative ++ t) form.1, form.2)

is_ascii : (negative : Bool) (digits power : ℕ) (text : List ℕ) → IsPlainText text digits power → IsAscii (sign_text negative ++ text)
is_ascii negative digits power text form = subst IsAscii (sym (ap (λ t. sign_text negative ++ t) form.1)) (IsAscii-text_of negative form.0 form.2.well_formed)

-- the float nearest to a decimal that reads as the bits has them
near_of_reads : (bits digits power : ℕ) → reads bits power digits ≡ true → bits < 2047 * 2 ^ 52 → IsNearestBits binary64 (digits * 10 ^ (power + 58 - 400)) (10 ^ (400 - (power + 58))) bits
near_of_reads bits digits power e small =
    let up : power + 58 - 400 ≡ power - 342 = omega arith in
    let down : 400 - (power + 58) ≡ 342 - power = omega arith in
    let x = round binary64 false (digits * 10 ^ (power - 342)) (10 ^ (342 - power)) in
    rw (up, down) (ap (of_bits binary64) (sym (read_of bits power digits e)) ∙ of_bits-to_bits binary64 x (round-fits binary64 false _ _), omega arith)

abbrev sign_of : Float → Bool
sign_of x = nat_le (2 ^ 63) (to_bits binary64 x)

-- what `text_of` writes for a zero
pub zero_law : (x : Float) → T (fits binary64 x) → float_is_finite x ≡ true → size_bits x ≡ 0 → (sign_text (sign_of x) ++ codes "0.0" ≡ shortest_text x) × HasText x × IsAscii (shortest_text x)
unfolding shortest_text size_text
zero_law x f finite none =
    let s = sign_and_size x f finite in
    let near : IsNearestBits binary64 (0 * 10 ^ (342 + 58 - 400)) (10 ^ (400 - (342 + 58))) (size_bits x) = subst (IsNearestBits binary64 0 1) (sym none) (nearest_of_zero binary64 0 1 (omega arith) refl) in
    rw (eq-eqb (size_bits x) 0 none) (
      refl,
      (is_number (sign_of x) 0 342 (codes "0.0") zero_text, from_form x (sign_of x) (size_bits x) 0 342 (codes "0.0") finite s zero_text near),
      is_ascii (sign_of x) 0 342 (codes "0.0") zero_text,
    )

-- and for another float, with its shortest decimal
pub decimal_law : (x : Float) (m k bits d p : ℕ) → T (fits binary64 x) → float_is_finite x ≡ true → bits ≡ size_bits x → IsFinite bits m k → p ≡ shortest_power bits (m * 2 ^ k) → d ≡ shortest_digits bits (m * 2 ^ k)
    → 0 < d → d < 10 ^ 18 → p ≤ 650 → (sign_text (sign_of x) ++ layout (decimal d) p ≡ shortest_text x) × HasText x × IsAscii (shortest_text x)
unfolding shortest_text size_text
decimal_law x m k bits d p f finite same is power digits more few top =
    let s = sign_and_size x f finite in
    let own : IsFinite (size_bits x) m k = subst (λ n. IsFinite n m k) same is in
    let size = size_is x m k f finite own in
    let P : p ≡ shortest_power (size_bits x) (size_of x) = power ∙ (λ i. shortest_power (same i) (sym size i)) in
    let D : d ≡ shortest_digits (size_bits x) (size_of x) = digits ∙ (λ i. shortest_digits (same i) (sym size i)) in
    let read : reads bits p d ≡ true = (λ i. reads bits (power i) (digits i)) ∙ shortest_reads bits m k is in
    let n = decimal_is_IsNumeral d (omega arith) in
    let form : IsPlainText (layout (decimal d) p) d p =
    subst (λ v. IsPlainText (layout (decimal d) p) v p) n.1
    (layout_form (decimal d) p n.0.1 (decimal_nonempty d (omega arith)) (first_decimal d more (omega arith)) top (length-decimal-le 18 d (omega arith) few (omega arith))) in
    let some = bits_pos (size_bits x) m k own in
    let text : sign_text (sign_of x) ++ layout (decimal d) p ≡ shortest_text x = (λ i. sign_text (sign_of x) ++ layout (decimal (D i)) (P i)) ∙ rw (ne_eqb (size_bits x) 0 (λ e. omega arith)) refl in
    let near = near_of_reads (size_bits x) d p (ap (λ b. reads b p d) (sym same) ∙ read) (finite_bits x f finite) in (
      text,
      (subst Rattle.json.specs.Print.IsNumber text (is_number (sign_of x) d p _ form), ap number_of (sym text) ∙ from_form x (sign_of x) (size_bits x) d p _ finite s form near),
      subst IsAscii text (is_ascii (sign_of x) d p _ form),
    )

pub fewest_law : (x : Float) (m k bits : ℕ) → T (fits binary64 x) → float_is_finite x ≡ true → bits ≡ size_bits x → IsFinite bits m k → HasFewestDigits x
fewest_law x m k bits f finite same is some power digits count e few =
    let own : IsFinite (size_bits x) m k = subst (λ n. IsFinite n m k) same is in
    subst (λ n. shortest_digits (size_bits x) n < 10 ^ count) (sym (size_is x m k f finite own)) (fewest (size_bits x) m k own power digits count e few)

pub closest_law : (x : Float) (m k bits : ℕ) → T (fits binary64 x) → float_is_finite x ≡ true → bits ≡ size_bits x → IsFinite bits m k → HasClosestDigits x
closest_law x m k bits f finite same is some =
    let own : IsFinite (size_bits x) m k = subst (λ n. IsFinite n m k) same is in
    subst (λ n. (digits : ℕ) → reads (size_bits x) (shortest_power (size_bits x) n) digits ≡ true → distance n (shortest_power (size_bits x) n) (shortest_digits (size_bits x) n) ≤ distance n (shortest_power (size_bits x) n) digits)
    (sym (size_is x m k f finite own)) (nearest_digits (size_bits x) m k own (shortest_power (size_bits x) (m * 2 ^ k)))
