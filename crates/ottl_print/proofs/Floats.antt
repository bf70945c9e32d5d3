-- A float that is read has a text of the language that reads as it.
-- For the law of laws::prints_as_itself.
use Rattle.std.proofs.Common.{◌≡◌, ℕ, zero, suc, ◌+◌, ◌-◌, ◌*◌, ◌/◌, ◌%◌, ◌^◌, ◌<◌, ◌≤◌, inl, inr, Bool, true, false, cond, nat_le, T, List, [], ◌∷◌, ◌++◌, length, Ok, Option, Some, None, codes, refl, sym, ap, ◌∙◌, subst, arith, true≢false, eq-eqb, ne_eqb, append_assoc, append-nil, length-append, pow-add}
use Rattle.std.proofs.lemmas.Bool.{cases_Bool, cases_lt}
use Rattle.std.proofs.lemmas.Fmt.{decimal_is_IsNumeral, decimal_nonempty, first_decimal, length-decimal-le}
use Rattle.std.proofs.lemmas.Float.Parse.{parse_float-text_of}
use Rattle.std.specs.Prelude.{◌==◌, to_bits, if◌then◌else◌}
use Rattle.std.specs.Char.{is_ascii_digit}
use Rattle.std.specs.Float.{Float, binary64, nan, inf, fin, float_is_finite}
use Rattle.std.specs.Float.Numeral.{Parts, scan_numeral, has_digits, nearest_float, exponent_text, text_of, IsWellFormed, tens_up}
use Rattle.std.specs.Float.Parse.{begins_with, parse_float, read_float, read_unsigned, read_word}
use Rattle.std.specs.Fmt.{decimal, sign_text}
use Rattle.std.specs.Str.Parse.{digits_value}
use lib.Ieee.{round, fits, of_bits}
use lib.Ieee.Bits.{of_bits-to_bits}
use lib.Ieee.Fits.{round-fits}
use Rattle.fast_float.specs.Rounding.{IsNearestBits}
use Rattle.std.specs.Char.{digit_value}
use Rattle.fast_float.proofs.DigitsLemmas.{digits_value-append}
use Rattle.fast_float.proofs.Extremes.{nearest_of_zero}
use Rattle.ryu.specs.Plain.{IsPlain, IsWorth}
use Rattle.ryu.specs.Sign.{IsSignAndSize}
use Rattle.ryu.proofs.Texts.{nearest_is}
use Rattle.shortest_float.specs.Decimals.{size_of, size_bits, reads, shortest_power, shortest_digits, power_from, has_decimal, multiple_below}
use Rattle.shortest_float.specs.Layout.{layout}
use Rattle.shortest_float.specs.Shortest.{size_text, shortest_text}
use Rattle.shortest_float.specs.Sizes.{IsFinite}
use Rattle.shortest_float.proofs.Forms.{IsPlainText, zero_text, layout_form}
use Rattle.shortest_float.proofs.Multiples.{read_of, has_of_reads}
use Rattle.shortest_float.proofs.Room.{shortest_reads, in_range, small, small_at_top}
use Rattle.shortest_float.proofs.Values.{sign_and_size, finite_bits, size_is}
use Rattle.ottl_text.specs.Literals.{float_of, finite}
use Rattle.ottl_print.specs.Texts.{with_a_point, float_text}
use Rattle.ottl_print.proofs.Pieces.{Passes}
use Rattle.ottl_print.proofs.Literals.{IsFloat, passes_digits}
use Rattle.ottl_print.proofs.Parts.{no_ok, if_ok, same_ok, no_some, same_some}

-- ---- what is read is a float of 64 bits
abbrev AllFit : Option (Float × ℕ) → Type 0
AllFit None = Unit {0}
AllFit (Some r) = T (fits binary64 r.0)

word_fits : (negative : Bool) (bs : List ℕ) → AllFit (read_word negative bs)
unfolding fits
word_fits negative bs = go (begins_with bs (codes "infinity")) (begins_with bs (codes "inf")) (begins_with bs (codes "nan"))
  where
    go : (a b d : Bool) → AllFit (cond a (Some (inf negative, 8)) (cond b (Some (inf negative, 3)) (cond d (Some (nan, 3)) None)))
    go true b d = tt
    go false true d = tt
    go false false true = tt
    go false false false = tt

unsigned_fits : (negative : Bool) (bs : List ℕ) → AllFit (read_unsigned binary64 negative bs)
unsigned_fits negative bs = go (has_digits (scan_numeral bs))
  where
    go : (a : Bool) → AllFit (cond a (Some (nearest_float binary64 negative (scan_numeral bs), (scan_numeral bs).len)) (read_word negative bs))
    go true = round-fits binary64 negative _ _
    go false = word_fits negative bs

signed_fits : (n : ℕ) (o : Option (Float × ℕ)) → AllFit o → AllFit (Rattle.std.specs.Prelude.option_map (λ r. (r.0, n + r.1)) o)
signed_fits n None h = tt
signed_fits n (Some r) h = h

read_fits : (bs : List ℕ) → AllFit (read_float binary64 bs)
unfolding read_float
read_fits bs = signed_fits _ (read_unsigned binary64 _ _) (unsigned_fits _ _)

whole_fits : (n : ℕ) (o : Option (Float × ℕ)) (x : Float) → AllFit o → Rattle.std.specs.Prelude.option_and_then (λ r. if r.1 == n then Some r.0 else None) o ≡ Some x → T (fits binary64 x)
whole_fits n None x h e = no_some x e
whole_fits n (Some r) x h e = go (r.1 == n) e
  where
    go : (b : Bool) → cond b (Some r.0) None ≡ Some x → T (fits binary64 x)
    go true e = subst (λ x. T (fits binary64 x)) (same_some r.0 x e) h
    go false e = no_some x e

parsed_fits : (bs : List ℕ) (x : Float) → parse_float binary64 bs ≡ Some x → T (fits binary64 x)
parsed_fits bs x e = whole_fits (length bs) (read_float binary64 bs) x (read_fits bs) e

finite_ok : (o : Option Float) (x : Float) → finite o ≡ Ok x → (o ≡ Some x) × (float_is_finite x ≡ true)
finite_ok None x e = no_ok _ x e
finite_ok (Some y) x e =
    let h = if_ok (float_is_finite y) (Ok y) _ x e in let same = same_ok y x h.1 in (ap Some same, subst (λ x. float_is_finite x ≡ true) same h.0)

-- ---- a point in front of an exponent
digit_goes : (d : ℕ) (t : List ℕ) → is_ascii_digit d ≡ true → with_a_point (d ∷ t) ≡ d ∷ with_a_point t
digit_goes d t e =
    let no_point : (d == 46) ≡ false = ne_eqb d 46 (λ f. true≢false (sym e ∙ ap is_ascii_digit f)) in
    let no_exponent : (d == 101) ≡ false = ne_eqb d 101 (λ f. true≢false (sym e ∙ ap is_ascii_digit f)) in
    rw (no_point, no_exponent) refl

digits_go : (ds t : List ℕ) → Passes is_ascii_digit ds → with_a_point (ds ++ t) ≡ ds ++ with_a_point t
digits_go [] t h = refl
digits_go (d ∷ ds) t h = digit_goes d (ds ++ t) h.0 ∙ ap (λ l. d ∷ l) (digits_go ds t h.1)

sign_goes : (negative : Bool) (t : List ℕ) → with_a_point (sign_text negative ++ t) ≡ sign_text negative ++ with_a_point t
sign_goes true t = refl
sign_goes false t = refl

float_text_is : (x : Float) → float_is_finite x ≡ true → float_text x ≡ with_a_point (shortest_text x)
unfolding float_text
float_text_is x e = rw e refl

-- the numeral of the same worth that has a point
abbrev pointed : Parts → Parts
pointed p = record { whole = p.whole; point = true; fraction = 48 ∷ []; exponent_negative = p.exponent_negative; exponent = p.exponent; len = p.len + 2 }

module _ (x : Float) (negative : Bool) (bits digits power : ℕ) (text : List ℕ) (is_finite : float_is_finite x ≡ true) (s : IsSignAndSize binary64 x negative bits)
    (near : IsNearestBits binary64 (digits * 10 ^ (power + 58 - 400)) (10 ^ (400 - (power + 58))) bits) (same : shortest_text x ≡ sign_text negative ++ text) where
  -- of a numeral with a point
  of_pointed : (q : Parts) (first : ℕ) (others : List ℕ) → q.whole ≡ first ∷ others → q.point ≡ true → IsWellFormed q → 0 < length q.fraction → IsWorth q digits (power + 58)
      → with_a_point (sign_text negative ++ text) ≡ sign_text negative ++ text_of q → IsFloat x
  unfolding float_of
  of_pointed q first others whole point well some worth again =
      let written : with_a_point (shortest_text x) ≡ sign_text negative ++ text_of q = ap with_a_point same ∙ again in
      let filled : 0 < length q.whole = omega (arith, ap length whole) in
      let value : nearest_float binary64 negative q ≡ x = nearest_is binary64 x negative bits digits (power + 58) q s near worth in
      let parsed : parse_float binary64 (with_a_point (shortest_text x)) ≡ Some x = ap (parse_float binary64) written ∙ parse_float-text_of binary64 negative q well filled ∙ ap Some value in
      let layout : text_of q ≡ (first ∷ others) ++ 46 ∷ (q.fraction ++ exponent_text q.exponent_negative q.exponent) = rw (whole, point) refl in
      record {
        negative = negative;
        first = first;
        others = others;
        fraction = q.fraction;
        minus = q.exponent_negative;
        marks = q.exponent;
        is = float_text_is x is_finite ∙ written ∙ ap (λ l. sign_text negative ++ l) layout ∙ sym (append_assoc (sign_text negative) (first ∷ others) (46 ∷ (q.fraction ++ exponent_text q.exponent_negative q.exponent)));
        digits = subst (Passes is_ascii_digit) whole (passes_digits q.whole well.whole_digits);
        digits_behind = passes_digits q.fraction well.fraction_digits;
        some_behind = some;
        digits_of_exponent = passes_digits q.exponent well.exponent_digits;
        again = ap float_of (float_text_is x is_finite) ∙ rw (parsed, is_finite) refl;
      }

some_first : (l : List ℕ) → 0 < length l → (d : ℕ) × (ds : List ℕ) × (l ≡ d ∷ ds)
some_first [] h = absurd (omega (arith, h))
some_first (d ∷ ds) h = (d, ds, refl)

some_exponent : (negative : Bool) (marks : List ℕ) → 0 < length marks → with_a_point (exponent_text negative marks) ≡ 46 ∷ 48 ∷ exponent_text negative marks
some_exponent negative [] h = absurd (omega (arith, h))
some_exponent negative (d ∷ ds) h = refl

-- a numeral with no point is worth the same with `.0`
pointed_worth : (p : Parts) (digits power : ℕ) → p.fraction ≡ [] → IsWorth p digits power → IsWorth (pointed p) digits power
pointed_worth p digits power none worth =
    let whole : digits_value 10 (p.whole ++ p.fraction) ≡ digits_value 10 p.whole = ap (λ f. digits_value 10 (p.whole ++ f)) none ∙ ap (digits_value 10) (append-nil p.whole) in
    let count : length p.fraction ≡ 0 = ap length none in
    let more : digits_value 10 (p.whole ++ 48 ∷ []) ≡ digits_value 10 p.whole * 10 = digits_value-append p.whole (48 ∷ []) ∙ omega arith in
    let c = cond p.exponent_negative (digits_value 10 p.exponent) 0 in
    let ten : 10 ^ (1 + c) ≡ 10 * 10 ^ c = pow-add 10 1 c in
    let from : digits_value 10 p.whole * 10 ^ tens_up p * 10 ^ (400 - power) ≡ digits * 10 ^ (power - 400) * 10 ^ c = let same : length p.fraction + c ≡ c = omega (arith, count) in rw (whole, same) at worth in
    rw (more, ten) (by_ten (digits_value 10 p.whole) (10 ^ tens_up p) (10 ^ (400 - power)) digits (10 ^ (power - 400)) (10 ^ c) from)
  where
    by_ten : (a u v d w t : ℕ) → a * u * v ≡ d * w * t → a * 10 * u * v ≡ d * w * (10 * t)
    by_ten a u v d w t h = omega (arith, h)

pointed_well : (p : Parts) → p.point ≡ false → p.fraction ≡ [] → IsWellFormed p → IsWellFormed (pointed p)
pointed_well p point none well =
    let ex = exponent_text p.exponent_negative p.exponent in
    let before : text_of p ≡ p.whole ++ ex = rw point refl in
    let long : p.len ≡ length p.whole + length ex = well.len_is ∙ ap length before ∙ length-append p.whole ex in
    record {
      whole_digits = well.whole_digits;
      fraction_digits = (omega arith, tt);
      exponent_digits = well.exponent_digits;
      no_point = λ e. absurd (true≢false e);
      no_exponent = well.no_exponent;
      len_is = omega (arith, long, length-append p.whole (46 ∷ 48 ∷ ex));
    }

module _ (x : Float) (negative : Bool) (bits digits power : ℕ) (text : List ℕ) (is_finite : float_is_finite x ≡ true) (s : IsSignAndSize binary64 x negative bits)
    (near : IsNearestBits binary64 (digits * 10 ^ (power + 58 - 400)) (10 ^ (400 - (power + 58))) bits) (same : shortest_text x ≡ sign_text negative ++ text) where
  of_plain : (p : Parts) → text ≡ text_of p → IsPlain p → IsWorth p digits (power + 58) → IsFloat x
  of_plain p is plain worth = elim (cases_Bool p.point) [
    | inl point ↦ (
        let first = some_first p.whole plain.whole in
        let R = 46 ∷ (p.fraction ++ ex) in
        let shape : text ≡ p.whole ++ R = is ∙ rw point refl in
        of_pointed x negative bits digits power text is_finite s near same p first.0 first.1 first.2 point plain.well_formed (plain.fraction point) worth
        (sign_goes negative text ∙ ap (λ l. sign_text negative ++ with_a_point l) shape ∙ ap (λ l. sign_text negative ++ l) (digits_go p.whole R whole ∙ sym shape ∙ is)))
    | inr point ↦ (
        let first = some_first p.whole plain.whole in
        let none = plain.well_formed.no_point point in
        let shape : text ≡ p.whole ++ ex = is ∙ rw point refl in
        of_pointed x negative bits digits power text is_finite s near same (pointed p) first.0 first.1 first.2 refl (pointed_well p point none plain.well_formed) (omega arith) (pointed_worth p digits (power + 58) none worth)
        (sign_goes negative text ∙ ap (λ l. sign_text negative ++ with_a_point l) shape ∙ ap (λ l. sign_text negative ++ l) (digits_go p.whole ex whole ∙ ap (λ l. p.whole ++ l) (some_exponent p.exponent_negative p.exponent (plain.marked point)))))
  ]
    where
      ex : List ℕ
      ex = exponent_text p.exponent_negative p.exponent

      whole : Passes is_ascii_digit p.whole
      whole = passes_digits p.whole plain.well_formed.whole_digits

-- ---- the size of a float
finite_size : (bits : ℕ) → 0 < bits → bits < 2047 * 2 ^ 52 → (m : ℕ) × (k : ℕ) × IsFinite bits m k
finite_size bits some few = elim (cases_lt bits (2 ^ 52)) [
  | inl small ↦ (bits, 0, record { bits_are = omega (arith, few); some = some; fits = omega (arith, small); normal = λ e. absurd (omega (arith, e)); finite = omega arith })
  | inr large ↦ (2 ^ 52 + bits % 2 ^ 52, bits / 2 ^ 52 - 1, record { bits_are = omega (arith, few, large); some = omega arith; fits = omega (arith, few); normal = λ e. omega arith; finite = omega (arith, few) })
]

module _ (bits m k : ℕ) (f : IsFinite bits m k) where
  abbrev units : ℕ
  units = m * 2 ^ k

  -- no larger power below the start has a decimal
  none_above : (start q : ℕ) → power_from bits units false start < q → q < start → has_decimal bits units q ≡ false
  unfolding power_from
  none_above zero q above below = absurd (omega (arith, below))
  none_above (suc start) q above below = elim (cases_Bool (has_decimal bits units start)) [
    | inl here ↦ (let at : start < q = subst (λ b. power_from bits units b start < q) here above in absurd (omega (arith, at, below)))
    | inr none ↦ (
        let at : power_from bits units false start < q = subst (λ b. power_from bits units b start < q) none above in
        elim (cases_lt q start) [ inl lower ↦ none_above start q at lower | inr same ↦ (let is : q ≡ start = omega (arith, same, below) in ap (has_decimal bits units) is ∙ none) ])
  ]

  power_at_most : (start : ℕ) → power_from bits units false (suc start) ≤ start
  unfolding power_from
  power_at_most start = go (has_decimal bits units start) start
    where
      below : (n : ℕ) → power_from bits units false n ≤ n
      below zero = omega arith
      below (suc n) = elim (cases_Bool (has_decimal bits units n)) [
        | inl here ↦ (let least : n ≤ suc n = omega arith in subst (λ b. power_from bits units b n ≤ suc n) (sym here) least)
        | inr none ↦ (let least : power_from bits units false n ≤ suc n = omega (arith, below n) in subst (λ b. power_from bits units b n ≤ suc n) (sym none) least)
      ]

      go : (b : Bool) (n : ℕ) → power_from bits units b n ≤ n
      go true n = omega arith
      go false n = below n

  few_digits : (0 < shortest_digits bits units) × (shortest_digits bits units < 10 ^ 18)
  few_digits =
      let power = shortest_power bits units in
      let top : power ≤ 650 = power_at_most 650 in
      let has = has_of_reads bits m k f power (shortest_digits bits units) (shortest_reads bits m k f) in
      in_range bits m k f power has
      (elim (cases_lt power 650) [
        | inl lower ↦ small bits m k f power (none_above 651 (power + 1) (omega arith) (omega (arith, lower)))
        | inr same ↦ (let is : 650 ≡ power = omega (arith, same, top) in subst (λ p. multiple_below units p < 40 * 2 ^ 53) is (small_at_top bits m k f))
      ])

near_of_reads : (bits digits power : ℕ) → reads bits power digits ≡ true → bits < 2047 * 2 ^ 52 → IsNearestBits binary64 (digits * 10 ^ (power + 58 - 400)) (10 ^ (400 - (power + 58))) bits
near_of_reads bits digits power e small =
    let up : power + 58 - 400 ≡ power - 342 = omega arith in
    let down : 400 - (power + 58) ≡ 342 - power = omega arith in
    let x = round binary64 false (digits * 10 ^ (power - 342)) (10 ^ (342 - power)) in
    rw (up, down) (ap (of_bits binary64) (sym (read_of bits power digits e)) ∙ of_bits-to_bits binary64 x (round-fits binary64 false _ _), omega arith)

zero_text_is : (x : Float) → size_bits x ≡ 0 → shortest_text x ≡ sign_text (nat_le (2 ^ 63) (to_bits binary64 x)) ++ codes "0.0"
unfolding shortest_text size_text
zero_text_is x none = rw (eq-eqb (size_bits x) 0 none) refl

other_text_is : (x : Float) (z : ℕ) → 0 < size_bits x → size_of x ≡ z
    → shortest_text x ≡ sign_text (nat_le (2 ^ 63) (to_bits binary64 x)) ++ layout (decimal (shortest_digits (size_bits x) z)) (shortest_power (size_bits x) z)
unfolding shortest_text size_text
other_text_is x z some e =
    let differs : (size_bits x == 0) ≡ false = ne_eqb (size_bits x) 0 (λ f. omega (arith, f, some)) in
    rw differs (ap (λ n. sign_text (nat_le (2 ^ 63) (to_bits binary64 x)) ++ layout (decimal (shortest_digits (size_bits x) n)) (shortest_power (size_bits x) n)) e)

of_finite : (x : Float) → T (fits binary64 x) → float_is_finite x ≡ true → IsFloat x
of_finite x f is_finite = elim (cases_lt 0 (size_bits x)) [
  | inl some ↦ (
      let h = finite_size (size_bits x) some (finite_bits x f is_finite) in
      let m = h.0 in
      let k = h.1 in
      let own = h.2 in
      let z = size_is x m k f is_finite own in
      let d = shortest_digits (size_bits x) (m * 2 ^ k) in
      let p = shortest_power (size_bits x) (m * 2 ^ k) in
      let top : p ≤ 650 = power_at_most (size_bits x) m k own 650 in
      let few = few_digits (size_bits x) m k own in
      let n = decimal_is_IsNumeral d (omega (arith, few.1)) in
      let form : IsPlainText (layout (decimal d) p) d p =
      subst (λ v. IsPlainText (layout (decimal d) p) v p) n.1
      (layout_form (decimal d) p n.0.1 (decimal_nonempty d (omega (arith, few.1))) (first_decimal d few.0 (omega (arith, few.1))) top (length-decimal-le 18 d (omega arith) few.1 (omega (arith, few.1)))) in
      of_plain x (nat_le (2 ^ 63) (to_bits binary64 x)) (size_bits x) d p (layout (decimal d) p) is_finite (sign_and_size x f is_finite)
      (near_of_reads (size_bits x) d p (shortest_reads (size_bits x) m k own) (finite_bits x f is_finite)) (other_text_is x (m * 2 ^ k) some z) form.0 form.1 form.2 form.3)
  | inr zeros ↦ (
      let none : size_bits x ≡ 0 = omega (arith, zeros) in
      let near : IsNearestBits binary64 (0 * 10 ^ (342 + 58 - 400)) (10 ^ (400 - (342 + 58))) (size_bits x) = subst (IsNearestBits binary64 0 1) (sym none) (nearest_of_zero binary64 0 1 (omega arith) refl) in
      of_plain x (nat_le (2 ^ 63) (to_bits binary64 x)) (size_bits x) 0 342 (codes "0.0") is_finite (sign_and_size x f is_finite) near (zero_text_is x none) zero_text.0 zero_text.1 zero_text.2 zero_text.3)
]

pub float_is : (d : List ℕ) (x : Float) → float_of d ≡ Ok x → IsFloat x
unfolding float_of
float_is d x e = let h = finite_ok (parse_float binary64 d) x e in of_finite x (parsed_fits d x h.0) h.1
