-- Which multiples of a power of ten read as a float, and the largest such power.
-- For the clauses of `shortest_decimal`.
use Rattle.std.proofs.Common.{◌≡◌, ℕ, zero, suc, ◌+◌, ◌-◌, ◌*◌, ◌/◌, ◌%◌, ◌^◌, ◌<◌, ◌≤◌, ◌⊎◌, Bool, true, false, ◌||◌, cond, eqb, ltb, refl, sym, ap, ◌∙◌, subst, inl, inr, arith, mul-pos, pow_pos, mul-le-mul_right, mod-lt, div-add-mod', add-zero, true≢false, pow-add}
use Rattle.std.proofs.lemmas.Bool.{cases_lt, eq-eqb, eqb-true, or_cases}
use lib.Ieee.Nearest.{nearest-ge}
use lib.Ieee.Fits.{nearest-le}
use Rattle.fast_float.proofs.ExactLemmas.{ten_to_pos}
use Rattle.fast_float.proofs.Extremes.{round_tens}
use Rattle.std.specs.Float.{binary64}
use Rattle.std.specs.Float.Ieee.{to_bits}
use Rattle.shortest_float.specs.Decimals.{reads, over, under, multiple_below, has_decimal, power_from, shortest_power, closest_multiple, digits_over}
use Rattle.shortest_float.specs.Sizes.{IsFinite}
use Rattle.shortest_float.proofs.ReadBits.{read_bits, read_own, read_between}

pub reads_of : (bits power digits : ℕ) → read_bits (digits * 10 ^ (power - 342)) (10 ^ (342 - power)) ≡ bits → reads bits power digits ≡ true
unfolding reads
reads_of bits power digits e = eq-eqb _ _ e

pub read_of : (bits power digits : ℕ) → reads bits power digits ≡ true → read_bits (digits * 10 ^ (power - 342)) (10 ^ (342 - power)) ≡ bits
unfolding reads
read_of bits power digits e = eqb-true _ _ e

-- zeros come off the digits and onto the power
pub same_reads : (bits power more digits : ℕ) → reads bits (power + more) digits ≡ reads bits power (digits * 10 ^ more)
unfolding reads
same_reads bits power more digits =
    let join : digits * 10 ^ (more + (power - 342)) ≡ digits * 10 ^ more * 10 ^ (power - 342) = rw (pow-add 10 more) (sym (Rattle.std.proofs.Common.mul_assoc digits _ _)) in
    ap (λ x. eqb (to_bits binary64 x) bits) (round_tens binary64 digits (power + more - 342) (342 - (power + more)) (more + (power - 342)) (342 - power) (omega arith))
    ∙ ap (λ n. eqb (read_bits n (10 ^ (342 - power))) bits) join

false_of : (b : Bool) → (b ≡ true → ⊥) → b ≡ false
false_of true h = absurd (h refl)
false_of false h = refl

or_left : (a b : Bool) → a ≡ true → (a || b) ≡ true
or_left a b e = rw e refl

or_right : (a b : Bool) → b ≡ true → (a || b) ≡ true
or_right true b e = refl
or_right false b e = e

pub under_pos : (power : ℕ) → 0 < under power
under_pos power = mul-pos (pow_pos 1074) (ten_to_pos (power - 342))

module _ (bits m k : ℕ) (f : IsFinite bits m k) where
  abbrev size : ℕ
  size = m * 2 ^ k

  -- between two multiples that read as the float
  pub reads_between : (power a b c : ℕ) → a ≤ b → b ≤ c → reads bits power a ≡ true → reads bits power c ≡ true → reads bits power b ≡ true
  reads_between power a b c lo hi first last =
      let ten = ten_to_pos (342 - power) in
      let x = 10 ^ (power - 342) in
      let y = 10 ^ (342 - power) in
      reads_of bits power b
      (read_between bits m k (a * x) y (b * x) y (c * x) y f ten ten ten (mul-le-mul_right y (mul-le-mul_right x lo)) (mul-le-mul_right y (mul-le-mul_right x hi)) (read_of bits power a first) (read_of bits power c last))

  pub below_le : (power : ℕ) → multiple_below size power * under power ≤ over size power
  below_le power = omega (arith, div-add-mod' (over size power) (under power))

  pub below_lt : (power : ℕ) → over size power < (multiple_below size power + 1) * under power
  below_lt power = omega (arith, div-add-mod' (over size power) (under power), mod-lt (over size power) (under_pos power))

  -- where some multiple reads as the float, one of those next to it does
  pub has_of_reads : (power d : ℕ) → reads bits power d ≡ true → has_decimal bits size power ≡ true
  unfolding has_decimal
  has_of_reads power d e =
      let t = multiple_below size power in
      let x = 10 ^ (power - 342) in
      let y = 10 ^ (342 - power) in
      let ten = ten_to_pos (342 - power) in
      let low = below_le power in
      let high = below_lt power in
      let own = read_own bits m k f in
      elim (cases_lt t d) [
        | inl after ↦
            let next : t + 1 ≤ d = omega arith in
            let last : (t + 1) * x * y ≤ d * x * y = mul-le-mul_right y (mul-le-mul_right x next) in
            let above : size * y ≤ (t + 1) * x * 2 ^ 1074 = omega arith in
            or_right _ _ (reads_of bits power (t + 1) (read_between bits m k size (2 ^ 1074) ((t + 1) * x) y (d * x) y f (pow_pos 1074) ten ten above last own (read_of bits power d e)))
        | inr before ↦
            let first : d * x * y ≤ t * x * y = mul-le-mul_right y (mul-le-mul_right x before) in
            let beneath : t * x * 2 ^ 1074 ≤ size * y = omega arith in
            or_left _ _ (reads_of bits power t (read_between bits m k (d * x) y (t * x) y size (2 ^ 1074) f ten ten (pow_pos 1074) first beneath (read_of bits power d e) own))
      ]

  pub reads_of_has : (power : ℕ) → has_decimal bits size power ≡ true → (d : ℕ) × (reads bits power d ≡ true)
  unfolding has_decimal
  reads_of_has power e = elim (or_cases _ _ e) [ inl a ↦ (multiple_below size power, a) | inr b ↦ (multiple_below size power + 1, b) ]

  -- where the two multiples of ten times the power next to a decimal don't read as the float, no larger power has one
  pub none_larger : (power d : ℕ) → reads bits power d ≡ true → reads bits (power + 1) (d / 10) ≡ false → reads bits (power + 1) (d / 10 + 1) ≡ false
      → (more : ℕ) → has_decimal bits size (power + 1 + more) ≡ false
  none_larger power d e lower upper more = false_of _ (λ h. found (reads_of_has (power + 1 + more) h))
    where
      ten_times : (n : ℕ) → reads bits (power + 1) n ≡ reads bits power (n * 10)
      ten_times n = same_reads bits power 1 n

      found : (n : ℕ) × (reads bits (power + 1 + more) n ≡ true) → ⊥
      found r =
          let n = r.0 * 10 ^ more in
          let at : reads bits power (n * 10) ≡ true = sym (ten_times n) ∙ sym (same_reads bits (power + 1) more r.0) ∙ r.1 in
          elim (cases_lt (d / 10) n) [
            | inl after ↦ true≢false (sym (ten_times (d / 10 + 1) ∙ reads_between power d ((d / 10 + 1) * 10) (n * 10) (omega arith) (omega arith) e at) ∙ upper)
            | inr before ↦ true≢false (sym (ten_times (d / 10) ∙ reads_between power (n * 10) (d / 10 * 10) d (omega arith) (omega arith) at e) ∙ lower)
          ]

  -- the search ends at the largest power that has one
  pub power_is : (power start : ℕ) → has_decimal bits size power ≡ true → ((q : ℕ) → power < q → q < start → has_decimal bits size q ≡ false) → power < start → power_from bits size false start ≡ power
  unfolding power_from
  power_is power zero has none before = absurd (omega arith)
  power_is power (suc start) has none before =
      elim (cases_lt power start) [
        | inl further ↦ ap (λ b. power_from bits size b start) (none start further (omega arith)) ∙ power_is power start has (λ q l b. none q l (omega arith)) further
        | inr here ↦ let e : start ≡ power = omega arith in ap (λ b. power_from bits size b start) (ap (has_decimal bits size) e ∙ has) ∙ e
      ]

  -- what the three readings of a decimal show
  pub power_checked : (power d : ℕ) → reads bits power d ≡ true → reads bits (power + 1) (d / 10) ≡ false → reads bits (power + 1) (d / 10 + 1) ≡ false → power < 651 → power ≡ shortest_power bits size
  power_checked power d e lower upper before = sym (power_is power 651 (has_of_reads power d e) above before)
    where
      above : (q : ℕ) → power < q → q < 651 → has_decimal bits size q ≡ false
      above q l b = let is : q ≡ power + 1 + (q - power - 1) = omega arith in ap (has_decimal bits size) is ∙ none_larger power d e lower upper (q - power - 1)

  -- ---- the digits over that power
  pub reads_digits : (power : ℕ) → has_decimal bits size power ≡ true → reads bits power (digits_over bits size power) ≡ true
  unfolding digits_over has_decimal
  reads_digits power has = go (reads bits power (closest_multiple size power)) (reads bits power (multiple_below size power)) refl refl
    where
      go : (a b : Bool) → reads bits power (closest_multiple size power) ≡ a → reads bits power (multiple_below size power) ≡ b
          → reads bits power (cond a (closest_multiple size power) (cond b (multiple_below size power) (multiple_below size power + 1))) ≡ true
      go true b ea eb = ea
      go false true ea eb = eb
      go false false ea eb = elim (or_cases _ _ has) [ inl h ↦ absurd (true≢false (sym h ∙ eb)) | inr h ↦ h ]

  -- a multiple that reads as the float is the one where its neighbours don't
  pub digits_alone : (power d : ℕ) → reads bits power d ≡ true → reads bits power (d - 1) ≡ false → reads bits power (d + 1) ≡ false → digits_over bits size power ≡ d
  digits_alone power d e lower upper =
      let n = digits_over bits size power in
      let at = reads_digits power (has_of_reads power d e) in
      elim (cases_lt n d) [
        | inl less ↦ absurd (true≢false (sym (reads_between power n (d - 1) d (omega arith) (omega arith) at e) ∙ lower))
        | inr not ↦ elim (cases_lt d n) [
          | inl more ↦ absurd (true≢false (sym (reads_between power d (d + 1) n (omega arith) (omega arith) e at) ∙ upper))
          | inr same ↦ omega arith
        ]
      ]

  -- or where it is the closest one
  pub digits_closest : (power d : ℕ) → reads bits power d ≡ true → closest_multiple size power ≡ d → digits_over bits size power ≡ d
  unfolding digits_over
  digits_closest power d e is = let at : reads bits power (closest_multiple size power) ≡ true = ap (reads bits power) is ∙ e in rw at is

  -- ---- by which of the two multiples next to the size read as the float
  pub closest_next : (power : ℕ) → (closest_multiple size power ≡ multiple_below size power) ⊎ (closest_multiple size power ≡ multiple_below size power + 1)
  closest_next power =
      let o = Prim.Native.Nat.compare (over size power % under power * 2) (under power) in
      let low = nearest-ge (multiple_below size power) o in
      let high = nearest-le (multiple_below size power) o in
      elim (cases_lt (multiple_below size power) (closest_multiple size power)) [ inl more ↦ inr (omega arith) | inr same ↦ inl (omega arith) ]

  pub where_both : (power : ℕ) → reads bits power (multiple_below size power) ≡ true → reads bits power (multiple_below size power + 1) ≡ true
      → (has_decimal bits size power ≡ true) × (closest_multiple size power ≡ digits_over bits size power)
  where_both power lower upper =
      let at : reads bits power (closest_multiple size power) ≡ true = elim (closest_next power) [ inl e ↦ ap (reads bits power) e ∙ lower | inr e ↦ ap (reads bits power) e ∙ upper ] in
      (has_of_reads power _ lower, sym (digits_closest power _ at refl))

  pub where_lower : (power : ℕ) → reads bits power (multiple_below size power) ≡ true → reads bits power (multiple_below size power + 1) ≡ false
      → (has_decimal bits size power ≡ true) × (multiple_below size power ≡ digits_over bits size power)
  unfolding digits_over
  where_lower power lower upper = (
    has_of_reads power _ lower,
    elim (closest_next power) [
      | inl e ↦ sym (digits_closest power _ lower e)
      | inr e ↦ let at : reads bits power (closest_multiple size power) ≡ false = ap (reads bits power) e ∙ upper in rw (at, lower) refl
    ],
  )

  pub where_upper : (power : ℕ) → reads bits power (multiple_below size power) ≡ false → reads bits power (multiple_below size power + 1) ≡ true
      → (has_decimal bits size power ≡ true) × (multiple_below size power + 1 ≡ digits_over bits size power)
  unfolding digits_over
  where_upper power lower upper = (
    has_of_reads power _ upper,
    elim (closest_next power) [
      | inl e ↦ let at : reads bits power (closest_multiple size power) ≡ false = ap (reads bits power) e ∙ lower in rw (at, lower) refl
      | inr e ↦ sym (digits_closest power _ upper e)
    ],
  )

  pub where_none : (power : ℕ) → reads bits power (multiple_below size power) ≡ false → reads bits power (multiple_below size power + 1) ≡ false → has_decimal bits size power ≡ false
  unfolding has_decimal
  where_none power lower upper = rw (lower, upper) refl
