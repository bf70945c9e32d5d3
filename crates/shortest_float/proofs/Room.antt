-- That some multiple reads as each float, and how large the multiples are that have to be tried.
-- For the clauses of `shortest_decimal`.
use Rattle.std.proofs.Common.{◌≡◌, ℕ, zero, suc, ◌+◌, ◌-◌, ◌*◌, ◌/◌, ◌%◌, ◌^◌, ◌<◌, ◌≤◌, Bool, true, false, refl, sym, ap, ◌∙◌, subst, inl, inr, arith, mul-pos, pow_pos, pow_mono, mul-le-mul_left, mul-le-mul_right, mul-lt-mul_of_pos_right, lt_of_mul-lt-mul_right, true≢false, pow-add, pow-suc, lit≤, le_trans, lt_of_le_of_lt, lt_of_lt_of_le, eq-zero-or-pos}
use Rattle.std.proofs.lemmas.Bool.{cases_Bool, cases_lt}
use lib.Pow.{shl_lt}
use lib.Ieee.Fits.{nearest-le}
use Rattle.std.specs.Float.{binary64}
use Rattle.fast_float.specs.Rounding.{scaled_bits}
use Rattle.fast_float.proofs.ExactLemmas.{ten_to_pos}
use Rattle.shortest_float.specs.Decimals.{reads, over, under, multiple_below, has_decimal, power_from, closest_multiple, digits_over, shortest_power}
use Rattle.shortest_float.specs.Sizes.{IsFinite}
use Rattle.shortest_float.proofs.ReadBits.{read_near, read_zero}
use Rattle.shortest_float.proofs.Multiples.{reads_of, read_of, has_of_reads, below_le, below_lt, reads_digits, power_is}

module _ (bits m k : ℕ) (f : IsFinite bits m k) where
  abbrev size : ℕ
  size = m * 2 ^ k

  pub bits_pos : 0 < bits
  bits_pos = omega (arith, f.bits_are, f.some, f.finite)

  -- where the unit is at most a quarter of the gap between floats, the multiple below reads as the float
  pub reads_fine : (power : ℕ) → 4 * under power ≤ 2 ^ k * 10 ^ (342 - power) → reads bits power (multiple_below size power) ≡ true
  reads_fine power fine =
      let t = multiple_below size power in
      let x = 10 ^ (power - 342) in
      let y = 10 ^ (342 - power) in
      let ten = ten_to_pos (342 - power) in
      let low = below_le bits m k f power in
      let high = below_lt bits m k f power in
      let some : 0 < y * 2 ^ k = mul-pos ten (pow_pos k) in
      let is : m * (y * 2 ^ k) ≡ m * 2 ^ k * y = omega arith in
      reads_of bits power t
      (elim (cases_lt (2 ^ 52) m) [
        | inl more ↦
            let steps : (2 ^ 52 + 1) * (y * 2 ^ k) ≤ m * (y * 2 ^ k) = mul-le-mul_right (y * 2 ^ k) (omega arith) in
            read_near bits m k (t * x) y f.bits_are (omega (arith, f.fits)) f.normal ten (λ K. omega arith) (omega arith) (omega arith)
        | inr few ↦ elim (eq-zero-or-pos k) [
          | inl z ↦ read_near bits m k (t * x) y f.bits_are (omega (arith, f.fits)) f.normal ten (λ K. absurd (omega arith)) (omega arith) (omega arith)
          | inr K ↦
              let edge : m ≡ 2 ^ 52 = omega (arith, f.normal K) in
              let back : k ≡ suc (k - 1) = omega arith in
              let half : 2 ^ k ≡ 2 ^ (k - 1) * 2 = ap (λ n. 2 ^ n) back ∙ pow-suc 2 (k - 1) in
              let halves : y * 2 ^ k ≡ 2 * (y * 2 ^ (k - 1)) = omega (arith, ap (λ n. y * n) half) in
              let whole : m * (y * 2 ^ k) ≡ 2 ^ 53 * (y * 2 ^ (k - 1)) = ap (λ n. n * (y * 2 ^ k)) edge ∙ omega arith in
              let same : scaled_bits binary64 (2 ^ 53) (k - 1) ≡ bits = omega (arith, f.bits_are, f.finite) in
              let part : 0 < y * 2 ^ (k - 1) = mul-pos ten (pow_pos (k - 1)) in
              read_near bits (2 ^ 53) (k - 1) (t * x) y same (omega arith) (λ _. omega arith) ten (λ _. omega arith) (omega arith) (omega arith)
        ]
      ])

  -- so the search always finds one
  pub has_least : has_decimal bits size 0 ≡ true
  has_least =
      let gap : 1 * 10 ^ 342 ≤ 2 ^ k * 10 ^ 342 = mul-le-mul_right (10 ^ 342) (pow_pos k) in
      let least : 4 * under 0 ≤ 1 * 10 ^ 342 = lit≤ tt in
      has_of_reads bits m k f 0 (multiple_below size 0) (reads_fine 0 (le_trans least gap))

  -- a multiple is small, where the next larger power has none that reads as the float
  pub small : (power : ℕ) → has_decimal bits size (power + 1) ≡ false → multiple_below size power < 40 * 2 ^ 53
  small power none =
      let x = 10 ^ (power - 342) in
      let y = 10 ^ (342 - power) in
      let x' = 10 ^ (power + 1 - 342) in
      let y' = 10 ^ (342 - (power + 1)) in
      let tens : y * x' ≡ 10 * y' * x = sum (342 - power) (power + 1 - 342) (342 - (power + 1)) (power - 342) (omega arith) in
      let coarse : 2 ^ k * y' < 4 * under (power + 1) =
      elim (cases_lt (2 ^ k * y') (4 * under (power + 1))) [
        | inl l ↦ l
        | inr g ↦ absurd (true≢false (sym (has_of_reads bits m k f (power + 1) _ (reads_fine (power + 1) g)) ∙ none))
      ] in
      let wide : 2 ^ k * y * x' < 40 * under power * x' = omega (arith, mul-lt-mul_of_pos_right coarse (ten_to_pos (power - 342)), ap (λ n. 2 ^ k * n) tens) in
      let unit : 2 ^ k * y < 40 * under power = lt_of_mul-lt-mul_right x' wide in
      let all : m * (2 ^ k * y) ≤ 2 ^ 53 * (2 ^ k * y) = mul-le-mul_right (2 ^ k * y) (omega (arith, f.fits)) in
      lt_of_mul-lt-mul_right (under power) (omega (arith, below_le bits m k f power))
    where
      sum : (a b c d : ℕ) → a + b ≡ 1 + c + d → 10 ^ a * 10 ^ b ≡ 10 * 10 ^ c * 10 ^ d
      sum a b c d e = sym (pow-add 10 a b) ∙ ap (λ n. 10 ^ n) e ∙ pow-add 10 (1 + c) d ∙ ap (λ n. n * 10 ^ d) (pow-add 10 1 c)

  -- and at the largest power too
  pub small_at_top : multiple_below size 650 < 40 * 2 ^ 53
  small_at_top =
      let few : 53 + k ≤ 2098 = omega (arith, f.finite) in
      let below : m * 2 ^ k < 2 ^ 2098 = lt_of_lt_of_le (shl_lt {a = m} 53 k f.fits) (pow_mono few) in
      let top : 2 ^ 2098 ≤ 18 * under 650 = lit≤ tt in
      lt_of_mul-lt-mul_right (under 650) (omega (arith, below_le bits m k f 650))

  -- what reads as the float is not 0
  pub some_digits : (power d : ℕ) → reads bits power d ≡ true → 0 < d
  some_digits power d e = elim (eq-zero-or-pos d) [
    | inr p ↦ p
    | inl z ↦
        let none = read_zero (d * 10 ^ (power - 342)) (10 ^ (342 - power)) (ten_to_pos (342 - power)) (ap (λ n. n * 10 ^ (power - 342)) z ∙ omega arith) in
        absurd (omega (arith, sym (read_of bits power d e) ∙ none, bits_pos))
  ]

  pub digits_le : (power : ℕ) → digits_over bits size power ≤ multiple_below size power + 1
  unfolding digits_over
  digits_le power = go (reads bits power (closest_multiple size power)) (reads bits power (multiple_below size power))
    where
      go : (a b : Bool) → Rattle.std.proofs.Common.cond a (closest_multiple size power) (Rattle.std.proofs.Common.cond b (multiple_below size power) (multiple_below size power + 1)) ≤ multiple_below size power + 1
      go true b = omega (arith, nearest-le (multiple_below size power) (Prim.Native.Nat.compare (over size power % under power * 2) (under power)))
      go false true = omega arith
      go false false = omega arith

  -- ---- the search from the largest power down
  abbrev NoneAbove : ℕ → Type 0
  NoneAbove power = (q : ℕ) → power < q → q ≤ 650 → has_decimal bits size q ≡ false

  pub not_at_zero : (power : ℕ) → has_decimal bits size power ≡ false → 0 < power
  not_at_zero power none = elim (eq-zero-or-pos power) [ inl z ↦ absurd (true≢false (sym has_least ∙ ap (has_decimal bits size) (sym z) ∙ none)) | inr p ↦ p ]

  pub next_small : (power : ℕ) → has_decimal bits size power ≡ false → multiple_below size (power - 1) < 40 * 2 ^ 53
  next_small power none = let some = not_at_zero power none in let e : power - 1 + 1 ≡ power = omega arith in small (power - 1) (ap (has_decimal bits size) e ∙ none)

  pub next_above : (power : ℕ) → has_decimal bits size power ≡ false → NoneAbove power → NoneAbove (power - 1)
  next_above power none above q l b = elim (cases_lt power q) [ inl more ↦ above q more b | inr same ↦ (let some = not_at_zero power none in let e : q ≡ power = omega arith in ap (has_decimal bits size) e ∙ none) ]

  pub found : (power : ℕ) → has_decimal bits size power ≡ true → power ≤ 650 → NoneAbove power → power ≡ shortest_power bits size
  found power has most above = sym (power_is bits m k f power 651 has (λ q l b. above q l (omega arith)) (omega arith))

  pub in_range : (power : ℕ) → has_decimal bits size power ≡ true → multiple_below size power < 40 * 2 ^ 53 → (0 < digits_over bits size power) × (digits_over bits size power < 10 ^ 18)
  in_range power has few = (some_digits power _ (reads_digits bits m k f power has), omega (arith, digits_le power))

  -- the search ends at a power that has a decimal
  shortest_has_from : (start : ℕ) → 0 < start → has_decimal bits size (power_from bits size false start) ≡ true
  unfolding power_from
  shortest_has_from zero some = absurd (omega arith)
  shortest_has_from (suc start) some =
      elim (cases_Bool (has_decimal bits size start)) [
        | inl here ↦ ap (λ b. has_decimal bits size (power_from bits size b start)) here ∙ here
        | inr none ↦ ap (λ b. has_decimal bits size (power_from bits size b start)) none ∙ shortest_has_from start (not_at_zero start none)
      ]

  pub shortest_reads : reads bits (shortest_power bits size) (digits_over bits size (shortest_power bits size)) ≡ true
  shortest_reads = reads_digits bits m k f (shortest_power bits size) (shortest_has_from 651 (omega arith))
