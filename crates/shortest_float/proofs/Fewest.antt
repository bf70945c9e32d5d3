-- That no decimal of fewer digits reads as a float.
-- For the clause `fewest` of `text_of`.
use Rattle.std.proofs.Common.{◌≡◌, ℕ, zero, suc, ◌+◌, ◌-◌, ◌*◌, ◌^◌, ◌<◌, ◌≤◌, true, false, sym, ap, ◌∙◌, subst, inl, inr, arith, mul-le-mul_left, mul-le-mul_right, true≢false, pow-suc}
use Rattle.std.proofs.lemmas.Bool.{cases_Bool, cases_lt}
use native.Mathlib.Nat.{pow-le-pow_right}
use Rattle.std.specs.Float.{binary64}
use Rattle.fast_float.proofs.ExactLemmas.{ten_to_pos}
use Rattle.fast_float.proofs.Extremes.{nearest_of_huge}
use Rattle.shortest_float.specs.Decimals.{reads, has_decimal, power_from, shortest_power, shortest_digits}
use Rattle.shortest_float.specs.Sizes.{IsFinite}
use Rattle.shortest_float.proofs.ReadBits.{read_of_nearest}
use Rattle.shortest_float.proofs.Multiples.{read_of, same_reads, has_of_reads, reads_between}
use Rattle.shortest_float.proofs.Room.{some_digits, shortest_reads}

module _ (bits m k : ℕ) (f : IsFinite bits m k) where
  abbrev size : ℕ
  size = m * 2 ^ k

  -- no multiple of 10 ^ 309 reads as the float
  none_beyond : (power d : ℕ) → 651 ≤ power → reads bits power d ≡ true → ⊥
  none_beyond power d far e =
      let some = some_digits bits m k f power d e in
      let up : 309 ≤ power - 342 = omega arith in
      let down : 342 - power ≡ 0 = omega arith in
      let ten : 10 ^ 309 ≤ 10 ^ (power - 342) = pow-le-pow_right (omega arith) up in
      let more : 1 * 10 ^ (power - 342) ≤ d * 10 ^ (power - 342) = mul-le-mul_right (10 ^ (power - 342)) some in
      let huge : 10 ^ 309 * 1 ≤ d * 10 ^ (power - 342) = omega arith in
      let read = read_of bits power d e in
      let read' = rw down at read in
      let infinite = read_of_nearest _ _ _ (nearest_of_huge binary64 (d * 10 ^ (power - 342)) 1 (omega arith) huge) in
      absurd (omega (arith, sym read' ∙ infinite, f.bits_are, f.fits, f.finite))

  -- nor does one of a power above the shortest
  above_from : (start q : ℕ) → power_from bits size false start < q → q < start → has_decimal bits size q ≡ false
  unfolding power_from
  above_from zero q above before = absurd (omega arith)
  above_from (suc start) q above before =
      elim (cases_Bool (has_decimal bits size start)) [
        | inl here ↦ (let at = subst (λ b. power_from bits size b start < q) here above in absurd (omega arith))
        | inr none ↦ elim (cases_lt q start) [
          | inl further ↦ above_from start q (subst (λ b. power_from bits size b start < q) none above) further
          | inr same ↦ (let e : q ≡ start = omega arith in ap (has_decimal bits size) e ∙ none)
        ]
      ]

  none_above : (q d : ℕ) → shortest_power bits size < q → reads bits q d ≡ true → ⊥
  none_above q d above e = elim (cases_lt q 651) [ inl near ↦ true≢false (sym (has_of_reads bits m k f q d e) ∙ above_from 651 q above near) | inr far ↦ none_beyond q d far e ]

  pub fewest : (power d count : ℕ) → reads bits power d ≡ true → d < 10 ^ count → shortest_digits bits size < 10 ^ count
  fewest power d zero e few = absurd (omega (arith, some_digits bits m k f power d e))
  fewest power d (suc count) e few =
      let p = shortest_power bits size in
      let n = shortest_digits bits size in
      elim (cases_lt n (10 ^ suc count)) [
        | inl l ↦ l
        | inr many ↦ elim (cases_lt p power) [
          | inl above ↦ absurd (none_above power d above e)
          | inr below ↦
              let more = p - power in
              let back : power + more ≡ p = omega arith in
              let ten = 10 ^ suc count * 10 ^ more in
              let one : 1 ≤ 10 ^ more = ten_to_pos more in
              let wide : 10 ^ suc count * 1 ≤ ten = mul-le-mul_left (10 ^ suc count) one in
              let low : d ≤ ten = omega arith in
              let high : ten ≤ n * 10 ^ more = mul-le-mul_right (10 ^ more) many in
              let own : reads bits power (n * 10 ^ more) ≡ true = sym (same_reads bits power more n) ∙ ap (λ q. reads bits q n) back ∙ shortest_reads bits m k f in
              let at : reads bits power ten ≡ true = reads_between bits m k f power d ten (n * 10 ^ more) low high e own in
              let there : reads bits p (10 ^ suc count) ≡ true = ap (λ q. reads bits q (10 ^ suc count)) (sym back) ∙ same_reads bits power more (10 ^ suc count) ∙ at in
              let next : reads bits (p + 1) (10 ^ count) ≡ true = same_reads bits p 1 (10 ^ count) ∙ ap (reads bits p) (sym (pow-suc 10 count)) ∙ there in
              absurd (none_above (p + 1) (10 ^ count) (omega arith) next)
        ]
      ]
