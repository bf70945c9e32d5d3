-- That no multiple of the same power of ten that reads as a float is closer to it.
-- For the clause `closest` of `text_of`.
use Rattle.std.proofs.Common.{◌≡◌, ℕ, ◌+◌, ◌-◌, ◌*◌, ◌/◌, ◌%◌, ◌^◌, ◌<◌, ◌≤◌, ◌⊎◌, true, false, refl, sym, ap, ◌∙◌, inl, inr, arith, mul-le-mul_right, div-add-mod', mod-lt, true≢false}
use Rattle.std.proofs.lemmas.Bool.{cases_Bool, cases_lt}
use Rattle.std.proofs.lemmas.Cmp.{ranked}
use Rattle.std.specs.declared.cmp.Ordering.{Ordering}
use Rattle.std.specs.declared.cmp.Ordering.TheVariants.{Less, Equal, Greater}
use Rattle.std.specs.Ordering.{nat_cmp, MatchOrdering}
use lib.Ieee.Nearest.{closest}
use Rattle.shortest_float.specs.Decimals.{reads, over, under, multiple_below, closest_multiple, digits_over, distance}
use Rattle.shortest_float.specs.Sizes.{IsFinite}
use Rattle.shortest_float.proofs.Compared.{closer_is}
use Rattle.shortest_float.proofs.Multiples.{has_of_reads, reads_between, reads_digits, digits_closest, closest_next, where_lower, where_upper, under_pos}

-- how far n / u is from d, in units of 1 / u
abbrev far : ℕ → ℕ → ℕ → ℕ
far n u d = n - d * u + (d * u - n)

module _ (n u : ℕ) (U : 0 < u) where
  abbrev q : ℕ
  q = n / u

  low : q * u ≤ n
  low = omega (arith, div-add-mod' n u)

  high : n < q * u + u
  high = omega (arith, div-add-mod' n u, mod-lt n U)

  -- from below, the larger is closer, and from above the smaller
  pub far_below : (d e : ℕ) → d ≤ e → e ≤ q → far n u e ≤ far n u d
  far_below d e less most = omega (arith, low, mul-le-mul_right u less, mul-le-mul_right u most)

  pub far_above : (d e : ℕ) → e ≤ d → q + 1 ≤ e → far n u e ≤ far n u d
  far_above d e more least = let at : (q + 1) * u ≤ e * u = mul-le-mul_right u least in omega (arith, high, mul-le-mul_right u more)

  half : (o : Ordering) → MatchOrdering o (2 * n < (2 * q + 1) * u) (2 * n ≡ (2 * q + 1) * u) ((2 * q + 1) * u < 2 * n) → MatchOrdering o (q ≡ closest n u) (q + q % 2 ≡ closest n u) (q + 1 ≡ closest n u)
      → ((closest n u ≡ q) × (2 * n ≤ 2 * (q * u) + u)) ⊎ ((closest n u ≡ q + 1) × (2 * (q * u) + u ≤ 2 * n))
  half Less h c = inl (sym c, omega arith)
  half Equal h c = elim (cases_lt 0 (q % 2)) [ inl odd ↦ inr (omega arith, omega arith) | inr even ↦ inl (omega arith, omega arith) ]
  half Greater h c = inr (sym c, omega arith)

  -- the closest multiple is no farther than any
  pub far_closest : (d : ℕ) → far n u (closest n u) ≤ far n u d
  far_closest d = go (half (nat_cmp (2 * n) ((2 * q + 1) * u)) (ranked (2 * n) ((2 * q + 1) * u) _ refl) (closer_is n u q _ U refl refl))
    where
      of_q : closest n u ≡ q → 2 * n ≤ 2 * (q * u) + u → far n u (closest n u) ≤ far n u d
      of_q e h =
          let at = ap (far n u) e in
          elim (cases_lt q d) [
            | inl more ↦ (let next : (q + 1) * u ≤ d * u = mul-le-mul_right u (omega arith) in omega (arith, low, high))
            | inr less ↦ omega (arith, low, mul-le-mul_right u less)
          ]

      of_next : closest n u ≡ q + 1 → 2 * (q * u) + u ≤ 2 * n → far n u (closest n u) ≤ far n u d
      of_next e h =
          let at = ap (far n u) e in
          let value : far n u (q + 1) ≡ q * u + u - n = omega (arith, high) in
          elim (cases_lt q d) [
            | inl more ↦ (let next : (q + 1) * u ≤ d * u = mul-le-mul_right u (omega arith) in omega (arith, low, high))
            | inr less ↦ omega (arith, low, high, mul-le-mul_right u less)
          ]

      go : ((closest n u ≡ q) × (2 * n ≤ 2 * (q * u) + u)) ⊎ ((closest n u ≡ q + 1) × (2 * (q * u) + u ≤ 2 * n)) → far n u (closest n u) ≤ far n u d
      go (inl h) = of_q h.0 h.1
      go (inr h) = of_next h.0 h.1

module _ (bits m k : ℕ) (f : IsFinite bits m k) where
  abbrev size : ℕ
  size = m * 2 ^ k

  pub nearest_digits : (power d : ℕ) → reads bits power d ≡ true → distance size power (digits_over bits size power) ≤ distance size power d
  nearest_digits power d e = elim (cases_Bool (reads bits power (closest_multiple size power))) [ inl here ↦ at_closest here | inr not ↦ beside not ]
    where
      at_closest : reads bits power (closest_multiple size power) ≡ true → distance size power (digits_over bits size power) ≤ distance size power d
      at_closest here = omega (arith, ap (distance size power) (digits_closest bits m k f power _ here refl), far_closest (over size power) (under power) (under_pos power) d)

      lower_only : reads bits power (multiple_below size power) ≡ true → reads bits power (multiple_below size power + 1) ≡ false → distance size power (digits_over bits size power) ≤ distance size power d
      lower_only here not =
          let is = where_lower bits m k f power here not in
          elim (cases_lt (multiple_below size power) d) [
            | inl after ↦ absurd (true≢false (sym (reads_between bits m k f power (multiple_below size power) (multiple_below size power + 1) d (omega arith) (omega arith) here e) ∙ not))
            | inr before ↦ omega (arith, ap (distance size power) is.1, far_below (over size power) (under power) (under_pos power) d (multiple_below size power) before (omega arith))
          ]

      upper_only : reads bits power (multiple_below size power) ≡ false → reads bits power (multiple_below size power + 1) ≡ true → distance size power (digits_over bits size power) ≤ distance size power d
      upper_only not here =
          let is = where_upper bits m k f power not here in
          elim (cases_lt (multiple_below size power) d) [
            | inl after ↦ omega (arith, ap (distance size power) is.1, far_above (over size power) (under power) (under_pos power) d (multiple_below size power + 1) (omega arith) (omega arith))
            | inr before ↦ absurd (true≢false (sym (reads_between bits m k f power d (multiple_below size power) (multiple_below size power + 1) (omega arith) (omega arith) e here) ∙ not))
          ]

      beside : reads bits power (closest_multiple size power) ≡ false → distance size power (digits_over bits size power) ≤ distance size power d
      beside not =
          elim (cases_Bool (reads bits power (multiple_below size power))) [
            | inl lower ↦ elim (cases_Bool (reads bits power (multiple_below size power + 1))) [
              | inl upper ↦ elim (closest_next bits m k f power) [ inl t ↦ absurd (true≢false (sym (ap (reads bits power) t ∙ lower) ∙ not)) | inr t ↦ absurd (true≢false (sym (ap (reads bits power) t ∙ upper) ∙ not)) ]
              | inr none ↦ lower_only lower none
            ]
            | inr none ↦ elim (cases_Bool (reads bits power (multiple_below size power + 1))) [
              | inl upper ↦ upper_only none upper
              | inr neither ↦ absurd (true≢false (sym (has_of_reads bits m k f power d e) ∙ Rattle.shortest_float.proofs.Multiples.where_none bits m k f power none neither))
            ]
          ]
