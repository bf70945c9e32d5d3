-- A fraction to the nearest whole number, by the side of a half on which it lies.
-- For the clauses of `is_closest`, `closer` and `is_near`.
use Rattle.std.proofs.Common.{◌≡◌, ℕ, zero, suc, ◌+◌, ◌-◌, ◌*◌, ◌/◌, ◌%◌, ◌<◌, ◌≤◌, true, false, refl, sym, ap, ◌∙◌, inl, inr, arith, div-add-mod', mod-lt, lt_of_mul-lt-mul_right, true≢false, eq-eqb, ne_eqb, le-leb, le-ltb}
use Rattle.std.proofs.lemmas.Bool.{cases_lt}
use Rattle.std.proofs.Math.Dec.{is_le, compare_is_eq}
use Rattle.std.specs.Float.Ieee.{nearest}
use lib.Ieee.Nearest.{closest}
use Prim.Native.Nat.{compare, Ordering}

-- the one case of three that two answers leave
only_less : (o : Ordering) → is_le o ≡ true → compare_is_eq o ≡ false → o ≡ Ordering.lt
only_less Ordering.lt some other = refl
only_less Ordering.eq some other = absurd (true≢false other)
only_less Ordering.gt some other = absurd (true≢false (sym some))

only_equal : (o : Ordering) → compare_is_eq o ≡ true → o ≡ Ordering.eq
only_equal Ordering.lt same = absurd (true≢false (sym same))
only_equal Ordering.eq same = refl
only_equal Ordering.gt same = absurd (true≢false (sym same))

only_more : (o : Ordering) → is_le o ≡ false → o ≡ Ordering.gt
only_more Ordering.lt none = absurd (true≢false none)
only_more Ordering.eq none = absurd (true≢false none)
only_more Ordering.gt none = refl

not_at_most : (a b : ℕ) → b < a → is_le (compare a b) ≡ false
not_at_most zero b less = absurd (omega arith)
not_at_most (suc a) b less = le-ltb a b (omega (arith, less))

module _ (n u q : ℕ) (low : q * u ≤ n) (high : n < q * u + u) where
  some : 0 < u
  some = omega (arith, low, high)

  whole : n / u ≡ q
  whole =
      let sum = div-add-mod' n u in
      let rest = mod-lt n some in
      let most : n / u < q + 1 = lt_of_mul-lt-mul_right u (omega (arith, sum, high)) in
      let least : q < n / u + 1 = lt_of_mul-lt-mul_right u (omega (arith, sum, rest, low)) in
      omega (arith, most, least)

  remainder : q * u + n % u ≡ n
  remainder = ap (λ w. w * u + n % u) (sym whole) ∙ div-add-mod' n u

  by_half : (o : Ordering) → compare (n % u * 2) u ≡ o → closest n u ≡ nearest q o
  by_half o is = ap (nearest (n / u)) is ∙ ap (λ w. nearest w o) whole

  pub rounds_down : 2 * n < (2 * q + 1) * u → closest n u ≡ q
  rounds_down less =
      let under : n % u * 2 < u = omega (arith, remainder, less) in
      by_half Ordering.lt (only_less (compare (n % u * 2) u) (le-leb (n % u * 2) u (omega (arith, under))) (ne_eqb (n % u * 2) u (λ e. omega (arith, under, e))))

  pub rounds_even : 2 * n ≡ (2 * q + 1) * u → closest n u ≡ q + q % 2
  rounds_even same = by_half Ordering.eq (only_equal (compare (n % u * 2) u) (eq-eqb (n % u * 2) u (omega (arith, remainder, same))))

  pub rounds_up : (2 * q + 1) * u < 2 * n → closest n u ≡ q + 1
  rounds_up more = by_half Ordering.gt (only_more (compare (n % u * 2) u) (not_at_most (n % u * 2) u (omega (arith, remainder, more)))) ∙ omega arith

-- between the two halves next to a whole number
pub rounds_between : (n u d : ℕ) → (2 * d - 1) * u < 2 * n → 2 * n < (2 * d + 1) * u → closest n u ≡ d
rounds_between n u zero lower upper = rounds_down n u 0 (omega arith) (omega (arith, upper)) upper
rounds_between n u (suc d) lower upper =
    let same : 2 * suc d - 1 ≡ 2 * d + 1 = omega arith in
    let edge : (2 * d + 1) * u < 2 * n = rw same at lower in
    elim (cases_lt n (suc d * u)) [
      | inl under ↦ rounds_up n u d (omega (arith, edge)) (omega (arith, under)) edge ∙ omega arith
      | inr above ↦ rounds_down n u (suc d) above (omega (arith, upper)) upper
    ]
