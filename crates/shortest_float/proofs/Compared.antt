-- What exact comparisons say of the multiples of a power of ten next to a size.
-- For the clauses of `compare_twice`, `is_below`, `is_closest`, `multiples_below` and `closer`.
use Rattle.std.proofs.Common.{◌≡◌, ℕ, zero, suc, ◌+◌, ◌-◌, ◌*◌, ◌/◌, ◌%◌, ◌^◌, ◌<◌, ◌≤◌, Bool, true, false, eqb, ltb, nat_lt, min, refl, sym, ap, ap₂, ◌∙◌, subst, inl, inr, arith, mul-lt-mul_of_pos_right, mul-le-mul, mul-le-mul_right, le_trans, lt_of_le_of_lt, lit<, pow_pos, pow-add, div-add-mod', mod-lt, lt_of_mul-lt-mul_right, lt-ltb, le-ltb, eq-eqb, ne_eqb}
use Rattle.std.proofs.lemmas.Bool.{eqb-true, ltb-true, ltb-false}
use native.Mathlib.Nat.{pow-le-pow_right}
use Rattle.std.specs.declared.cmp.Ordering.{Ordering}
use Rattle.std.specs.declared.cmp.Ordering.TheVariants.{Less, Equal, Greater}
use Rattle.std.specs.Ordering.{nat_cmp, is_lt, MatchOrdering}
use Rattle.std.proofs.lemmas.Cmp.{ranked}
use lib.Ieee.Nearest.{closest}
use Rattle.shortest_float.specs.Orders.{is_between}
use Rattle.shortest_float.proofs.Halfway.{rounds_down, rounds_up, rounds_even, rounds_between}

pub is_less : (c d : ℕ) → c < d → Less ≡ nat_cmp c d
is_less c d l = rw (lt-ltb c d l) refl

pub is_equal : (c d : ℕ) → c ≡ d → Equal ≡ nat_cmp c d
is_equal c d e = rw (le-ltb c d (omega arith), eq-eqb c d e) refl

pub is_greater : (c d : ℕ) → d < c → Greater ≡ nat_cmp c d
is_greater c d g = rw (le-ltb c d (omega arith), ne_eqb c d (λ e. omega arith)) refl

-- a common factor leaves the order
pub cmp_scaled : (a b c x y : ℕ) → 0 < c → a * c ≡ x → b * c ≡ y → nat_cmp a b ≡ nat_cmp x y
cmp_scaled a b c x y some left right = go (nat_cmp a b) (ranked a b _ refl)
  where
    go : (o : Ordering) → MatchOrdering o (a < b) (a ≡ b) (b < a) → o ≡ nat_cmp x y
    go Less h = is_less x y (omega (arith, mul-lt-mul_of_pos_right h some))
    go Equal h = is_equal x y (omega (arith, ap (λ n. n * c) h))
    go Greater h = is_greater x y (omega (arith, mul-lt-mul_of_pos_right h some))

pub is_lt-cmp : (a b : ℕ) → is_lt (nat_cmp a b) ≡ nat_lt a b
is_lt-cmp a b = go (nat_cmp a b) (ranked a b _ refl)
  where
    go : (o : Ordering) → MatchOrdering o (a < b) (a ≡ b) (b < a) → is_lt o ≡ nat_lt a b
    go Less h = sym (lt-ltb a b h)
    go Equal h = sym (le-ltb a b (omega arith))
    go Greater h = sym (le-ltb a b (omega arith))

-- ---- the numbers that are compared, and their room
pub left_is : (m y k s : ℕ) → s ≤ k → 2 * m * y * 2 ^ (k - s) * 2 ^ s ≡ 2 * (m * 2 ^ k * y)
left_is m y k s h =
    let e : 2 ^ (k - s) * 2 ^ s ≡ 2 ^ k = sym (pow-add 2 (k - s) s) ∙ ap (λ n. 2 ^ n) {x = k - s + s} {y = k} (omega arith) in
    omega (arith, ap (λ n. 2 * m * y * n) e)

pub right_is : (count x s : ℕ) → s ≤ 1074 → count * x * 2 ^ (1074 - s) * 2 ^ s ≡ count * (2 ^ 1074 * x)
right_is count x s h =
    let e : 2 ^ (1074 - s) * 2 ^ s ≡ 2 ^ 1074 = sym (pow-add 2 (1074 - s) s) ∙ ap (λ n. 2 ^ n) {x = 1074 - s + s} {y = 1074} (omega arith) in
    omega (arith, ap (λ n. count * x * n) e)

pub room : (n a b : ℕ) → n < 2 ^ 64 → a ≤ 342 → b ≤ 1074 → n * 10 ^ a * 2 ^ b < 2 ^ 2304
room n a b N A B =
    let word : n ≤ 2 ^ 64 = omega arith in
    let ten : 10 ^ a ≤ 10 ^ 342 = pow-le-pow_right (lit< tt) A in
    let two : 2 ^ b ≤ 2 ^ 1074 = pow-le-pow_right (lit< tt) B in
    let most : 2 ^ 64 * 10 ^ 342 * 2 ^ 1074 < 2 ^ 2304 = lit< tt in
    lt_of_le_of_lt (mul-le-mul (mul-le-mul word ten) two) most

pub room_of_tens : (n a : ℕ) → n < 2 ^ 64 → a ≤ 342 → n * 10 ^ a < 2 ^ 2304
room_of_tens n a N A = omega (arith, room n a 0 N A (omega arith))

-- ---- the closest multiple
pub between : (n u d : ℕ) → 0 < d → is_between (nat_cmp (2 * n) ((2 * d - 1) * u)) (nat_cmp (2 * n) ((2 * d + 1) * u)) (eqb (d % 2) 0) ≡ true → 0 < u → closest n u ≡ d
between n u d some e U = go (nat_cmp (2 * n) ((2 * d - 1) * u)) (nat_cmp (2 * n) ((2 * d + 1) * u)) (ranked (2 * n) ((2 * d - 1) * u) _ refl) (ranked (2 * n) ((2 * d + 1) * u) _ refl) e
  where
    lower_point : (2 * d - 1) * u + u ≡ 2 * (d * u)
    lower_point = let back : 2 * d ≡ 2 * d - 1 + 1 = omega arith in omega (arith, ap (λ x. x * u) back)

    under_one : (d - 1) * u + u ≡ d * u
    under_one = let back : d ≡ d - 1 + 1 = omega arith in omega (arith, ap (λ x. x * u) back)

    go : (o p : Ordering) → MatchOrdering o (2 * n < (2 * d - 1) * u) (2 * n ≡ (2 * d - 1) * u) ((2 * d - 1) * u < 2 * n)
        → MatchOrdering p (2 * n < (2 * d + 1) * u) (2 * n ≡ (2 * d + 1) * u) ((2 * d + 1) * u < 2 * n) → is_between o p (eqb (d % 2) 0) ≡ true → closest n u ≡ d
    go Less p h g e = absurd (Rattle.std.proofs.Common.true≢false (sym e))
    go Equal p h g e =
        let even = eqb-true (d % 2) 0 e in
        rounds_even n u (d - 1) (omega (arith, lower_point, under_one)) (omega (arith, lower_point, under_one)) (omega (arith, lower_point, under_one)) ∙ omega arith
    go Greater Less h g e = rounds_between n u d (omega (arith, lower_point)) (omega arith)
    go Greater Equal h g e = let even = eqb-true (d % 2) 0 e in rounds_even n u d (omega arith) (omega arith) (omega arith) ∙ omega arith
    go Greater Greater h g e = absurd (Rattle.std.proofs.Common.true≢false (sym e))

-- the closer of the two multiples next to the size
pub closer_is : (n u q : ℕ) (o : Ordering) → 0 < u → q ≡ n / u → o ≡ nat_cmp (2 * n) ((2 * q + 1) * u) → MatchOrdering o (q ≡ closest n u) (q + q % 2 ≡ closest n u) (q + 1 ≡ closest n u)
closer_is n u q o U is e = go o (ranked (2 * n) ((2 * q + 1) * u) o e)
  where
    same : q * u ≡ n / u * u
    same = ap (λ x. x * u) is

    low : q * u ≤ n
    low = omega (arith, same, div-add-mod' n u)

    high : n < q * u + u
    high = omega (arith, same, div-add-mod' n u, mod-lt n U)

    go : (o : Ordering) → MatchOrdering o (2 * n < (2 * q + 1) * u) (2 * n ≡ (2 * q + 1) * u) ((2 * q + 1) * u < 2 * n) → MatchOrdering o (q ≡ closest n u) (q + q % 2 ≡ closest n u) (q + 1 ≡ closest n u)
    go Less h = sym (rounds_down n u q low high (omega arith))
    go Equal h = sym (rounds_even n u q low high (omega arith))
    go Greater h = sym (rounds_up n u q low high (omega arith) ∙ omega arith)

-- ---- the multiple below, by halves
pub above_it : (n u c : ℕ) → 0 < u → nat_lt (2 * n) (2 * c * u) ≡ true → n / u < c
above_it n u c U e = lt_of_mul-lt-mul_right u (omega (arith, ltb-true (2 * n) (2 * c * u) e, div-add-mod' n u))

pub at_most_it : (n u c : ℕ) → 0 < u → nat_lt (2 * n) (2 * c * u) ≡ false → c ≤ n / u
at_most_it n u c U e =
    let next : c * u < (n / u + 1) * u = omega (arith, ltb-false (2 * n) (2 * c * u) e, div-add-mod' n u, mod-lt n U) in
    let less : c < n / u + 1 = lt_of_mul-lt-mul_right u next in
    omega arith
