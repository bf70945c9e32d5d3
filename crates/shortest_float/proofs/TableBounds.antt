-- The closest multiple, from a row of the table of powers of ten.
-- For the clause of `is_near`.
use Rattle.std.proofs.Common.{◌≡◌, ℕ, ◌+◌, ◌-◌, ◌*◌, ◌/◌, ◌%◌, ◌^◌, ◌<◌, ◌≤◌, refl, ap, ◌∙◌, arith, div-add-mod', mul-pos, pow_pos, pow-add, mul-le-mul_left, mul-le-mul_right, mul-lt-mul_of_pos_right, lt_of_mul-lt-mul_right, le_of_mul-le-mul_right}
use lib.Ieee.Nearest.{closest}
use Rattle.fast_float.specs.Powers.{power_scale, IsRow}
use Rattle.shortest_float.specs.Decimals.{over, under}
use Rattle.shortest_float.specs.Orders.{product}
use Rattle.shortest_float.proofs.Halfway.{rounds_between}
use Rattle.shortest_float.proofs.Multiples.{under_pos}

pub product_bounds : (t m : ℕ) → t < 2 ^ 128 → m < 2 ^ 53
    → (product t m * 2 ^ 64 ≤ m * t) × (m * (t + 1) ≤ (product t m + 2) * 2 ^ 64) × (product t m < 2 ^ 120) × (t / 2 ^ 64 * m < 2 ^ 118) × (t % 2 ^ 64 * m < 2 ^ 118)
product_bounds t m T M =
    let high = t / 2 ^ 64 in
    let low = t % 2 ^ 64 in
    let parts : m * (high * 2 ^ 64 + low) ≡ m * t = ap (λ x. m * x) (div-add-mod' t (2 ^ 64)) in
    let most : high * m ≤ 2 ^ 64 * m = mul-le-mul_right m (omega arith) in
    let least : low * m ≤ 2 ^ 64 * m = mul-le-mul_right m (omega arith) in
    omega (arith, parts, most, least)

-- from the bounds that a row gives
from_below : (m t k x y a u : ℕ) → t * x * a ≤ y * u → m * t * (k * a) * x ≤ m * k * y * u
from_below m t k x y a u h =
    let left : m * t * (k * a) * x ≡ m * k * (t * x * a) = grind arith in
    let right : m * k * y * u ≡ m * k * (y * u) = grind arith in
    omega (arith, left, right, mul-le-mul_left (m * k) h)

from_above : (m t k x y a u : ℕ) → 0 < m * k → y * u < (t + 1) * x * a → m * k * y * u < m * (t + 1) * (k * a) * x
from_above m t k x y a u p h =
    let left : m * (t + 1) * (k * a) * x ≡ (t + 1) * x * a * (m * k) = grind arith in
    let right : m * k * y * u ≡ y * u * (m * k) = grind arith in
    omega (arith, left, right, mul-lt-mul_of_pos_right h p)

-- the number lies from p up to p + 2 units, and the multiple's halfway points don't
above_lower : (p u n w j : ℕ) → 0 < u → p * u ≤ n * w → j * w < 2 * p → j * u < 2 * n
above_lower p u n w j U at less =
    let more : j * w * u < 2 * p * u = mul-lt-mul_of_pos_right less U in
    lt_of_mul-lt-mul_right w (omega arith)

below_upper : (p u n w j : ℕ) → n * w < (p + 2) * u → 2 * p + 4 ≤ j * w → 2 * n < j * u
below_upper p u n w j at most =
    let more : (2 * p + 4) * u ≤ j * w * u = mul-le-mul_right u most in
    lt_of_mul-lt-mul_right w (omega arith)

module _ (m k power t shift d : ℕ) (some : 0 < m) (small : m < 2 ^ 53) (least : 17 ≤ power) (most : power ≤ 650) (row : IsRow (684 - power) t) (places : shift + (k + power_scale (684 - power)) ≡ 2276) where
  abbrev x : ℕ
  x = 10 ^ (power - 342)

  abbrev y : ℕ
  y = 10 ^ (342 - power)

  abbrev scale : ℕ
  scale = power_scale (684 - power)

  abbrev w : ℕ
  w = 2 ^ k * 2 ^ scale

  abbrev product_of : ℕ
  product_of = product t m

  abbrev n : ℕ
  n = over (m * 2 ^ k) power

  abbrev u : ℕ
  u = under power

  up : 684 - power - 342 ≡ 342 - power
  up = omega arith

  down : 342 - (684 - power) ≡ power - 342
  down = omega arith

  row_from : t * x * 2 ^ scale ≤ y * 2 ^ 1266
  row_from = let h = row.from in let h' : t * (x * 2 ^ scale) ≤ y * 2 ^ 1266 = rw (up, down) at h in omega arith

  row_below : y * 2 ^ 1266 < (t + 1) * x * 2 ^ scale
  row_below = let h = row.below in let h' : y * 2 ^ 1266 < (t + 1) * (x * 2 ^ scale) = rw (up, down) at h in omega arith

  twos : 2 ^ 64 * w * 2 ^ shift ≡ 2 ^ 1266 * 2 ^ 1074
  twos = let sum : 64 + (k + scale) + shift ≡ 1266 + 1074 = omega arith in rw (← pow-add 2 k scale, ← pow-add 2 64 (k + scale), ← pow-add 2 (64 + (k + scale)) shift, sum, pow-add 2 1266 1074) refl

  factor : 0 < 2 ^ 64 * w
  factor = mul-pos (pow_pos 64) (mul-pos (pow_pos k) (pow_pos scale))

  left_is : (p : ℕ) → p * u * (2 ^ 64 * w) ≡ p * 2 ^ 64 * (w * x) * 2 ^ 1074
  left_is p = grind arith

  right_is : n * 2 ^ shift * (2 ^ 64 * w) ≡ n * 2 ^ 1266 * 2 ^ 1074
  right_is = let turn : n * 2 ^ shift * (2 ^ 64 * w) ≡ n * (2 ^ 64 * w * 2 ^ shift) = grind arith in turn ∙ ap (λ z. n * z) twos ∙ grind arith

  at_least : product_of * u ≤ n * 2 ^ shift
  at_least =
      let bounds = product_bounds t m row.fits small in
      let a : m * t * w * x ≤ n * 2 ^ 1266 = from_below m t (2 ^ k) x y (2 ^ scale) (2 ^ 1266) row_from in
      let b : product_of * 2 ^ 64 * (w * x) ≤ m * t * (w * x) = mul-le-mul_right (w * x) bounds.0 in
      let c : product_of * 2 ^ 64 * (w * x) ≤ n * 2 ^ 1266 = omega arith in
      let d : product_of * 2 ^ 64 * (w * x) * 2 ^ 1074 ≤ n * 2 ^ 1266 * 2 ^ 1074 = mul-le-mul_right (2 ^ 1074) c in
      le_of_mul-le-mul_right {k = 2 ^ 64 * w} (rw (left_is product_of, right_is) d) factor

  at_most : n * 2 ^ shift < (product_of + 2) * u
  at_most =
      let bounds = product_bounds t m row.fits small in
      let a : n * 2 ^ 1266 < m * (t + 1) * w * x = from_above m t (2 ^ k) x y (2 ^ scale) (2 ^ 1266) (mul-pos some (pow_pos k)) row_below in
      let b : m * (t + 1) * (w * x) ≤ (product_of + 2) * 2 ^ 64 * (w * x) = mul-le-mul_right (w * x) bounds.1 in
      let c : n * 2 ^ 1266 < (product_of + 2) * 2 ^ 64 * (w * x) = omega arith in
      let d : n * 2 ^ 1266 * 2 ^ 1074 < (product_of + 2) * 2 ^ 64 * (w * x) * 2 ^ 1074 = mul-lt-mul_of_pos_right c (pow_pos 1074) in
      lt_of_mul-lt-mul_right (2 ^ 64 * w) (rw (left_is (product_of + 2), right_is) d)

  pub near_is : 0 < d → (2 * d - 1) * 2 ^ shift < 2 * product_of → 2 * product_of + 4 ≤ (2 * d + 1) * 2 ^ shift → closest n u ≡ d
  near_is more lower upper =
      let low : (2 * d - 1) * u < 2 * n = above_lower product_of u n (2 ^ shift) (2 * d - 1) (under_pos power) at_least lower in
      let high : 2 * n < (2 * d + 1) * u = below_upper product_of u n (2 ^ shift) (2 * d + 1) at_most upper in
      let one : (2 * d - 1) * u + u ≡ 2 * (d * u) = let back : 2 * d ≡ 2 * d - 1 + 1 = omega arith in omega (arith, ap (λ z. z * u) back) in
      rounds_between n u d (omega arith) (omega arith)
