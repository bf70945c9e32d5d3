-- Words of 64 bits as the digits of a number: products and the order.
-- For the clauses of `multiply_words`, `order_of`, `Natural::multiply_by_tens` and `Natural::multiply_by_twos`.
use Rattle.std.proofs.Common.{◌≡◌, ℕ, zero, suc, ◌+◌, ◌*◌, ◌/◌, ◌%◌, ◌^◌, ◌<◌, ◌≤◌, List, [], ◌∷◌, length, All, refl, sym, ap, ◌∙◌, arith, pow-suc, div-add-mod', mul-le-mul_right, mul-le-mul_left, pow-add}
use native.Mathlib.Nat.{pow-le-pow_right, pow-zero}
use Rattle.std.specs.Cmp.Lexicographic.{slice_cmp}
use Rattle.std.specs.declared.cmp.Ordering.{Ordering}
use Rattle.std.specs.declared.cmp.Ordering.TheVariants.{Less, Equal, Greater}
use Rattle.std.specs.Ordering.{nat_cmp, ordering_then, MatchOrdering}
use Rattle.std.proofs.lemmas.Cmp.{ranked}
use Rattle.std.proofs.lemmas.List.Elements.{All-head, All-tail}
use Rattle.shortest_float.specs.Words.{value}
use Rattle.shortest_float.proofs.Compared.{is_less, is_equal, is_greater}

-- each is a number of 64 bits
abbrev pub AreWords : List ℕ → Type 0
AreWords = All (λ w. w < 2 ^ 64)

-- the weight of the word above `lower`
abbrev weight : List ℕ → ℕ
weight lower = (2 ^ 64) ^ length lower

pub none_is : (words : List ℕ) → length words ≡ 0 → value words ≡ 0
unfolding value
none_is [] none = refl
none_is (word ∷ lower) none = absurd (omega arith)

-- a product of the lower words with its carry, and of the word above them
pub product_is : (word factor carry : ℕ) (old new : List ℕ) → length new ≡ length old → value new + carry * weight old ≡ value old * factor
    → value ((word * factor + carry) % 2 ^ 64 ∷ new) + (word * factor + carry) / 2 ^ 64 * (2 ^ 64) ^ suc (length old) ≡ value (word ∷ old) * factor
unfolding value
product_is word factor carry old new same lower =
    let p = word * factor + carry in
    let w = weight old in
    let above : (2 ^ 64) ^ suc (length old) ≡ w * 2 ^ 64 = pow-suc (2 ^ 64) (length old) in
    let whole : (p / 2 ^ 64 * 2 ^ 64 + p % 2 ^ 64) * w ≡ p * w = ap (λ x. x * w) (div-add-mod' p (2 ^ 64)) in
    let top : p % 2 ^ 64 * (2 ^ 64) ^ length new ≡ p % 2 ^ 64 * w = ap (λ l. p % 2 ^ 64 * (2 ^ 64) ^ l) same in
    omega (arith, top, whole, ap (λ x. p / 2 ^ 64 * x) above, lower)

-- no number of so many words reaches the weight above them
value_below : (words : List ℕ) → AreWords words → value words < weight words
unfolding value
value_below [] fit = omega arith
value_below (word ∷ lower) fit =
    let most : (word + 1) * weight lower ≤ 2 ^ 64 * weight lower = mul-le-mul_right (weight lower) (omega (arith, All-head (λ w. w < 2 ^ 64) word lower fit)) in
    omega (arith, most, value_below lower (All-tail (λ w. w < 2 ^ 64) word lower fit), pow-suc (2 ^ 64) (length lower))

-- what stands above both leaves the order
same_above : (above a b x y : ℕ) → x ≡ above + a → y ≡ above + b → nat_cmp a b ≡ nat_cmp x y
same_above above a b x y e f = go (nat_cmp a b) (ranked a b _ refl)
  where
    go : (o : Ordering) → MatchOrdering o (a < b) (a ≡ b) (b < a) → o ≡ nat_cmp x y
    go Less h = is_less x y (omega (arith, h, e, f))
    go Equal h = is_equal x y (omega (arith, h, e, f))
    go Greater h = is_greater x y (omega (arith, h, e, f))

-- a word decides, or what stands below it does
first_decides : (x y : ℕ) (xs ys : List ℕ) (rest o : Ordering) → weight xs ≡ weight ys → value xs < weight xs → value ys < weight ys → rest ≡ nat_cmp (value xs) (value ys)
    → MatchOrdering o (x < y) (x ≡ y) (y < x) → ordering_then o rest ≡ nat_cmp (value (x ∷ xs)) (value (y ∷ ys))
unfolding value
first_decides x y xs ys rest Less weights low high is less =
    let next : (x + 1) * weight ys ≤ y * weight ys = mul-le-mul_right (weight ys) (omega (arith, less)) in
    is_less (value (x ∷ xs)) (value (y ∷ ys)) (omega (arith, next, ap (λ w. x * w) weights, weights, low))
first_decides x y xs ys rest Equal weights low high is equal =
    is ∙ same_above (x * weight xs) (value xs) (value ys) (value (x ∷ xs)) (value (y ∷ ys)) refl (omega (arith, ap (λ n. n * weight ys) equal, ap (λ w. x * w) weights))
first_decides x y xs ys rest Greater weights low high is more =
    let next : (y + 1) * weight xs ≤ x * weight xs = mul-le-mul_right (weight xs) (omega (arith, more)) in
    is_greater (value (x ∷ xs)) (value (y ∷ ys)) (omega (arith, next, ap (λ w. y * w) weights, weights, high))

-- the first word that differs decides
pub order_is : (xs ys : List ℕ) → length xs ≡ length ys → AreWords xs → AreWords ys → slice_cmp nat_cmp xs ys ≡ nat_cmp (value xs) (value ys)
unfolding value
order_is [] [] same f g = refl
order_is [] (y ∷ ys) same f g = absurd (omega arith)
order_is (x ∷ xs) [] same f g = absurd (omega arith)
order_is (x ∷ xs) (y ∷ ys) same f g =
    let long : length xs ≡ length ys = omega (arith, same) in
    let fit = All-tail (λ w. w < 2 ^ 64) x xs f in
    let fits = All-tail (λ w. w < 2 ^ 64) y ys g in
    first_decides x y xs ys (slice_cmp nat_cmp xs ys) (nat_cmp x y) (ap (λ l. (2 ^ 64) ^ l) long) (value_below xs fit) (value_below ys fits) (order_is xs ys long fit fits) (ranked x y _ refl)

-- ---- a power by powers of so many factors at once
parts_is : (base many count : ℕ) → (base ^ many) ^ count ≡ base ^ (many * count)
parts_is base many zero = let none : 0 ≡ many * 0 = omega arith in pow-zero (base ^ many) ∙ sym (pow-zero base) ∙ ap (λ x. base ^ x) none
parts_is base many (suc count) =
    let more : many * count + many ≡ many * suc count = omega arith in
    pow-suc (base ^ many) count ∙ ap (λ x. x * base ^ many) (parts_is base many count) ∙ sym (pow-add base (many * count) many) ∙ ap (λ x. base ^ x) more

-- some of the parts leave room where the power does
pub part_fits : (n base many done power : ℕ) → 0 < base → done < power / many → n * base ^ power < 2 ^ 2304 → n * (base ^ many) ^ done * base ^ many < 2 ^ 2304
part_fits n base many done power some more fits =
    let next : (base ^ many) ^ suc done ≡ (base ^ many) ^ done * base ^ many = pow-suc (base ^ many) done in
    let steps : many * suc done ≤ many * (power / many) = mul-le-mul_left many more in
    let least : base ^ (many * suc done) ≤ base ^ power = pow-le-pow_right some (omega (arith, steps, div-add-mod' power many)) in
    let all = mul-le-mul_left n least in
    omega (arith, ap (λ x. n * x) (sym next ∙ parts_is base many (suc done)), all, fits)

-- one part more
pub part_is : (n base many done : ℕ) → n * (base ^ many) ^ done * base ^ many ≡ n * (base ^ many) ^ (done + 1)
part_is n base many done =
    let next : suc done ≡ done + 1 = omega arith in
    omega (arith, ap (λ x. n * x) (sym (pow-suc (base ^ many) done) ∙ ap (λ x. (base ^ many) ^ x) next))

-- all of them and what is left are the power
pub parts_are : (n base many power : ℕ) → n * (base ^ many) ^ (power / many) * base ^ (power % many) ≡ n * base ^ power
parts_are n base many power =
    let sum : many * (power / many) + power % many ≡ power = omega (arith, div-add-mod' power many) in
    let joined : (base ^ many) ^ (power / many) * base ^ (power % many) ≡ base ^ power =
    ap (λ x. x * base ^ (power % many)) (parts_is base many (power / many)) ∙ sym (pow-add base (many * (power / many)) (power % many)) ∙ ap (λ x. base ^ x) sum in
    omega (arith, ap (λ x. n * x) joined)
