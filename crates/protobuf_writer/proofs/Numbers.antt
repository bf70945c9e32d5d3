-- A number, seven bits after seven bits.
-- For put_long_number and put_count.
use Rattle.std.proofs.Common.{◌≡◌, ℕ, suc, ◌+◌, ◌-◌, ◌*◌, ◌/◌, ◌%◌, ◌^◌, ◌<◌, ◌≤◌, List, [], ◌∷◌, ◌++◌, true, false, cond, refl, sym, ◌∙◌, ap, arith, append_assoc}
use Rattle.std.proofs.lemmas.Nat.{div_below, pow-add}
use Rattle.std.proofs.lemmas.Bool.Decides.{nat_tests}
use Rattle.std.specs.Prelude.{nat_lt}
use Rattle.protobuf_writer.specs.Writing.{written}

-- of a number i bytes are written, and the rest is left
pub record Writes (start : List ℕ) (number i : ℕ) (out : List ℕ) (left : ℕ) : Type 0 where
  pub so_far : start ++ written 10 number ≡ out ++ written (10 - i) left
  pub small : left < 2 ^ (64 - 7 * i)

pub Writes-start : (start : List ℕ) (number : ℕ) → number < 2 ^ 64 → Writes start number 0 start number
Writes-start start number h = record { so_far = refl; small = h }

pub last : (n k : ℕ) → k < 128 → written (suc n) k ≡ k ∷ []
unfolding written
last n k h = ap (λ b. cond b (k ∷ []) ((k % 128 + 128) ∷ written n (k / 128))) (let e : nat_lt k 128 ≡ true = grind (arith, nat_tests) in e)

first : (n k : ℕ) → 128 ≤ k → written (suc n) k ≡ (k % 128 + 128) ∷ written n (k / 128)
unfolding written
first n k h = ap (λ b. cond b (k ∷ []) ((k % 128 + 128) ∷ written n (k / 128))) (let e : nat_lt k 128 ≡ false = grind (arith, nat_tests) in e)

pub Writes-end : (start : List ℕ) (number i : ℕ) (out : List ℕ) (left : ℕ) → Writes start number i out left → i ≤ 9 → left < 128 → out ++ left ∷ [] ≡ start ++ written 10 number
Writes-end start number i out left w h g =
    sym (w.so_far ∙ ap (λ n. out ++ written n left) (let e : 10 - i ≡ suc (9 - i) = omega arith in e) ∙ ap (λ s. out ++ s) (last (9 - i) left g))

pub Writes-step : (start : List ℕ) (number i : ℕ) (out : List ℕ) (left : ℕ) → Writes start number i out left → i < 9 → 128 ≤ left
    → Writes start number (i + 1) (out ++ (left % 128 + 128) ∷ []) (left / 128)
Writes-step start number i out left w h g =
    let p : ℕ = 2 ^ (64 - 7 * (i + 1)) in
    let e : 2 ^ (64 - 7 * i) ≡ p * 128 = ap (λ k. 2 ^ k) (let q : 64 - 7 * i ≡ (64 - 7 * (i + 1)) + 7 = omega arith in q) ∙ pow-add 2 (64 - 7 * (i + 1)) 7 in
    let s : left < 2 ^ (64 - 7 * i) = w.small in
    record {
      so_far =
          w.so_far ∙ ap (λ n. out ++ written n left) (let q : 10 - i ≡ suc (10 - (i + 1)) = omega arith in q)
          ∙ ap (λ s. out ++ s) (first (10 - (i + 1)) left g) ∙ sym (append_assoc out ((left % 128 + 128) ∷ []) (written (10 - (i + 1)) (left / 128)));
      small = div_below left 128 p (omega arith) (rw e at s);
    }

-- behind nine bytes one bit is left
pub Writes-small : (start : List ℕ) (number i : ℕ) (out : List ℕ) (left : ℕ) → Writes start number i out left → i ≡ 9 → left < 128
Writes-small start number i out left w e = let s : left < 2 ^ (64 - 7 * i) = w.small in let t : left < 2 ^ (64 - 7 * 9) = rw e at s in omega arith
