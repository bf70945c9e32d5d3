-- What several reads and writes came to.
-- For the contracts of `write_text`, `write_both`, `heads_in` and `body_in`.
use Rattle.std.proofs.Common.{◌≡◌, ◌+◌, ◌++◌, ◌∙◌, ℕ, zero, suc, Bool, true, false, List, [], ◌∷◌, Option, take, drop, sym, ap, refl, subst, arith, append_assoc, length-append}
use Rattle.std.proofs.Math.Seq.{take-add, drop-nil}
use Rattle.std.proofs.KnownBytes.{Appends-trans}
use Rattle.post_http.specs.Exchanges.{Puts}

pub take_then : (i n : ℕ) (xs : List ℕ) → take i xs ++ take n (drop i xs) ≡ take (i + n) xs
take_then i n xs = sym (take-add i n xs)

pub drop_then : (i n : ℕ) (xs : List ℕ) → drop n (drop i xs) ≡ drop (i + n) xs
drop_then zero n xs = let e : n ≡ 0 + n = omega arith in subst (λ (k : ℕ). drop n xs ≡ drop k xs) e refl
drop_then (suc i) n [] = drop-nil n ∙ sym (drop-nil (suc i + n))
drop_then (suc i) n (x ∷ xs) = let e : suc (i + n) ≡ suc i + n = omega arith in subst (λ (k : ℕ). drop n (drop i xs) ≡ drop k (x ∷ xs)) e (drop_then i n xs)

-- a part of the first text was written
pub puts_first : (a b : Option (List ℕ)) (first second : List ℕ) → Puts a b first false → Puts a b (first ++ second) false
puts_first a b first second h =
    (h.0, h.1 ++ second, ap (λ s. s ++ second) h.2 ∙ append_assoc h.0 h.1 second, omega (arith, h.3, length-append h.1 second), h.4)

-- the first text was written, and then so much of the second one
pub puts_both : (a b c : Option (List ℕ)) (first second : List ℕ) (whole : Bool) → Puts a b first true → Puts b c second whole → Puts a c (first ++ second) whole
puts_both a b c first second true h k = Appends-trans a b c first second h k
puts_both a b c first second false h k =
    (first ++ k.0, k.1, ap (λ s. first ++ s) k.2 ∙ sym (append_assoc first k.0 k.1), k.3, Appends-trans a b c first k.0 h k.4)
