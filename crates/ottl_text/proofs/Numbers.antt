-- Whole numbers by their digits.
-- For literals::int_of.
use Rattle.std.proofs.Common.{◌≡◌, ℕ, ◌<◌, ◌^◌, ℤ, pos, negsuc, List, [], ◌∷◌, length, Bool, true, false, cond, Result, Ok, Err, refl, sym, ◌∙◌, ap, arith}
use Rattle.std.specs.Prelude.{◌&&◌, nat_lt, FitsSigned}
use Rattle.std.specs.Int.{w64}
use Rattle.std.proofs.lemmas.Int.{to_z-of_z}
use mir.Val.{to_z, of_z}
use Rattle.std.specs.Char.{digit_value}
use Rattle.std.specs.List.{list_all}
use Rattle.std.specs.Str.Parse.{AllDigits, IsNumeral, without_leading_sign, signed_digits_value}
use Rattle.std.proofs.lemmas.Bool.Decides.{nat_tests}
use Rattle.ottl_text.specs.declared.fault.FaultKind.{FaultKind}
use Rattle.ottl_text.specs.declared.fault.FaultKind.TheVariants.{NumberTooBig}
use Rattle.ottl_text.specs.Literals.{are_digits, fits, int_of}

fits-from : (z : ℤ) → FitsSigned w64 z → fits z ≡ true
fits-from (pos n) f = let below : n < 2 ^ 63 = f.sfits in grind (arith, nat_tests, below)
fits-from (negsuc n) f = let below : n < 2 ^ 63 = f.sfits in grind (arith, nat_tests, below)

from-fits : (z : ℤ) → fits z ≡ true → FitsSigned w64 z
from-fits (pos n) e = let below : n < 2 ^ 63 = grind (arith, nat_tests, e) in record { sfits = below }
from-fits (negsuc n) e = let below : n < 2 ^ 63 = grind (arith, nat_tests, e) in record { sfits = below }

both : (a b : Bool) → a ≡ true → b ≡ true → (a && b) ≡ true
both a b e f = cc

split : (a b : Bool) → (a && b) ≡ true → (a ≡ true) × (b ≡ true)
split true b e = (refl, e)
split false b e = cc

all-from : (s : List ℕ) → AllDigits 10 s → list_all (λ c. nat_lt (digit_value c) 10) s ≡ true
all-from [] h = refl
all-from (c ∷ s) h = let digit : nat_lt (digit_value c) 10 ≡ true = grind (arith, nat_tests, h.0) in both _ _ digit (all-from s h.1)

from-all : (s : List ℕ) → list_all (λ c. nat_lt (digit_value c) 10) s ≡ true → AllDigits 10 s
from-all [] e = tt
from-all (c ∷ s) e =
    let parts = split (nat_lt (digit_value c) 10) (list_all (λ c. nat_lt (digit_value c) 10) s) e in
    let digit : digit_value c < 10 = grind (arith, nat_tests, parts.0) in (digit, from-all s parts.1)

digits-from : (s : List ℕ) → IsNumeral 10 s → are_digits s ≡ true
digits-from s h = let some : nat_lt 0 (length s) ≡ true = grind (arith, nat_tests, h.0) in both _ _ some (all-from s h.1)

from-digits : (s : List ℕ) → are_digits s ≡ true → IsNumeral 10 s
from-digits s e =
    let parts = split (nat_lt 0 (length s)) _ e in
    let some : 0 < length s = grind (arith, nat_tests, parts.0) in (some, from-all s parts.1)

abbrev Reads : List ℕ → Type 0
Reads s = IsNumeral 10 (without_leading_sign s) × FitsSigned w64 (signed_digits_value 10 s)

-- what is read where a number is written that fits
pub int-is : (s : List ℕ) (z : ℤ) → Reads s → z ≡ signed_digits_value 10 s → int_of s ≡ Ok z
unfolding int_of
int-is s z h e = rw (both _ _ (digits-from _ h.0) (fits-from _ h.1), e)

by_test : (b : Bool) (z : ℤ) → (b ≡ true → ⊥) → cond {A = Result ℤ FaultKind} b (Ok z) (Err NumberTooBig) ≡ Err NumberTooBig
by_test true z h = absurd (h refl)
by_test false z h = refl

pub int-is-none : (s : List ℕ) → (Reads s → ⊥) → int_of s ≡ Err NumberTooBig
unfolding int_of
int-is-none s h = by_test _ _ (λ e. let parts = split (are_digits (without_leading_sign s)) (fits (signed_digits_value 10 s)) e in h (from-digits _ parts.0, from-fits _ parts.1))

-- the same of a number as the program holds it
pub held-is : (s : List ℕ) (z : ℤ) → Reads s → z ≡ signed_digits_value 10 s → Ok (to_z w64 (of_z w64 z)) ≡ int_of s
held-is s z h e =
    let fit : FitsSigned w64 z = rw e h.1 in
    ap Ok (to_z-of_z w64 z fit) ∙ sym (int-is s z h e)
