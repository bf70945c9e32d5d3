-- All that a reader has, or the start of it.
-- For what `within` ensures.
use Rattle.std.proofs.Common.{◌≡◌, ℕ, zero, suc, ◌+◌, ◌<◌, ◌≤◌, List, [], ◌∷◌, length, take, Option, Some, None, refl, sym, ap, ◌∙◌, arith}
use Rattle.request_show.specs.Body.{greatest_length, IsStart, IsWhole, IsTooLong}

-- a start that is shorter than it might be is all
all_taken : (n : ℕ) (s : List ℕ) → length (take n s) < n → take n s ≡ s
all_taken zero s h = absurd (omega (arith, h))
all_taken (suc n) [] h = refl
all_taken (suc n) (b ∷ s) h = ap (λ t. b ∷ t) (all_taken n s (omega (arith, h)))

taken_within : (n : ℕ) (s : List ℕ) → length (take n s) ≤ length s
taken_within zero s = omega arith
taken_within (suc n) [] = omega arith
taken_within (suc n) (b ∷ s) = omega (arith, taken_within n s)

pub whole_of : (remaining : Option (List ℕ)) (body : List ℕ) → IsStart remaining body → length body ≤ greatest_length → IsWhole remaining body
whole_of None body start h = (tt, h)
whole_of (Some all) body start h =
    let short : length (take (greatest_length + 1) all) < greatest_length + 1 = omega (arith, h, ap length (sym start)) in
    (start ∙ all_taken (greatest_length + 1) all short, h)

pub too_long_of : (remaining : Option (List ℕ)) (body : List ℕ) → IsStart remaining body → (length body ≤ greatest_length → ⊥) → IsTooLong remaining
too_long_of None body start h = tt
too_long_of (Some all) body start h = omega (arith, h, ap length (sym start), taken_within (greatest_length + 1) all)
