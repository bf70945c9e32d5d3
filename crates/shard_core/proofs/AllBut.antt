-- Whether all elements of a list but one are set.
-- For the contract of `all_but`.
use Rattle.std.proofs.Common.{◌≡◌, ◌≢◌, ℕ, zero, suc, Bool, true, List, [], ◌∷◌, set, Some, slice_get, refl, ap, ◌∙◌}
use Rattle.std.specs.Prelude.{◌&&◌}
use Rattle.std.specs.List.{list_all}

-- each but the one at this place is set
abbrev pub AreSetBut : List Bool → (place : ℕ) → Type 0
AreSetBut xs place = (k : ℕ) (b : Bool) → k ≢ place → slice_get xs k ≡ Some b → b ≡ true

all_set : (xs : List Bool) → ((k : ℕ) (b : Bool) → slice_get xs k ≡ Some b → b ≡ true) → list_all (λ b. b) xs ≡ true
all_set [] h = refl
all_set (x ∷ xs) h = ap (λ b. b && list_all (λ b. b) xs) (h 0 x refl) ∙ all_set xs (λ k b at. h (suc k) b at)

pub all_but_set : (xs : List Bool) (place : ℕ) → AreSetBut xs place → list_all (λ b. b) (set xs place true) ≡ true
all_but_set [] place h = refl
all_but_set (x ∷ xs) zero h = all_set xs (λ k b at. h (suc k) b (λ e. absurd (cc)) at)
all_but_set (x ∷ xs) (suc place) h = ap (λ b. b && list_all (λ b. b) (set xs place true)) (h 0 x (λ e. absurd (cc)) refl) ∙ all_but_set xs place (λ k b apart at. h (suc k) b (λ e. apart (cc)) at)
