-- What stands in front of the first slash, by its place.
-- For the contract of `before_slash`.
use Rattle.std.proofs.Common.{◌≡◌, ◌≢◌, ℕ, zero, suc, ◌<◌, List, [], ◌∷◌, length, get_or, take, refl, ap, ◌∙◌, arith}
use Rattle.std.proofs.lemmas.Bool.{cond-true, cond-false, eq-eqb, ne_eqb}
use Rattle.config_findings.specs.AddressFindings.{before_slash}

pub at_slash : (xs : List ℕ) (i : ℕ) → i < length xs → get_or xs i 0 ≡ 47 → ((k : ℕ) → k < i → get_or xs k 0 ≢ 47) → before_slash xs ≡ take i xs
at_slash [] i h e before = absurd (omega (arith, h))
at_slash (x ∷ xs) zero h e before = cond-true _ _ _ (eq-eqb x 47 e)
at_slash (x ∷ xs) (suc i) h e before =
    cond-false _ _ _ (ne_eqb x 47 (before 0 (omega arith))) ∙ ap (λ (l : List ℕ). x ∷ l) (at_slash xs i (omega (arith, h)) e (λ k below. before (suc k) (omega (arith, below))))

pub no_slash : (xs : List ℕ) → ((k : ℕ) → k < length xs → get_or xs k 0 ≢ 47) → before_slash xs ≡ xs
no_slash [] none = refl
no_slash (x ∷ xs) none =
    cond-false _ _ _ (ne_eqb x 47 (none 0 (omega arith))) ∙ ap (λ (l : List ℕ). x ∷ l) (no_slash xs (λ k below. none (suc k) (omega (arith, below))))
