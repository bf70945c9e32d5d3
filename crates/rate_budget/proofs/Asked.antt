-- What the code of an asking does to the list of counts, beside the definitions.
-- For the contract of `ask_in`.
use Rattle.std.proofs.Common.{◌≡◌, ℕ, zero, suc, ◌<◌, ◌==◌, true, List, [], ◌∷◌, ◌++◌, length, take, drop, get_or, slice_set, refl, sym, ap, ◌∙◌, arith, drop-cons}
use Rattle.std.proofs.lemmas.Bool.Decides.{nat_tests}
use Rattle.rate_budget.specs.declared.count.LimiterCount.{LimiterCount}
use Rattle.rate_budget.specs.Budget.{asked_count, after}

same-eqb : (n : ℕ) → (n == n) ≡ true
same-eqb n = grind (arith, nat_tests)

set-here : (cs : List LimiterCount) (i : ℕ) (x : LimiterCount) → i < length cs → slice_set cs i x ≡ take i cs ++ x ∷ drop (suc i) cs
set-here [] i x h = absurd (omega (arith, h))
set-here (c ∷ cs) zero x h = refl
set-here (c ∷ cs) (suc i) x h = ap (λ zs. c ∷ zs) (set-here cs i x (omega (arith, h)))

-- the count at i is the node's
pub ask-here : (cs : List LimiterCount) (i node second n : ℕ) (d : LimiterCount) → i < length cs → (get_or cs i d).node ≡ node → slice_set cs i (asked_count second n (get_or cs i d)) ≡ take i cs ++ after (drop i cs) node second n
ask-here cs i node second n d h e =
    let c = get_or cs i d in
    let front : drop i cs ≡ c ∷ drop (suc i) cs = drop-cons cs i d h in
    let yes : (c.node == node) ≡ true = ap (λ k. k == node) e ∙ same-eqb node in
    let first : after (c ∷ drop (suc i) cs) node second n ≡ asked_count second n c ∷ drop (suc i) cs = rw yes in
    set-here cs i (asked_count second n c) h ∙ ap (λ zs. take i cs ++ zs) (sym (ap (λ zs. after zs node second n) front ∙ first))
