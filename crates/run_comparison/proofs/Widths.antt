-- The least of a width's doublings, one doubling after the other.
-- For the clause `width` of `least_doubling`.
use Rattle.std.proofs.Common.{◌≡◌, ◌∙◌, ◌<◌, ◌≤◌, ℕ, zero, suc, ◌+◌, ◌-◌, ◌*◌, cond, true, false, nat_lt, refl, ap, arith}
use Rattle.std.proofs.lemmas.Bool.Decides.{nat_tests}
use Rattle.run_comparison.specs.Amount.{capped}
use Rattle.run_comparison.specs.Timeline.{least_doubling, steps_between}

one-left : (n : ℕ) → 0 < n → n ≡ suc (n - 1)
one-left n l = omega arith

unfolded : (n from to width : ℕ) → least_doubling (suc n) from to width ≡ cond (nat_lt (steps_between from to width) 512) width (least_doubling n from to (capped (width * 2)))
unfolding least_doubling
unfolded n from to width = refl

-- the width is wide enough
pub least_here : (n from to width : ℕ) → 0 < n → steps_between from to width < 512 → least_doubling n from to width ≡ width
least_here n from to width l few =
    let yes : nat_lt (steps_between from to width) 512 ≡ true = grind (arith, nat_tests) in
    ap (λ k. least_doubling k from to width) (one-left n l) ∙ unfolded (n - 1) from to width ∙ ap (λ b. cond b width (least_doubling (n - 1) from to (capped (width * 2)))) yes

-- it isn't
pub least_later : (n from to width : ℕ) → 0 < n → 512 ≤ steps_between from to width → least_doubling n from to width ≡ least_doubling (n - 1) from to (capped (width * 2))
least_later n from to width l many =
    let no : nat_lt (steps_between from to width) 512 ≡ false = grind (arith, nat_tests) in
    ap (λ k. least_doubling k from to width) (one-left n l) ∙ unfolded (n - 1) from to width ∙ ap (λ b. cond b width (least_doubling (n - 1) from to (capped (width * 2)))) no

-- no doubling is left
pub least_last : (n from to width : ℕ) → n ≤ 0 → least_doubling n from to width ≡ width
unfolding least_doubling
least_last zero from to width l = refl
least_last (suc n) from to width l = absurd (omega (arith, l))
