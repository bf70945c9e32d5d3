-- What a thread counted from zeros on, or that a number of its own would have passed 2^64-1.
-- For the law of `Worked`.
use Rattle.std.proofs.Common.{◌≡◌, ◌⊎◌, ℕ, ◌^◌, ◌≤◌, Bool, true, false, List, inl, inr, refl, sym, ap, ◌∙◌, arith}
use Rattle.std.specs.Prelude.{slice_index}
use Rattle.drop_ledger.specs.declared.count.Count.{Count}
use Rattle.drop_ledger.specs.Places.{place_of, Gains, Passes, Tallies}
use Rattle.drop_ledger.proofs.Added.{numbers_are_sums, zero_at}
use Rattle.run_weave.specs.Jobs.{counting}
use Rattle.run_weave.specs.Workers.{zeros}
use Rattle.run_weave.specs.Received.{Tallied}

-- the number at a count, where so many were counted there from zeros on
pub gained_there : (gained : Count → ℕ) (numbers : List ℕ) (count : Count) → Gains gained zeros numbers → slice_index numbers (place_of count) ≡ gained count
gained_there gained numbers count g = ap (λ (z : List ℕ). slice_index z (place_of count)) g.1 ∙ (numbers_are_sums g.0 count ∙ g.2 count)

-- so many come to more than 2^64-1
pub passes_there : (gained : Count → ℕ) (p : Passes gained zeros) → 2 ^ 64 ≤ gained p.0
passes_there gained p = omega (arith, p.1, zero_at p.0)

pub tallied_same : (is_full : Bool) (gained others : Count → ℕ) (counted : List ℕ) → ((count : Count) → others count ≡ gained count) → Tallied is_full gained counted → Tallied is_full others counted
tallied_same true gained others counted same p = (p.0, omega (arith, p.1, same p.0))
tallied_same false gained others counted same g = (g.0, g.1, λ count. g.2 count ∙ sym (same count))

-- what a worker's tally says
pub tallied : (gained : Count → ℕ) (numbers : List ℕ) (is_full : Bool) → Tallies gained (counting zeros) (record { numbers = numbers; is_full = is_full }) → Tallied is_full gained numbers
tallied gained numbers true t = go (t.full refl)
  where
    go : (false ≡ true) ⊎ Passes gained zeros → Passes gained zeros
    go (inl e) = absurd (cc e)
    go (inr p) = p
tallied gained numbers false t = (t.counted refl).1
