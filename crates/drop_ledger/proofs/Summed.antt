-- Sums over reports.
-- For the contracts of `Report::plus` and `total`.
use Rattle.std.proofs.Common.{◌≡◌, ℕ, zero, suc, ◌+◌, ◌<◌, ◌≤◌, ◌^◌, List, [], ◌∷◌, ◌++◌, arith}
use Rattle.std.specs.Prelude.{slice_index}
use Rattle.std.proofs.lemmas.List.Sums.{sum_by-cons, sum_by-append}
use Rattle.span_ids.specs.declared.outcome.Reason.TheVariants.{InvalidId, QueueFull, NoMemory, Evicted, NotSampled, LateNotSampled, ExporterDown}
use Rattle.drop_ledger.specs.declared.count.Count.{Count}
use Rattle.drop_ledger.specs.declared.count.Count.TheVariants.{Received, Handed, Dropped}
use Rattle.drop_ledger.specs.Places.{place_of}
use Rattle.drop_ledger.specs.Sums.{in_all, AreSums, SumPasses}

-- each of the nine places is that of some count
pub count_at : (place : ℕ) → place < 9 → (count : Count) × (place_of count ≡ place)
count_at zero l = (Received, omega arith)
count_at (suc zero) l = (Handed, omega arith)
count_at (suc (suc zero)) l = (Dropped InvalidId, omega arith)
count_at (suc (suc (suc zero))) l = (Dropped QueueFull, omega arith)
count_at (suc (suc (suc (suc zero)))) l = (Dropped NoMemory, omega arith)
count_at (suc (suc (suc (suc (suc zero))))) l = (Dropped Evicted, omega arith)
count_at (suc (suc (suc (suc (suc (suc zero)))))) l = (Dropped NotSampled, omega arith)
count_at (suc (suc (suc (suc (suc (suc (suc zero))))))) l = (Dropped LateNotSampled, omega arith)
count_at (suc (suc (suc (suc (suc (suc (suc (suc zero)))))))) l = (Dropped ExporterDown, omega arith)
count_at (suc (suc (suc (suc (suc (suc (suc (suc (suc more))))))))) l = absurd (omega (arith, l))

all_of : (count : Count) (reports : List (List ℕ)) (report : List ℕ) → in_all count (reports ++ report ∷ []) ≡ in_all count reports + slice_index report (place_of count)
all_of count reports report =
    let f = λ (numbers : List ℕ). slice_index numbers (place_of count) in
    omega (arith, sum_by-append f reports (report ∷ []), sum_by-cons f report [])

-- a sum that passes goes on passing
pub passes_more : (reports later : List (List ℕ)) (report numbers : List ℕ) → AreSums reports numbers
    → (count : Count) × (2 ^ 64 ≤ slice_index numbers (place_of count) + slice_index report (place_of count)) → SumPasses (reports ++ report ∷ later)
passes_more reports later report numbers are p =
    let f = λ (z : List ℕ). slice_index z (place_of p.0) in
    (p.0, omega (arith, p.1, are p.0, sum_by-append f reports (report ∷ later), sum_by-cons f report later))
