use Rattle.std.proofs.Common.{ℕ, ◌≤◌, List, Option, length, ◌-◌}
use Rattle.http_text.specs.Search.{Searched}
use Rattle.http_text.proofs.search.find.Given as goal

abbrev pub invariant-steps : goal.invariant-steps
invariant-steps l =
    (l.at ≤ length l.bytes)
    × ((len_of : List ℕ → Option ℕ) → Searched len_of l.fn.search l.bytes → Searched len_of (record { at = l.at; place = l.place }) l.bytes)

abbrev pub decreases-steps : goal.decreases-steps
decreases-steps l = length l.bytes - l.at
