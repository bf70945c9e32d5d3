-- Numbers of spans by places.
use Rattle.std.specs.Prelude.{ℕ, ◌+◌, List, length, if◌then◌else◌, nat_lt, replicate, slice_set, slice_index_or}
use Rattle.run_comparison.specs.Amount.{capped}

-- so many more at a place, where there is one
abbrev pub more_at : List ℕ → (place more : ℕ) → List ℕ
more_at numbers place more = if nat_lt place (length numbers) then slice_set numbers place (capped (slice_index_or numbers place 0 + more)) else numbers

-- so many zeros
unfoldable pub zeros : (count : ℕ) → List ℕ
zeros count = replicate count 0
