-- What a receiver's calls found.
use Rattle.std.specs.Prelude.{ℕ, ◌==◌, Bool, true, false, if◌then◌else◌, List, [], ◌∷◌, ◌++◌, Option, Some, None}
use Rattle.std.specs.declared.snapshot.Snapshot.{Snapshot}
use Rattle.lane_queue.specs.declared.calls.Call.{Call}
use Rattle.lane_queue.specs.declared.calls.Call.TheVariants.{Popped, FoundEmpty}

-- the calls of a log: what was known before the newest one, and then that
abbrev pub calls_of : Option (Call × Snapshot (List Call)) → List Call
calls_of None = []
calls_of (Some (call, earlier)) = earlier.value ++ call ∷ []

-- the places that were popped in these calls, in order
abbrev pub pops_of : List Call → List ℕ
pops_of [] = []
pops_of (Popped place ∷ calls) = place ∷ pops_of calls
pops_of (FoundEmpty place ∷ calls) = pops_of calls

-- whether the newest of these calls at this place found its queue empty; where none was at it, whether so was known before
abbrev pub is_empty_after : (place : ℕ) → (before : Bool) → List Call → Bool
is_empty_after place before [] = before
is_empty_after place before (Popped k ∷ calls) = is_empty_after place (if k == place then false else before) calls
is_empty_after place before (FoundEmpty k ∷ calls) = is_empty_after place (if k == place then true else before) calls
