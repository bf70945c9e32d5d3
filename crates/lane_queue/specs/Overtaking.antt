-- That nothing which waits in one queue is overtaken by what is taken of another once the first was emptied.
use Rattle.std.specs.Prelude.{◌≡◌, ◌⊎◌, ℕ, ◌+◌, ◌≤◌, List, [], ◌++◌, length}
use Rattle.lane_queue.specs.Histories.{QueueStep, Leaves, pushes, pops}

-- where a queue was empty at a moment, or as many items as it may hold were popped of it since an earlier one, all that
-- had been pushed by the earlier moment was popped by the later one, in order
abbrev pub NoneIsOvertaken : (X : Type 0) → Type 0
NoneIsOvertaken X = (capacity : ℕ) (earlier later : List (QueueStep X)) (held left : List X)
    → Leaves capacity earlier held → Leaves capacity (earlier ++ later) left
    → (left ≡ []) ⊎ (length (pops earlier) + capacity ≤ length (pops (earlier ++ later)))
    → (rest : List X) × (pops (earlier ++ later) ≡ pushes earlier ++ rest)
