-- Whose turn it is: a receiver's queues are asked in turn, so of two that are filled pops alternate, and of many none
-- waits for more than a pop of each other one.
use Rattle.std.specs.Prelude.{◌≡◌, ◌≢◌, ℕ, ◌+◌, ◌<◌, ◌≤◌, if◌then◌else◌, nat_lt, List, [], ◌∷◌, length}
use Rattle.std.specs.List.{AllByRecursion}
use Rattle.lane_queue.specs.Ends.{ReceiverState, PopsAt, IsAskedBefore, WasEmptyAt}

-- the place behind this one, of so many; behind the last one it is the first one
abbrev pub behind : (place count : ℕ) → ℕ
behind place count = if nat_lt (place + 1) count then place + 1 else 0

-- the queue that was popped is asked last at the next pop: each other one is asked before it
abbrev pub PoppedIsAskedLast : (X : Type 0) → Type 0
PoppedIsAskedLast X = (capacity place : ℕ) (x : X) (old new : ReceiverState X) → PopsAt capacity place x old new
    → (k : ℕ) → k < length new.ends → k ≢ place → IsAskedBefore new.next place k

-- and the one behind it is asked first: none is asked before that
abbrev pub BehindIsAskedFirst : (X : Type 0) → Type 0
BehindIsAskedFirst X = (capacity place : ℕ) (x : X) (old new : ReceiverState X) → PopsAt capacity place x old new
    → (k : ℕ) → k < length new.ends → ¬ (IsAskedBefore new.next (behind place (length new.ends)) k)

-- so a queue is popped twice in a row only where each other one was empty at a moment of the second pop
abbrev pub TwiceOnlyPastEmpty : (X : Type 0) → Type 0
TwiceOnlyPastEmpty X = (capacity place : ℕ) (x y : X) (old new newer : ReceiverState X)
    → PopsAt capacity place x old new → PopsAt capacity place y new newer
    → (k : ℕ) → k < length new.ends → k ≢ place → WasEmptyAt capacity new.ends k

-- items were popped one after the other, each at its place
abbrev pub ArePopped : {X : Type 0} → (capacity : ℕ) → (old : ReceiverState X) → List (ℕ × X) → (new : ReceiverState X) → Type 0
ArePopped capacity old [] new = new ≡ old
ArePopped {X} capacity old ((place, x) ∷ pops) new = (between : ReceiverState X) × PopsAt capacity place x old between × ArePopped capacity between pops new

-- all were popped of other queues than this one
abbrev pub AreOfOthers : {X : Type 0} → (k : ℕ) → List (ℕ × X) → Type 0
AreOfOthers {X} k pops = AllByRecursion (λ (pop : ℕ × X). pop.0 ≢ k) pops

-- as many pops in a row as there are queues pass over one of them only where that was empty at a moment: so what waits
-- in a queue is overtaken by fewer items than there are queues
abbrev pub FewOvertake : (X : Type 0) → Type 0
FewOvertake X = (capacity k : ℕ) (pops : List (ℕ × X)) (old new : ReceiverState X) → ArePopped capacity old pops new → AreOfOthers k pops
    → k < length old.ends → length old.ends ≤ length pops → WasEmptyAt capacity old.ends k
