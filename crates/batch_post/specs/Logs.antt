-- What was tried, read and waited, and what was settled.
use Rattle.std.specs.Prelude.{◌≡◌, ⊤, ℕ, List, [], ◌++◌, Option, Some, None}
use Rattle.batch_post.specs.declared.outcome.AttemptOutcome.{AttemptOutcome}
use Rattle.batch_post.specs.declared.outcome.BatchFate.{BatchFate}

-- what a backend was asked, and what it answered
pub data LogEntry : Type 0 where
  -- an attempt to hand a batch over, and how it ended
  tried : (batch : List ℕ) → AttemptOutcome → LogEntry
  -- the moment that the clock told
  told : (moment : ℕ) → LogEntry
  -- a random number that was drawn
  drawn : (random : ℕ) → LogEntry
  -- what was left, once the collector closes
  remained : (left : Option ℕ) → LogEntry
  -- the wait that was asked for, in milliseconds
  waited : (wait : ℕ) → LogEntry
  -- the end of a batch
  settled : (batch : List ℕ) → BatchFate → LogEntry

-- a log grows by these entries, where it is known, and else stays unknown
abbrev pub Grows : Option (List LogEntry) → Option (List LogEntry) → List LogEntry → Type 0
Grows None None more = ⊤
Grows None (Some new) more = ⊥
Grows (Some old) None more = ⊥
Grows (Some old) (Some new) more = new ≡ old ++ more

-- nothing was tried yet, where that is known
abbrev pub IsNewLog : Option (List LogEntry) → Type 0
IsNewLog None = ⊤
IsNewLog (Some log) = log ≡ []
