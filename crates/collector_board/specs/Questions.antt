-- For how long a question stands, and how the answers of all shards make one.
use Rattle.std.specs.Prelude.{ℕ, ◌+◌, Bool, true, false, ◌&&◌, nat_le, nat_lt, is_some, List, find, Option, Some, None}
use Rattle.std.specs.List.{list_all}
use Rattle.decision_line.specs.declared.held.TraceHeld.{TraceHeld}
use Rattle.decision_line.specs.declared.held.TraceHeld.TheVariants.{Unknown}
use Rattle.collector_board.specs.declared.trace_questions.TheConstants.{STANDS_FOR}

-- It was asked so lately. One that lies ahead, as the wall clock went back, doesn't stand.
abbrev pub stands : (asked now : ℕ) → Bool
stands asked now = nat_le asked now && nat_lt now (asked + STANDS_FOR)

-- a shard has answered, and knows the trace
abbrev pub is_known : Option TraceHeld → Bool
is_known None = false
is_known (Some Unknown) = false
is_known (Some held) = true

-- what is held, by the first answer of a shard that knows the trace, if there is one, and whether all have answered
abbrev pub held_or_unknown : Option (Option TraceHeld) → (all : Bool) → Option TraceHeld
held_or_unknown (Some known) all = known
held_or_unknown None true = Some Unknown
held_or_unknown None false = None

-- what the shards hold of a trace, by what each answered, if it did: what one says that knows it; else that it is
-- unknown, once all say so
abbrev pub held_by_all : List (Option TraceHeld) → Option TraceHeld
held_by_all answers = held_or_unknown (find is_known answers) (list_all is_some answers)
