-- Which answers may be sent: where they have to wait for a commit, those of a round that was committed.
use Rattle.std.specs.Prelude.{ℕ, ◌+◌, ◌-◌, ◌^◌, ◌==◌, nat_le, Bool, true, false, min, if◌then◌else◌}
use Rattle.lane_driver.specs.declared.rounds.Rounds.{Rounds}
use Rattle.lane_driver.specs.declared.rounds.Sending.{Sending}
use Rattle.lane_driver.specs.declared.rounds.Sending.TheVariants.{Now, Later, Never}

-- before the first commit
abbrev pub starts : Rounds
starts = record { number = 1; lost = 0; waits = false }

-- answers that were put in this round, or in round 0, where they wait for none: never, where its commit failed, or one behind it; later, where it is still under way
abbrev pub sending : Rounds → (round : ℕ) → Sending
sending rounds round = if round == 0 then Now else (if nat_le round rounds.lost then Never else (if round == rounds.number then Later else Now))

-- the round under way was committed, or that failed
abbrev pub after_commit : (is_committed : Bool) → Rounds → Rounds
after_commit is_committed rounds = record { number = min (rounds.number + 1) (2 ^ 64 - 1); lost = if is_committed then rounds.lost else rounds.number; waits = false }
