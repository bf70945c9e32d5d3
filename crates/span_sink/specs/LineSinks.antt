-- What a sink of lines does to the bytes that its sink took and to the sink's count of failures.
use Rattle.std.specs.Prelude.{◌≡◌, ℕ, ◌+◌, ◌<◌, Bool, true, false, Option, List, [], ◌++◌, length}
use Rattle.std.specs.Io.KnownBytes.{Appends}
use Rattle.span_sink.specs.Manners.{Manner, takes_all, may_refuse, prints_refused}

-- the bytes that the sink took, where they are known, its count of failures, and whether a write has failed
pub record LineSinkState : Type 0 where
  pub taken : Option (List ℕ)
  pub failures : ℕ
  pub is_down : Bool

-- the state while no write has failed
abbrev pub up_state : Option (List ℕ) → ℕ → LineSinkState
up_state taken failures = record { taken = taken; failures = failures; is_down = false }

-- the state once a write has failed
abbrev pub down_state : Option (List ℕ) → ℕ → LineSinkState
down_state taken failures = record { taken = taken; failures = failures; is_down = true }

-- the sink took this text, and no write failed
pub record TakesWhole (old : LineSinkState) (text : List ℕ) (new : LineSinkState) : Type 0 where
  pub was_up : old.is_down ≡ false
  pub stays_up : new.is_down ≡ false
  pub no_failure : new.failures ≡ old.failures
  pub bytes : Appends old.taken new.taken text

-- one write failed; the sink took a part of the text that is not the whole, and is down from now on
pub record FailsInside (old : LineSinkState) (text : List ℕ) (new : LineSinkState) : Type 0 where
  pub was_up : old.is_down ≡ false
  pub goes_down : new.is_down ≡ true
  pub one_failure : new.failures ≡ old.failures + 1
  pub part : List ℕ
  pub missing : List ℕ
  pub split : text ≡ part ++ missing
  pub cut_short : 0 < length missing
  pub bytes : Appends old.taken new.taken part

-- the line was refused, of which so much was taken; no write failed, and the next line may be taken
pub record StaysUp (old : LineSinkState) (taken : List ℕ) (new : LineSinkState) : Type 0 where
  pub was_up : old.is_down ≡ false
  pub stays_up : new.is_down ≡ false
  pub no_failure : new.failures ≡ old.failures
  pub bytes : Appends old.taken new.taken taken

-- what a destination of this manner does with a line that it refuses
abbrev pub Refuses : Manner → (old : LineSinkState) → (line : List ℕ) → (new : LineSinkState) → Type 0
Refuses takes_all old line new = ⊥
Refuses may_refuse old line new = StaysUp old [] new
Refuses prints_refused old line new = StaysUp old line new
