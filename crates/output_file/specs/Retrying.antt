-- How long a write is tried again.
use Rattle.std.specs.Prelude.{◌≡◌, ℕ, nat_le, Bool, true, false, Option, Some, None, List, Result, Ok, Err}

-- so long a write is tried again once the collector was told to stop, in milliseconds
abbrev pub stopping_limit : ℕ
stopping_limit = 10000

-- a write is tried again, of a collector that has been stopping for so many milliseconds, or that isn't
abbrev pub tries_again : (stopping : Option ℕ) → Bool
tries_again None = true
tries_again (Some milliseconds) = nat_le milliseconds stopping_limit

-- what a writer took, where that is known, whether its writes are tried again, and for how many milliseconds the
-- collector had been stopping when one failed last
pub record RetryingState : Type 0 where
  pub taken : Option (List ℕ)
  pub retries : Bool
  pub stopping : Option ℕ

-- this answer says that nothing was taken
abbrev pub TakesNothing : {E : Type 0} → Result ℕ E → Type 0
TakesNothing (Ok count) = count ≡ 0
TakesNothing (Err error) = Unit {0}

-- a write that is tried again took something, or it is no longer tried
abbrev pub IsNotGivenUpEarly : {E : Type 0} → Result ℕ E → RetryingState → Type 0
IsNotGivenUpEarly answer new = TakesNothing answer → tries_again new.stopping ≡ false
