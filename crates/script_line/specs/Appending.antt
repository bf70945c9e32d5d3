-- What a function that appends leaves. For private clauses.
use Rattle.std.specs.Prelude.{◌≡◌, ◌++◌, List, ℕ, Result, OnOk, length, take}

-- The text was appended; an `Err` leaves the bytes that were there, and some of the text behind them.
pub record Appends {E : Type 0} (result : Result (Unit {0}) E) (old new text : List ℕ) : Type 0 where
  pub whole : OnOk result (new ≡ old ++ text)
  pub front : take (length old) new ≡ old
