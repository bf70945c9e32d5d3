-- When a row is added to the history.
use Rattle.std.specs.Prelude.{ℕ, ◌+◌, Bool, true, ◌||◌, nat_le, nat_lt, Option, Some, None}
use Rattle.status_json.specs.declared.due.TheConstants.{HISTORY_PACE}

-- None was added, or the last one so long ago, or at a moment that lies ahead: the wall clock went back.
abbrev pub is_row_due : (last : Option ℕ) → (now : ℕ) → Bool
is_row_due None now = true
is_row_due (Some at) now = nat_le (at + HISTORY_PACE) now || nat_lt now at
