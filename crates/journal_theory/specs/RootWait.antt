-- When a trace is due by one of its roots (this project's option `root_wait_ms`), looking back over the items.
use Rattle.std.specs.Prelude.{ℕ, ◌≡◌, ◌+◌, ◌≤◌, ◌&&◌, ◌||◌, nat_lt, nat_le, ◌∷◌}
use Rattle.trace_buffer.specs.Buffer.{is_root_due}
use Rattle.journal_theory.specs.Journal.{Settings, Journal, Entry, Opening, clock, is_root_past, is_oversized, is_due}
use Rattle.journal_theory.specs.Standing.{first_root_since}

-- with root wait off, an episode is due by its opening, or its size
abbrev pub RootWaitOff : Type 0
RootWaitOff = (s : Settings) (past : Journal) (o : Opening) → s.root_wait ≡ 0 → is_due s past o ≡ (nat_le (o.moment + s.decision_wait) (clock past) || is_oversized s past o)

-- some root is past exactly where the first one is: the clock doesn't go back
abbrev pub DueByFirstRoot : Type 0
DueByFirstRoot = (root_wait now : ℕ) (past : Journal) (o : Opening) → is_root_due now root_wait (first_root_since past o) ≡ (nat_lt 0 root_wait && is_root_past root_wait now past o)

-- an item at or after the mark makes no trace due by a root at that mark
abbrev pub NoneDueAfterMark : Type 0
NoneDueAfterMark = (root_wait mark : ℕ) (e : Entry) (before : Journal) (o : Opening) → mark ≤ clock (e ∷ before)
    → is_root_due mark root_wait (first_root_since (e ∷ before) o) ≡ is_root_due mark root_wait (first_root_since before o)
