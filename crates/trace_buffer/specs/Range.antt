-- Where in the ring the episodes are that wait and are too big.
use Rattle.std.specs.Prelude.{◌≡◌, ℕ, ◌+◌, ◌-◌, ◌^◌, ◌<◌, ◌≤◌, ◌==◌, min, max, Bool, true, ◌&&◌, nat_lt, is_none, if◌then◌else◌, List, length, get_or}
use Rattle.trace_buffer.specs.Buffer.{Episode, is_too_big, is_due_at}
use Rattle.trace_buffer.specs.declared.range.Range.{Range}

-- the number behind this one, at most 2^64 - 1
abbrev pub next_place : ℕ → ℕ
next_place place = min (place + 1) (2 ^ 64 - 1)

-- with one more at this place
abbrev pub with_place : (place : ℕ) → Range → Range
with_place place r =
    if nat_lt r.start r.end then record { start = min r.start place; end = max r.end (next_place place) } else record { start = place; end = next_place place }

-- with one more at this place, if that one is too big
abbrev pub with_if : Bool → (place : ℕ) → Range → Range
with_if is_too_big place r = if is_too_big then with_place place r else r

-- once the first episode has left
abbrev pub without_first : Range → Range
without_first r = record { start = r.start - 1; end = r.end - 1 }

-- once the one at this place is decided
abbrev pub without_place : (place : ℕ) → Range → Range
without_place place r = if place == r.start then record r { start = next_place place } else r

-- it waits, and is too big
abbrev pub waits_too_big : Episode → Bool
waits_too_big e = is_none e.verdict && is_too_big e.maximum e.spans

-- each that waits and is too big lies within
abbrev pub AreWithin : Range → List Episode → Type 0
AreWithin r episodes = (k : ℕ) (d : Episode) → k < length episodes → waits_too_big (get_or episodes k d) ≡ true → (r.start ≤ k) × (k < r.end)

-- from this place on only those are due that are too big
abbrev pub DueAreTooBig : (mark wait root_wait start : ℕ) → List Episode → Type 0
DueAreTooBig mark wait root_wait start episodes = (k : ℕ) (d : Episode) → start ≤ k → k < length episodes → is_due_at mark wait root_wait (get_or episodes k d) ≡ true → waits_too_big (get_or episodes k d) ≡ true
