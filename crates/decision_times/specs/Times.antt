-- When the time of a trace's decision has come, by the items that a shard took (tailsamplingprocessor README:
-- `decision_wait`, `maximum_trace_size_bytes`; this project's `root_wait_ms`). Moments are milliseconds. An item is
-- taken at the shard's clock after it, which is the greatest moment of the spans and ticks so far.
use Rattle.std.specs.Prelude.{◌≡◌, ◌≤◌, ◌<◌, ◌+◌, ℕ, true, false, ◌∷◌, ◌++◌, Some, length}
use Rattle.otlp_types.specs.declared.span.Ids.{Ids}
use Rattle.otlp_types.specs.declared.arrival.Arrival.{Arrival}
use Rattle.otlp_types.specs.declared.arrival.Item.TheVariants.{Span, Tick}
use Rattle.span_size.specs.Size.{size_of}
use Rattle.journal_theory.specs.Journal.{Settings, Journal, Entry, Opening, Decision, clock, is_of_trace, is_root, spans_since, have_ended}
use Rattle.journal_theory.specs.Standing.{mark}

-- the first span of an opening: the shard took it, memory wasn't refused to it, and it has the opening's trace; the
-- opening's moment is the clock after it
pub record WasOpened (past : Journal) (o : Opening) : Type 0 where
  pub later : Journal
  pub item : Entry
  pub before : Journal
  pub split : past ≡ later ++ item ∷ before
  pub first : Arrival
  pub is : item.item ≡ Span first
  pub kept : item.refused ≡ false
  pub ids : Ids
  pub valid : first.rec.span.ids ≡ Some ids
  pub trace : o.trace ≡ ids.trace
  pub at : o.at ≡ length before
  pub moment : o.moment ≡ clock (item ∷ before)

-- a root among the spans of an opening's trace, from the opening on, that was taken so long before this moment
pub record HasRoot (root_wait now : ℕ) (past : Journal) (o : Opening) : Type 0 where
  pub later : Journal
  pub item : Entry
  pub before : Journal
  pub split : past ≡ later ++ item ∷ before
  pub root : Arrival
  pub is : item.item ≡ Span root
  pub kept : item.refused ≡ false
  pub of_trace : is_of_trace o.trace root ≡ true
  pub without_parent : is_root root ≡ true
  pub since : o.at ≤ length before
  pub waited : clock (item ∷ before) + root_wait ≤ now

-- why a trace is decided at this item
pub data Cause (s : Settings) (item : Entry) (before : Journal) (o : Opening) : Type 0 where
  -- at a tick: its first span was taken long enough before
  has_waited : (m : ℕ) → item.item ≡ Tick m → o.moment + s.decision_wait ≤ clock (item ∷ before) → Cause s item before o
  -- at a tick: root wait is on, and a root of it was taken long enough before
  root_has_waited : (m : ℕ) → item.item ≡ Tick m → 0 < s.root_wait → HasRoot s.root_wait (clock (item ∷ before)) (item ∷ before) o → Cause s item before o
  -- its spans have more bytes than a trace may have
  is_big : 0 < s.maximum_trace_size → s.maximum_trace_size < size_of (spans_since (item ∷ before) o) → Cause s item before o
  -- with this item all senders have ended
  is_last : have_ended before s.senders ≡ false → have_ended (item ∷ before) s.senders ≡ true → Cause s item before o

-- the time of a trace that waits has not come: nor had it at the last tick
pub record HasTime (s : Settings) (past : Journal) (o : Opening) : Type 0 where
  pub wait : mark past < o.moment + s.decision_wait
  pub root_wait : 0 < s.root_wait → HasRoot s.root_wait (mark past) past o → ⊥
  pub size : 0 < s.maximum_trace_size → size_of (spans_since past o) ≤ s.maximum_trace_size
  pub senders : have_ended past s.senders ≡ false

-- A decision was made at an item that the shard took, for a cause, and at the first item at which there was one: its
-- time had not come before. It is on the spans that the trace had then.
pub record WasInTime (s : Settings) (past : Journal) (d : Decision) : Type 0 where
  pub later : Journal
  pub item : Entry
  pub before : Journal
  pub split : past ≡ later ++ item ∷ before
  pub opened : WasOpened (item ∷ before) d.opening
  pub cause : Cause s item before d.opening
  pub time_before : 0 < s.decision_wait → HasTime s before d.opening
  pub spans : d.spans ≡ spans_since (item ∷ before) d.opening
