-- The traces whose verdicts are remembered outside the buffer, as lists.
use Rattle.std.specs.Prelude.{ℕ, ◌≡◌, ◌-◌, ◌<◌, ◌==◌, Bool, true, false, ◌||◌, if◌then◌else◌, List, [], ◌∷◌, map, take, Option, Some, None}
use Rattle.std.specs.List.{list_any}
use Rattle.span_ids.specs.Same.{same_trace}
use Rattle.span_ids.specs.declared.ids.TraceId.{TraceId}
use Rattle.span_ids.specs.declared.outcome.Verdict.{Verdict}
use Rattle.span_ids.specs.declared.outcome.Verdict.TheVariants.{Sampled, NotSampled}
use Rattle.lru.specs.LruCache.{LruCache}
use Rattle.decision_cache.specs.declared.traces.Remembered.{Remembered}
use Rattle.decision_cache.specs.declared.traces.Remembered.TheVariants.{Kept, Off, Lost}

-- the traces of a verdict, the last touched first, and for how many there is room
pub record TraceList : Type 0 where
  pub traces : List TraceId
  pub size : ℕ

-- what a cache of the kit holds, if there is one
abbrev pub traces_of : {U : Type 0} → Option (LruCache TraceId U) → TraceList
traces_of None = record { traces = []; size = 0 }
traces_of (Some c) = record { traces = map (λ e. e.0) c.entries; size = c.cap }

-- the trace is among these
abbrev pub is_held : TraceId → List TraceId → Bool
is_held t traces = list_any (same_trace t) traces

-- the trace goes first, and the last goes where there is no room
abbrev pub puts : TraceId → TraceList → TraceList
puts t old = record old { traces = t ∷ take (old.size - 1) old.traces }

-- a put, by its answer
abbrev pub PutAs : TraceId → (old : TraceList) → Remembered → (new : TraceList) → Type 0
PutAs t old Kept new = (0 < old.size) × (new ≡ puts t old)
PutAs t old Off new = (old.size ≡ 0) × (new ≡ old)
PutAs t old Lost new = (0 < old.size) × (new ≡ old)

-- the traces but for the first that is this one
abbrev pub without : TraceId → List TraceId → List TraceId
without t [] = []
without t (u ∷ rest) = if same_trace t u then rest else u ∷ without t rest

-- the trace goes first, where it is there
abbrev pub renewed_if : Bool → TraceId → List TraceId → List TraceId
renewed_if true t traces = t ∷ without t traces
renewed_if false t traces = traces

-- the trace goes first, if it is there
abbrev pub renewed : TraceId → List TraceId → List TraceId
renewed t traces = renewed_if (is_held t traces) t traces

-- the traces remembered with each verdict
pub record CacheLists : Type 0 where
  pub sampled : TraceList
  pub not_sampled : TraceList

-- no trace is remembered yet
abbrev pub empty_lists : (sampled not_sampled : ℕ) → CacheLists
empty_lists sampled not_sampled = record { sampled = record { traces = []; size = sampled }; not_sampled = record { traces = []; size = not_sampled } }

-- the trace is remembered
abbrev pub is_held_in_either : TraceId → CacheLists → Bool
is_held_in_either t c = is_held t c.sampled.traces || is_held t c.not_sampled.traces

-- the trace is put into the list of its verdict
abbrev pub Remembers : TraceId → Verdict → (old : CacheLists) → Remembered → (new : CacheLists) → Type 0
Remembers t Sampled old answer new = PutAs t old.sampled answer new.sampled × (new.not_sampled ≡ old.not_sampled)
Remembers t NotSampled old answer new = PutAs t old.not_sampled answer new.not_sampled × (new.sampled ≡ old.sampled)

-- the verdict of the list that holds the trace
abbrev pub asked : TraceId → CacheLists → Option Verdict
asked t c = if is_held t c.sampled.traces then Some Sampled else if is_held t c.not_sampled.traces then Some NotSampled else None

-- the trace goes first in this list
abbrev pub renews : TraceId → TraceList → TraceList
renews t l = record l { traces = renewed t l.traces }

-- the trace goes first in the list that holds it
abbrev pub after_asking : TraceId → CacheLists → CacheLists
after_asking t c = if is_held t c.sampled.traces then record c { sampled = renews t c.sampled } else record c { not_sampled = renews t c.not_sampled }

-- a list after a put that found memory: where there is room for none, it is off
abbrev pub list_after_put : TraceId → TraceList → TraceList
list_after_put t old = if old.size == 0 then old else puts t old

-- the lists after a put that found memory
abbrev pub after_put : TraceId → Verdict → CacheLists → CacheLists
after_put t Sampled c = record c { sampled = list_after_put t c.sampled }
after_put t NotSampled c = record c { not_sampled = list_after_put t c.not_sampled }
