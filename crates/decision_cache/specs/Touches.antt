-- What is remembered outside the buffer, looking back over the touches.
use Rattle.std.specs.Prelude.{ℕ, ◌≡◌, Bool, true, false, not, if◌then◌else◌, nat_lt, List, [], ◌∷◌, map, length, take, take_while, filter, find, Option, Some, None}
use Rattle.span_ids.specs.Same.{same_trace}
use Rattle.decision_cache.specs.Lists.{TraceList, CacheLists, is_held}
use Rattle.span_ids.specs.declared.ids.TraceId.{TraceId}
use Rattle.span_ids.specs.declared.outcome.Verdict.{Verdict}
use Rattle.span_ids.specs.declared.outcome.Verdict.TheVariants.{Sampled, NotSampled}
use Rattle.decision_cache.specs.declared.traces.Remembered.{Remembered}
use Rattle.decision_cache.specs.declared.traces.Remembered.TheVariants.{Kept, Off, Lost}

-- A touch of a verdict: the leaving of the decided episode that opened at `episode`, where it lost nothing, or a later
-- span, not refused, that found its trace remembered outside the buffer.
pub record Touch : Type 0 where
  pub episode : ℕ
  pub trace : TraceId
  pub verdict : Verdict

-- a touch of this trace
abbrev pub touched_by : (episode : ℕ) → TraceId → Verdict → Touch
touched_by episode t v = record { episode = episode; trace = t; verdict = v }

-- two verdicts are the same
abbrev pub is_same_verdict : Verdict → Verdict → Bool
is_same_verdict Sampled Sampled = true
is_same_verdict NotSampled NotSampled = true
is_same_verdict _ _ = false

-- Below, the touches stand the latest first.

-- each trace once, at its first place
abbrev pub different : List TraceId → List TraceId
different [] = []
different (t ∷ rest) = t ∷ filter (λ u. not (same_trace t u)) (different rest)

-- the different traces that were touched with this verdict, the last touched first
abbrev pub last_touched : Verdict → List Touch → List TraceId
last_touched v touches = different (map (λ u. u.trace) (filter (λ u. is_same_verdict u.verdict v) touches))

-- the touches since the trace's own last one
abbrev pub touches_since : TraceId → List Touch → List Touch
touches_since t touches = take_while (λ u. not (same_trace u.trace t)) touches

-- the trace's own last touch
abbrev pub last_touch : TraceId → List Touch → Option Touch
last_touch t touches = find (λ u. same_trace u.trace t) touches

-- for how many traces of a verdict there is room
abbrev pub size_of : (sizes : ℕ × ℕ) → Verdict → ℕ
size_of sizes Sampled = sizes.0
size_of sizes NotSampled = sizes.1

-- for how many traces, sampled and not sampled, a cache has room
abbrev pub sizes_of : CacheLists → ℕ × ℕ
sizes_of c = (c.sampled.size, c.not_sampled.size)

-- by its last touch, where fewer different other traces were touched with that verdict since than there is room for
abbrev pub cached_by : (sizes : ℕ × ℕ) → List Touch → TraceId → Option Touch → Option Verdict
cached_by sizes touches t None = None
cached_by sizes touches t (Some u) = if nat_lt (length (last_touched u.verdict (touches_since t touches))) (size_of sizes u.verdict) then Some u.verdict else None

-- the verdict with which a trace is remembered after these touches
abbrev pub cached_as : (sizes : ℕ × ℕ) → List Touch → TraceId → Option Verdict
cached_as sizes touches t = cached_by sizes touches t (last_touch t touches)

-- ---- what a cache holds after these touches

-- each trace that is held was last touched with this verdict
abbrev pub HeldAsTouched : Verdict → List TraceId → List Touch → Type 0
HeldAsTouched v traces touches = (t : TraceId) → is_held t traces ≡ true → (last : Touch) × (last_touch t touches ≡ Some last) × (last.verdict ≡ v)

-- the list holds the last traces touched with this verdict, as many as there is room for
abbrev pub ListStandsFor : Verdict → TraceList → List Touch → Type 0
ListStandsFor v l touches = (l.traces ≡ take l.size (last_touched v touches)) × HeldAsTouched v l.traces touches

-- the cache holds what these touches made of it
abbrev pub StandsFor : CacheLists → List Touch → Type 0
StandsFor c touches = ListStandsFor Sampled c.sampled touches × ListStandsFor NotSampled c.not_sampled touches

-- memory was refused to a put
abbrev pub is_lost : Remembered → Bool
is_lost Kept = false
is_lost Off = false
is_lost Lost = true
