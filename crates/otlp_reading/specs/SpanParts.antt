-- Parts of a span. For private clauses.
use Rattle.std.specs.Prelude.{ℕ, ℤ, Bool, codes, Option, Some}
use Rattle.serde_json.specs.Data.{Members}
use Rattle.otlp_reading.specs.declared.span.SpanContext.{SpanContext}
use Rattle.otlp_reading.specs.declared.span.HeldFields.{HeldFields}
use Rattle.otlp_reading.specs.Kinds.{◌>>=◌, field, text, u32, u64, enum, list_of, message, inner}
use Rattle.otlp_reading.specs.Reading.{ids, status, event, link}

-- its ids, trace state and flags
abbrev pub context : Members → Option SpanContext
context ms = do
  ids ← ids ms
  trace_state ← text (field (codes "traceState") ms)
  flags ← u32 (field (codes "flags") ms)
  Some (record { ids = ids; trace_state = trace_state; flags = flags })

-- its kind, and when it started and ended
abbrev pub kind_and_times : Members → Option (ℤ × ℕ × ℕ)
kind_and_times ms = do
  kind ← enum (field (codes "kind") ms)
  start ← u64 (field (codes "startTimeUnixNano") ms)
  end ← u64 (field (codes "endTimeUnixNano") ms)
  Some (kind, start, end)

-- what it holds, but for its attributes
abbrev pub held_fields : Bool → Members → Option HeldFields
held_fields keeps_doubles ms = do
  events ← list_of (message (event keeps_doubles)) (field (codes "events") ms)
  dropped_events ← u32 (field (codes "droppedEventsCount") ms)
  links ← list_of (message (link keeps_doubles)) (field (codes "links") ms)
  dropped_links ← u32 (field (codes "droppedLinksCount") ms)
  status ← inner status (field (codes "status") ms)
  Some (record { events = events; dropped_events = dropped_events; links = links; dropped_links = dropped_links; status = status })
