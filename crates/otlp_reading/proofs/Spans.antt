-- A span is read field by field.
-- For the contracts of readers: what its fields read as makes the span, and so do its parts.
use Rattle.std.proofs.Common.{◌≡◌, Bool, codes, Option, None, Some, option_and_then, refl}
use Rattle.serde_json.specs.Data.{Members}
use Rattle.otlp_types.specs.declared.span.Span.{Span}
use Rattle.otlp_reading.specs.Kinds.{◌>>=◌, field, text, u32, u64, enum, list_of, message, inner}
use Rattle.otlp_reading.specs.Reading.{attributes, ids, status, event, link, span}
use Rattle.otlp_reading.specs.SpanParts.{context, kind_and_times, held_fields}

-- what each field reads as
pub record SpanFields (keeps_doubles : Bool) (s : Span) (ms : Members) : Type 0 where
  pub ids : ids ms ≡ Some s.ids
  pub state : text (field (codes "traceState") ms) ≡ Some s.trace_state
  pub flags : u32 (field (codes "flags") ms) ≡ Some s.flags
  pub name : text (field (codes "name") ms) ≡ Some s.name
  pub kind : enum (field (codes "kind") ms) ≡ Some s.kind
  pub start : u64 (field (codes "startTimeUnixNano") ms) ≡ Some s.start_time_unix_nano
  pub end : u64 (field (codes "endTimeUnixNano") ms) ≡ Some s.end_time_unix_nano
  pub all : attributes keeps_doubles ms ≡ Some (s.attributes, s.dropped_attributes_count)
  pub events : list_of (message (event keeps_doubles)) (field (codes "events") ms) ≡ Some s.events
  pub dropped_events : u32 (field (codes "droppedEventsCount") ms) ≡ Some s.dropped_events_count
  pub links : list_of (message (link keeps_doubles)) (field (codes "links") ms) ≡ Some s.links
  pub dropped_links : u32 (field (codes "droppedLinksCount") ms) ≡ Some s.dropped_links_count
  pub status : inner status (field (codes "status") ms) ≡ Some s.status

pub span_of : (keeps_doubles : Bool) (s : Span) (ms : Members) → SpanFields keeps_doubles s ms → span keeps_doubles ms ≡ Some s
span_of keeps_doubles s ms f = rw (f.ids, f.state, f.flags, f.name, f.kind, f.start, f.end, f.all, f.events, f.dropped_events, f.links, f.dropped_links, f.status)

-- what is read of what is read
in_turn : {A B C : Type 0} (f : A → Option B) (g : B → Option C) (o : Option A) → option_and_then g (option_and_then f o) ≡ option_and_then (λ x. option_and_then g (f x)) o
in_turn f g None = refl
in_turn f g (Some x) = refl

pub span_in_parts : (keeps_doubles : Bool) (ms : Members) → span keeps_doubles ms ≡ (context ms >>= λ c. text (field (codes "name") ms) >>= λ name. kind_and_times ms >>= λ t. attributes keeps_doubles ms >>= λ a. held_fields keeps_doubles ms >>= λ held. Some (record {
  ids = c.ids;
  trace_state = c.trace_state;
  flags = c.flags;
  name = name;
  kind = t.0;
  start_time_unix_nano = t.1;
  end_time_unix_nano = t.2;
  attributes = a.0;
  dropped_attributes_count = a.1;
  events = held.events;
  dropped_events_count = held.dropped_events;
  links = held.links;
  dropped_links_count = held.dropped_links;
  status = held.status;
}))
span_in_parts keeps_doubles ms = simp in_turn
