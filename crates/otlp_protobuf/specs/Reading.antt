-- The request that bytes are, field by field (OTLP 1.x, `trace.proto`, `resource.proto` and `common.proto` v1). A field
-- that isn't told has its default. Each step says what one field more makes of a message: the number of the field, and
-- its value by the wire type.
use Rattle.std.specs.Prelude.{ℕ, ◌+◌, ◌-◌, ◌^◌, min, Bool, not, ◌||◌, pos, List, [], ◌∷◌, ◌++◌, length, replicate, Option, Some, None, option_map, option_and_then, Ok, ◌==◌, if◌then◌else◌}
use Rattle.std.specs.Str.{bytes_eq}
use Rattle.hex.specs.Hex.{encode_lower}
use Rattle.protobuf_wire.specs.Wire.{Field, Value, varint, fixed64, bytes, fixed32}
use Rattle.span_ids.specs.Id.{id_from}
use Rattle.otlp_types.specs.Empty.{plain_span}
use Rattle.otlp_types.specs.declared.value.KeyValue.{KeyValue}
use Rattle.otlp_types.specs.declared.span.Ids.{Ids}
use Rattle.otlp_types.specs.declared.span.Status.{Status}
use Rattle.otlp_types.specs.declared.span.Event.{Event}
use Rattle.otlp_types.specs.declared.span.Link.{Link}
use Rattle.otlp_types.specs.declared.span.Span.{Span}
use Rattle.otlp_types.specs.declared.request.Resource.{Resource}
use Rattle.otlp_types.specs.declared.request.Scope.{Scope}
use Rattle.otlp_types.specs.declared.request.ScopeSpans.{ScopeSpans}
use Rattle.otlp_types.specs.declared.request.ResourceSpans.{ResourceSpans}
use Rattle.otlp_types.specs.declared.request.Request.{Request}
use Rattle.otlp_protobuf.specs.declared.attributes.AttributesPart.{AttributesPart}
use Rattle.otlp_protobuf.specs.declared.span.EventParts.{EventParts}
use Rattle.otlp_protobuf.specs.declared.span.LinkParts.{LinkParts}
use Rattle.otlp_protobuf.specs.declared.span.SpanParts.{SpanParts}
use Rattle.otlp_protobuf.specs.declared.request.ScopeParts.{ScopeParts}
use Rattle.otlp_protobuf.specs.declared.request.ScopeSpansParts.{ScopeSpansParts}
use Rattle.otlp_protobuf.specs.declared.request.ResourceSpansParts.{ResourceSpansParts}
use Rattle.otlp_protobuf.specs.Kinds.{Read, map_read, text, int32, uint32, merged}
use Rattle.otlp_protobuf.specs.Values.{pair_of, value_to, most_levels}
use Rattle.otlp_types.specs.HoldsDouble.{is_of_double}

-- a message of these bytes: what its fields make of the first state, seen as a whole
abbrev pub message_of : {S A : Type 0} → (S → Field → Read S) → S → (S → A) → List ℕ → Read A
message_of step first whole s = map_read whole (merged step first s)

-- one more
abbrev pub with_last : {A : Type 0} → List A → Read A → Read (List A)
with_last xs o = map_read (λ x. xs ++ x ∷ []) o

-- ---- attributes

abbrev pub no_attributes : AttributesPart
no_attributes = record { kept = []; discarded = 0; counted = 0 }

-- where doubles aren't kept, an attribute that holds one is discarded, and counted as far as 32 bits hold
abbrev pub with_attribute : Bool → AttributesPart → KeyValue → AttributesPart
with_attribute keeps_doubles a p =
    if keeps_doubles || not (is_of_double p) then record a { kept = a.kept ++ p ∷ [] } else record a { discarded = min (a.discarded + 1) (2 ^ 32 - 1) }

abbrev pub attribute : Bool → AttributesPart → List ℕ → Read AttributesPart
attribute keeps_doubles a s = map_read (with_attribute keeps_doubles a) (pair_of (value_to most_levels) s)

-- how many were dropped: those already counted, and those discarded
abbrev pub dropped_of : AttributesPart → ℕ
dropped_of a = min (a.counted + a.discarded) (2 ^ 32 - 1)

-- ---- `Status`

abbrev pub no_status : Status
no_status = record { message = []; code = pos 0 }

abbrev pub status_by : Status → ℕ → Value → Read Status
status_by p n (bytes s) = if n == 2 then map_read (λ t. record p { message = t }) (text s) else Ok p
status_by p n (varint k) = if n == 3 then Ok (record p { code = int32 k }) else Ok p
status_by p n _ = Ok p

abbrev pub status_step : Status → Field → Read Status
status_step p f = status_by p f.number f.value

-- ---- `Span.Event`

abbrev pub no_event : EventParts
no_event = record { time_unix_nano = 0; name = []; rest = no_attributes }

abbrev pub event_by : Bool → EventParts → ℕ → Value → Read EventParts
event_by keeps_doubles p n (bytes s) =
    if n == 2 then map_read (λ t. record p { name = t }) (text s)
    else if n == 3 then map_read (λ a. record p { rest = a }) (attribute keeps_doubles p.rest s)
    else Ok p
event_by keeps_doubles p n (varint k) = if n == 4 then Ok (record p { rest = record (p.rest) { counted = uint32 k } }) else Ok p
event_by keeps_doubles p n (fixed64 k) = if n == 1 then Ok (record p { time_unix_nano = k }) else Ok p
event_by keeps_doubles p n (fixed32 k) = Ok p

abbrev pub event_step : Bool → EventParts → Field → Read EventParts
event_step keeps_doubles p f = event_by keeps_doubles p f.number f.value

abbrev pub whole_event : EventParts → Event
whole_event p = record { time_unix_nano = p.time_unix_nano; name = p.name; attributes = p.rest.kept; dropped_attributes_count = dropped_of (p.rest) }

abbrev pub event : Bool → List ℕ → Read Event
event keeps_doubles = message_of (event_step keeps_doubles) no_event whole_event

-- ---- `Span.Link`: its ids are kept as text, in lower-case hex digits

abbrev pub no_link : LinkParts
no_link = record { trace_id = []; span_id = []; trace_state = []; flags = 0; rest = no_attributes }

abbrev pub link_by : Bool → LinkParts → ℕ → Value → Read LinkParts
link_by keeps_doubles p n (bytes s) =
    if n == 1 then Ok (record p { trace_id = encode_lower s })
    else if n == 2 then Ok (record p { span_id = encode_lower s })
    else if n == 3 then map_read (λ t. record p { trace_state = t }) (text s)
    else if n == 4 then map_read (λ a. record p { rest = a }) (attribute keeps_doubles p.rest s)
    else Ok p
link_by keeps_doubles p n (varint k) = if n == 5 then Ok (record p { rest = record (p.rest) { counted = uint32 k } }) else Ok p
link_by keeps_doubles p n (fixed64 k) = Ok p
link_by keeps_doubles p n (fixed32 k) = if n == 6 then Ok (record p { flags = k }) else Ok p

abbrev pub link_step : Bool → LinkParts → Field → Read LinkParts
link_step keeps_doubles p f = link_by keeps_doubles p f.number f.value

abbrev pub whole_link : LinkParts → Link
whole_link p = record {
  trace_id = p.trace_id;
  span_id = p.span_id;
  trace_state = p.trace_state;
  attributes = p.rest.kept;
  dropped_attributes_count = dropped_of (p.rest);
  flags = p.flags;
}

abbrev pub link : Bool → List ℕ → Read Link
link keeps_doubles = message_of (link_step keeps_doubles) no_link whole_link

-- ---- `Span`

-- an empty parent, or one of eight zeros, is a root's
abbrev pub parent_from : List ℕ → Option (Option (List ℕ))
parent_from s = if (length s == 0) || bytes_eq s (replicate 8 0) then Some None else option_map Some (id_from 8 s)

-- no ids are there, and the span has no parent
abbrev pub no_parts : SpanParts
no_parts = record { trace = None; id = None; parent = Some None; span = plain_span None 0 0 0; rest = no_attributes }

abbrev pub span_bytes : Bool → SpanParts → ℕ → List ℕ → Read SpanParts
span_bytes keeps_doubles p n s =
    if n == 1 then Ok (record p { trace = id_from 16 s })
    else if n == 2 then Ok (record p { id = id_from 8 s })
    else if n == 3 then map_read (λ t. record p { span = record (p.span) { trace_state = t } }) (text s)
    else if n == 4 then Ok (record p { parent = parent_from s })
    else if n == 5 then map_read (λ t. record p { span = record (p.span) { name = t } }) (text s)
    else if n == 9 then map_read (λ a. record p { rest = a }) (attribute keeps_doubles p.rest s)
    else if n == 11 then map_read (λ es. record p { span = record (p.span) { events = es } }) (with_last p.span.events (event keeps_doubles s))
    else if n == 13 then map_read (λ ls. record p { span = record (p.span) { links = ls } }) (with_last p.span.links (link keeps_doubles s))
    else if n == 15 then map_read (λ st. record p { span = record (p.span) { status = st } }) (merged status_step p.span.status s)
    else Ok p

abbrev pub span_varint : SpanParts → ℕ → ℕ → SpanParts
span_varint p n k =
    if n == 6 then record p { span = record (p.span) { kind = int32 k } }
    else if n == 10 then record p { rest = record (p.rest) { counted = uint32 k } }
    else if n == 12 then record p { span = record (p.span) { dropped_events_count = uint32 k } }
    else if n == 14 then record p { span = record (p.span) { dropped_links_count = uint32 k } }
    else p

abbrev pub span_fixed64 : SpanParts → ℕ → ℕ → SpanParts
span_fixed64 p n k =
    if n == 7 then record p { span = record (p.span) { start_time_unix_nano = k } }
    else if n == 8 then record p { span = record (p.span) { end_time_unix_nano = k } }
    else p

abbrev pub span_fixed32 : SpanParts → ℕ → ℕ → SpanParts
span_fixed32 p n k = if n == 16 then record p { span = record (p.span) { flags = k } } else p

abbrev pub span_by : Bool → SpanParts → ℕ → Value → Read SpanParts
span_by keeps_doubles p n (bytes s) = span_bytes keeps_doubles p n s
span_by keeps_doubles p n (varint k) = Ok (span_varint p n k)
span_by keeps_doubles p n (fixed64 k) = Ok (span_fixed64 p n k)
span_by keeps_doubles p n (fixed32 k) = Ok (span_fixed32 p n k)

abbrev pub span_step : Bool → SpanParts → Field → Read SpanParts
span_step keeps_doubles p f = span_by keeps_doubles p f.number f.value

-- where the first is there, the second of it
infixl 10 ◌>>=◌
abbrev pub ◌>>=◌ : {A B : Type 0} → Option A → (A → Option B) → Option B
o >>= f = option_and_then f o

-- the ids, where all of them are valid
abbrev pub valid_ids : Option (List ℕ) → Option (List ℕ) → Option (Option (List ℕ)) → Option Ids
valid_ids trace id parent = do
  t ← trace
  s ← id
  p ← parent
  Some (record { trace = t; span = s; parent = p })

-- a request stands with a span whose ids are invalid
abbrev pub whole_span : SpanParts → Span
whole_span p = record (p.span) { ids = valid_ids p.trace p.id p.parent; attributes = p.rest.kept; dropped_attributes_count = dropped_of (p.rest) }

abbrev pub span : Bool → List ℕ → Read Span
span keeps_doubles = message_of (span_step keeps_doubles) no_parts whole_span

-- ---- `Resource`, `InstrumentationScope`

abbrev pub resource_by : Bool → AttributesPart → ℕ → Value → Read AttributesPart
resource_by keeps_doubles p n (bytes s) = if n == 1 then attribute keeps_doubles p s else Ok p
resource_by keeps_doubles p n (varint k) = if n == 2 then Ok (record p { counted = uint32 k }) else Ok p
resource_by keeps_doubles p n _ = Ok p

abbrev pub resource_step : Bool → AttributesPart → Field → Read AttributesPart
resource_step keeps_doubles p f = resource_by keeps_doubles p f.number f.value

abbrev pub whole_resource : AttributesPart → Resource
whole_resource p = record { attributes = p.kept; dropped_attributes_count = dropped_of p }

abbrev pub no_scope_parts : ScopeParts
no_scope_parts = record { name = []; version = []; rest = no_attributes }

abbrev pub scope_by : Bool → ScopeParts → ℕ → Value → Read ScopeParts
scope_by keeps_doubles p n (bytes s) =
    if n == 1 then map_read (λ t. record p { name = t }) (text s)
    else if n == 2 then map_read (λ t. record p { version = t }) (text s)
    else if n == 3 then map_read (λ a. record p { rest = a }) (attribute keeps_doubles p.rest s)
    else Ok p
scope_by keeps_doubles p n (varint k) = if n == 4 then Ok (record p { rest = record (p.rest) { counted = uint32 k } }) else Ok p
scope_by keeps_doubles p n _ = Ok p

abbrev pub scope_step : Bool → ScopeParts → Field → Read ScopeParts
scope_step keeps_doubles p f = scope_by keeps_doubles p f.number f.value

abbrev pub whole_scope : ScopeParts → Scope
whole_scope p = record { name = p.name; version = p.version; attributes = p.rest.kept; dropped_attributes_count = dropped_of (p.rest) }

-- ---- `ScopeSpans`, `ResourceSpans`

abbrev pub no_scope_spans : ScopeSpansParts
no_scope_spans = record { scope = no_scope_parts; spans = []; schema_url = [] }

abbrev pub scope_spans_by : Bool → ScopeSpansParts → ℕ → Value → Read ScopeSpansParts
scope_spans_by keeps_doubles p n (bytes s) =
    if n == 1 then map_read (λ x. record p { scope = x }) (merged (scope_step keeps_doubles) p.scope s)
    else if n == 2 then map_read (λ xs. record p { spans = xs }) (with_last p.spans (span keeps_doubles s))
    else if n == 3 then map_read (λ t. record p { schema_url = t }) (text s)
    else Ok p
scope_spans_by keeps_doubles p n _ = Ok p

abbrev pub scope_spans_step : Bool → ScopeSpansParts → Field → Read ScopeSpansParts
scope_spans_step keeps_doubles p f = scope_spans_by keeps_doubles p f.number f.value

abbrev pub whole_scope_spans : ScopeSpansParts → ScopeSpans
whole_scope_spans p = record { scope = whole_scope (p.scope); spans = p.spans; schema_url = p.schema_url }

abbrev pub scope_spans : Bool → List ℕ → Read ScopeSpans
scope_spans keeps_doubles = message_of (scope_spans_step keeps_doubles) no_scope_spans whole_scope_spans

abbrev pub no_resource_spans : ResourceSpansParts
no_resource_spans = record { resource = no_attributes; scope_spans = []; schema_url = [] }

abbrev pub resource_spans_by : Bool → ResourceSpansParts → ℕ → Value → Read ResourceSpansParts
resource_spans_by keeps_doubles p n (bytes s) =
    if n == 1 then map_read (λ x. record p { resource = x }) (merged (resource_step keeps_doubles) p.resource s)
    else if n == 2 then map_read (λ xs. record p { scope_spans = xs }) (with_last p.scope_spans (scope_spans keeps_doubles s))
    else if n == 3 then map_read (λ t. record p { schema_url = t }) (text s)
    else Ok p
resource_spans_by keeps_doubles p n _ = Ok p

abbrev pub resource_spans_step : Bool → ResourceSpansParts → Field → Read ResourceSpansParts
resource_spans_step keeps_doubles p f = resource_spans_by keeps_doubles p f.number f.value

abbrev pub whole_resource_spans : ResourceSpansParts → ResourceSpans
whole_resource_spans p = record { resource = whole_resource (p.resource); scope_spans = p.scope_spans; schema_url = p.schema_url }

abbrev pub resource_spans : Bool → List ℕ → Read ResourceSpans
resource_spans keeps_doubles = message_of (resource_spans_step keeps_doubles) no_resource_spans whole_resource_spans

-- ---- `ExportTraceServiceRequest`

abbrev pub no_request : Request
no_request = record { resource_spans = [] }

abbrev pub request_by : Bool → Request → ℕ → Value → Read Request
request_by keeps_doubles p n (bytes s) = if n == 1 then map_read (λ xs. record { resource_spans = xs }) (with_last p.resource_spans (resource_spans keeps_doubles s)) else Ok p
request_by keeps_doubles p n _ = Ok p

abbrev pub request_step : Bool → Request → Field → Read Request
request_step keeps_doubles p f = request_by keeps_doubles p f.number f.value

-- the request that bytes are, or the first fault that is met in them
abbrev pub request_of : Bool → List ℕ → Read Request
request_of keeps_doubles s = merged (request_step keeps_doubles) no_request s
