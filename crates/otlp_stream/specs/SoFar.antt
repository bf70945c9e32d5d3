-- What was read of each message, by what stands under each name. For private clauses.
use Rattle.std.specs.Prelude.{◌≡◌, ℕ, Bool, List, codes, Option, Some, option_map}
use Rattle.serde_json.specs.Data.{Data}
use Rattle.span_ids.specs.Id.{id_of}
use Rattle.otlp_types.specs.declared.span.Status.{Status}
use Rattle.otlp_types.specs.declared.request.ScopeSpans.{ScopeSpans}
use Rattle.otlp_types.specs.declared.request.ResourceSpans.{ResourceSpans}
use Rattle.otlp_types.specs.declared.request.Request.{Request}
use Rattle.otlp_types.specs.declared.value.KeyValue.{KeyValue}
use Rattle.otlp_stream.specs.declared.values.KeptItems.{KeptItems}
use Rattle.otlp_stream.specs.declared.attributes.AttributesPart.{AttributesPart}
use Rattle.otlp_stream.specs.declared.spans.EventParts.{EventParts}
use Rattle.otlp_stream.specs.declared.spans.LinkParts.{LinkParts}
use Rattle.otlp_stream.specs.declared.spans.SpanParts.{SpanParts}
use Rattle.otlp_stream.specs.declared.requests.ScopeParts.{ScopeParts}
use Rattle.otlp_reading.specs.Kinds.{text, enum, u32, u64, list_of, message, inner}
use Rattle.otlp_reading.specs.Reading.{any_value, key_value, parent_of, status, event, link, span, resource, scope, scope_spans, resource_spans}
use Rattle.otlp_stream.specs.Taking.{sieved_list}

-- the attributes of a field: those that are kept, and how many are discarded
abbrev pub kept_attributes : Bool → Option Data → Option (KeptItems KeyValue)
kept_attributes keeps_doubles = sieved_list (message (key_value (any_value keeps_doubles)))

abbrev pub trace_field : Option Data → Option (Option (List ℕ))
trace_field o = option_map (id_of 16) (text o)

abbrev pub id_field : Option Data → Option (Option (List ℕ))
id_field o = option_map (id_of 8) (text o)

abbrev pub parent_field : Option Data → Option (Option (Option (List ℕ)))
parent_field o = option_map parent_of (text o)

-- `seen` says what stands under each name
module _ (keeps_doubles : Bool) (seen : List ℕ → Option Data) where
  abbrev pub AttributesSoFar : AttributesPart → Type 0
  AttributesSoFar p = (kept_attributes keeps_doubles (seen (codes "attributes")) ≡ Some p.attributes) × (u32 (seen (codes "droppedAttributesCount")) ≡ Some p.counted)

  abbrev pub StatusSoFar : Status → Type 0
  StatusSoFar p = (text (seen (codes "message")) ≡ Some p.message) × (enum (seen (codes "code")) ≡ Some p.code)

  abbrev pub EventSoFar : EventParts → Type 0
  EventSoFar p = (u64 (seen (codes "timeUnixNano")) ≡ Some p.time) × (text (seen (codes "name")) ≡ Some p.name) × AttributesSoFar p.rest

  abbrev pub LinkSoFar : LinkParts → Type 0
  LinkSoFar p =
      (text (seen (codes "traceId")) ≡ Some p.trace_id)
      × (text (seen (codes "spanId")) ≡ Some p.span_id)
      × (text (seen (codes "traceState")) ≡ Some p.trace_state)
      × (u32 (seen (codes "flags")) ≡ Some p.flags)
      × AttributesSoFar p.rest

  abbrev pub SpanSoFar : SpanParts → Type 0
  SpanSoFar p =
      (trace_field (seen (codes "traceId")) ≡ Some p.trace)
      × (id_field (seen (codes "spanId")) ≡ Some p.id)
      × (parent_field (seen (codes "parentSpanId")) ≡ Some p.parent)
      × (text (seen (codes "traceState")) ≡ Some p.span.trace_state)
      × (u32 (seen (codes "flags")) ≡ Some p.span.flags)
      × (text (seen (codes "name")) ≡ Some p.span.name)
      × (enum (seen (codes "kind")) ≡ Some p.span.kind)
      × (u64 (seen (codes "startTimeUnixNano")) ≡ Some p.span.start_time_unix_nano)
      × (u64 (seen (codes "endTimeUnixNano")) ≡ Some p.span.end_time_unix_nano)
      × (list_of (message (event keeps_doubles)) (seen (codes "events")) ≡ Some p.span.events)
      × (u32 (seen (codes "droppedEventsCount")) ≡ Some p.span.dropped_events_count)
      × (list_of (message (link keeps_doubles)) (seen (codes "links")) ≡ Some p.span.links)
      × (u32 (seen (codes "droppedLinksCount")) ≡ Some p.span.dropped_links_count)
      × (inner status (seen (codes "status")) ≡ Some p.span.status)
      × AttributesSoFar p.rest

  abbrev pub ScopeSoFar : ScopeParts → Type 0
  ScopeSoFar p = (text (seen (codes "name")) ≡ Some p.name) × (text (seen (codes "version")) ≡ Some p.version) × AttributesSoFar p.rest

  abbrev pub ScopeSpansSoFar : ScopeSpans → Type 0
  ScopeSpansSoFar p = (inner (scope keeps_doubles) (seen (codes "scope")) ≡ Some p.scope) × (list_of (message (span keeps_doubles)) (seen (codes "spans")) ≡ Some p.spans) × (text (seen (codes "schemaUrl")) ≡ Some p.schema_url)

  abbrev pub ResourceSpansSoFar : ResourceSpans → Type 0
  ResourceSpansSoFar p = (inner (resource keeps_doubles) (seen (codes "resource")) ≡ Some p.resource) × (list_of (message (scope_spans keeps_doubles)) (seen (codes "scopeSpans")) ≡ Some p.scope_spans) × (text (seen (codes "schemaUrl")) ≡ Some p.schema_url)

  abbrev pub RequestSoFar : Request → Type 0
  RequestSoFar p = (list_of (message (resource_spans keeps_doubles)) (seen (codes "resourceSpans")) ≡ Some p.resource_spans)
