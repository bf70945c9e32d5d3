-- The canonical bytes of a request (OTLP 1.x, `trace.proto`, `resource.proto` and `common.proto` v1): the fields of each
-- message in order of their numbers, each number in as few bytes as hold it, and no field that has its default. Of a
-- `oneof` the kind is written, also with its default; a message that has no field is left out, but in a list.
use Rattle.std.specs.Prelude.{ℕ, Bool, true, false, ℤ, List, [], ◌∷◌, ◌++◌, map, Option, Some, None, option_map, option_and_then, unwrap_or, to_bits}
use Rattle.std.specs.Int.{w64, cast_unsigned}
use Rattle.std.specs.Float.{binary64}
use Rattle.std.specs.Result.{result_ok}
use Rattle.base64.specs.Engines.{standard}
use Rattle.base64.specs.GeneralPurpose.{decoded_of}
use Rattle.hex.specs.Hex as hex
use Rattle.protobuf_wire.specs.Wire.{Field, varint, fixed64, bytes}
use Rattle.protobuf_writer.specs.Writing.{message_bytes}
use Rattle.protobuf_writer.specs.Defaults.{field, text_field, number_field, fixed64_field, fixed32_field, message_in, message_field, repeated}
use Rattle.otlp_types.specs.declared.value.AnyValue.{AnyValue}
use Rattle.otlp_types.specs.declared.value.AnyValue.TheOpen.{AnyValue-F}
use Rattle.otlp_types.specs.declared.value.AnyValue.TheFolds.{fold-AnyValue}
use Rattle.otlp_types.specs.declared.value.KeyValue.{KeyValue, KeyValue-F, fold-KeyValue}
use Rattle.otlp_types.specs.declared.span.Ids.{Ids}
use Rattle.otlp_types.specs.declared.span.Status.{Status}
use Rattle.otlp_types.specs.declared.span.Event.{Event}
use Rattle.otlp_types.specs.declared.span.Link.{Link}
use Rattle.otlp_types.specs.declared.span.Span.{Span}
use Rattle.otlp_types.specs.declared.request.Resource.{Resource}
use Rattle.otlp_types.specs.declared.request.Scope.{Scope}
use Rattle.otlp_types.specs.declared.request.ScopeSpans.{ScopeSpans}
use Rattle.otlp_types.specs.declared.request.ResourceSpans.{ResourceSpans}
use Rattle.otlp_types.specs.declared.request.Request.{Request}

-- ---- kinds

-- an `int64`, an `int32` or an enumeration: 64 bits in two's complement, so that a negative one takes ten bytes
abbrev pub int_bits : ℤ → ℕ
int_bits z = cast_unsigned w64 z

abbrev pub enum_field : ℕ → ℤ → List Field
enum_field n z = number_field n (int_bits z)

-- a `bool`
abbrev pub truth_bits : Bool → ℕ
truth_bits false = 0
truth_bits true = 1

-- the bytes of a base64 text (RFC 4648, section 4, with padding and no bits left over), and of a text of hex digits
abbrev pub base64_of : List ℕ → Option (List ℕ)
base64_of text = decoded_of standard text

unfoldable pub hex_of : List ℕ → Option (List ℕ)
hex_of text = result_ok (hex.decode_of text)

-- an id, where there is one
abbrev pub id_field : ℕ → Option (List ℕ) → List Field
id_field n None = []
id_field n (Some id) = field n (bytes id) ∷ []

-- the id of the trace and of the span, where the ids are valid; of the parent, where there is one
abbrev pub trace_field : Option Ids → List Field
trace_field found = id_field 1 (option_map (λ (ids : Ids). ids.trace) found)

abbrev pub span_field : Option Ids → List Field
span_field found = id_field 2 (option_map (λ (ids : Ids). ids.span) found)

abbrev pub parent_field : Option Ids → List Field
parent_field found = id_field 4 (option_and_then (λ (ids : Ids). ids.parent) found)

-- an id that is kept as text
abbrev pub hex_field : ℕ → List ℕ → List Field
hex_field n text = text_field n (unwrap_or (hex_of text) [])

-- ---- values

-- one level, with each value inside as its fields
abbrev pub value_step : AnyValue-F (List Field) (List Field) → List Field
value_step AnyValue-F.Empty = []
value_step (AnyValue-F.Str s) = field 1 (bytes s) ∷ []
value_step (AnyValue-F.Bool b) = field 2 (varint (truth_bits b)) ∷ []
value_step (AnyValue-F.Int n) = field 3 (varint (int_bits n)) ∷ []
value_step (AnyValue-F.Double x) = field 4 (fixed64 (to_bits binary64 x)) ∷ []
value_step (AnyValue-F.Array vs) = message_in 5 (repeated 1 vs) ∷ []
value_step (AnyValue-F.KvList ps) = message_in 6 (repeated 1 ps) ∷ []
value_step (AnyValue-F.Bytes s) = field 7 (bytes (unwrap_or (base64_of s) [])) ∷ []

-- a pair, with its value as its fields
abbrev pub pair_step : KeyValue-F (List Field) (List Field) → List Field
pair_step p = text_field 1 p.key ++ message_field 2 p.value

-- an `AnyValue`
abbrev pub value_fields : AnyValue → List Field
value_fields = fold-AnyValue (List Field) (List Field) value_step pair_step

-- a `KeyValue`
abbrev pub pair_fields : KeyValue → List Field
pair_fields = fold-KeyValue (List Field) (List Field) value_step pair_step

-- attributes, in the fields of this number
abbrev pub attributes : ℕ → List KeyValue → List Field
attributes n ps = repeated n (map pair_fields ps)

-- ---- spans

-- a `Status`
abbrev pub status_fields : Status → List Field
status_fields s = text_field 2 s.message ++ enum_field 3 s.code

-- a `Span.Event`
abbrev pub event_fields : Event → List Field
event_fields e = fixed64_field 1 e.time_unix_nano ++ text_field 2 e.name ++ attributes 3 e.attributes ++ number_field 4 e.dropped_attributes_count

-- a `Span.Link`
abbrev pub link_fields : Link → List Field
link_fields l =
    hex_field 1 l.trace_id ++ hex_field 2 l.span_id ++ text_field 3 l.trace_state
    ++ attributes 4 l.attributes ++ number_field 5 l.dropped_attributes_count ++ fixed32_field 6 l.flags

-- the fields of a `Span` up to its name; those from its kind to its end; those from its attributes on
abbrev pub span_head : Span → List Field
span_head s = trace_field s.ids ++ span_field s.ids ++ text_field 3 s.trace_state ++ parent_field s.ids ++ text_field 5 s.name

abbrev pub span_times : Span → List Field
span_times s = enum_field 6 s.kind ++ fixed64_field 7 s.start_time_unix_nano ++ fixed64_field 8 s.end_time_unix_nano

abbrev pub span_tail : Span → List Field
span_tail s =
    attributes 9 s.attributes ++ number_field 10 s.dropped_attributes_count
    ++ repeated 11 (map event_fields s.events) ++ number_field 12 s.dropped_events_count
    ++ repeated 13 (map link_fields s.links) ++ number_field 14 s.dropped_links_count
    ++ message_field 15 (status_fields s.status) ++ fixed32_field 16 s.flags

-- a `Span`
abbrev pub span_fields : Span → List Field
span_fields s = span_head s ++ span_times s ++ span_tail s

-- ---- the request

-- a `Resource`
abbrev pub resource_fields : Resource → List Field
resource_fields r = attributes 1 r.attributes ++ number_field 2 r.dropped_attributes_count

-- an `InstrumentationScope`
abbrev pub scope_fields : Scope → List Field
scope_fields s = text_field 1 s.name ++ text_field 2 s.version ++ attributes 3 s.attributes ++ number_field 4 s.dropped_attributes_count

-- a `ScopeSpans`
abbrev pub scope_spans_fields : ScopeSpans → List Field
scope_spans_fields g = message_field 1 (scope_fields g.scope) ++ repeated 2 (map span_fields g.spans) ++ text_field 3 g.schema_url

-- a `ResourceSpans`
abbrev pub resource_spans_fields : ResourceSpans → List Field
resource_spans_fields g = message_field 1 (resource_fields g.resource) ++ repeated 2 (map scope_spans_fields g.scope_spans) ++ text_field 3 g.schema_url

-- an `ExportTraceServiceRequest`
abbrev pub request_fields : Request → List Field
request_fields r = repeated 1 (map resource_spans_fields r.resource_spans)

abbrev pub request_bytes : Request → List ℕ
request_bytes r = message_bytes (request_fields r)
