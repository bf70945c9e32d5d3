-- Why a request has no bytes: a text that stands for bytes and isn't theirs. The first in the order of writing is told.
use Rattle.std.specs.Prelude.{◌≡◌, ℕ, List, [], ◌∷◌, map, Option, Some, None}
use Rattle.otlp_types.specs.declared.value.AnyValue.{AnyValue}
use Rattle.otlp_types.specs.declared.value.AnyValue.TheOpen.{AnyValue-F}
use Rattle.otlp_types.specs.declared.value.AnyValue.TheFolds.{fold-AnyValue}
use Rattle.otlp_types.specs.declared.value.KeyValue.{KeyValue, KeyValue-F, fold-KeyValue}
use Rattle.otlp_types.specs.declared.span.Event.{Event}
use Rattle.otlp_types.specs.declared.span.Link.{Link}
use Rattle.otlp_types.specs.declared.span.Span.{Span}
use Rattle.otlp_types.specs.declared.request.Resource.{Resource}
use Rattle.otlp_types.specs.declared.request.Scope.{Scope}
use Rattle.otlp_types.specs.declared.request.ScopeSpans.{ScopeSpans}
use Rattle.otlp_types.specs.declared.request.ResourceSpans.{ResourceSpans}
use Rattle.otlp_types.specs.declared.request.Request.{Request}
use Rattle.otlp_protobuf_encode.specs.declared.encode_error.EncodeError.{EncodeError}
use Rattle.otlp_protobuf_encode.specs.declared.encode_error.EncodeError.TheVariants.{NotBase64, NotHex, NoMemory}
use Rattle.otlp_protobuf_encode.specs.Writing.{base64_of, hex_of}

-- a fault, or none
abbrev pub Fault : Type 0
Fault = Option EncodeError

-- of two the first
abbrev pub or_then : Fault → Fault → Fault
or_then (Some e) g = Some e
or_then None g = g

-- of many the first
abbrev pub first : List Fault → Fault
first [] = None
first (e ∷ es) = or_then e (first es)

-- there are no such bytes
abbrev pub unless_some : EncodeError → Option (List ℕ) → Fault
unless_some e None = Some e
unless_some e (Some s) = None

abbrev pub base64_fault : List ℕ → Fault
base64_fault text = unless_some NotBase64 (base64_of text)

abbrev pub hex_fault : List ℕ → Fault
hex_fault text = unless_some NotHex (hex_of text)

-- ---- values

abbrev pub value_fault_step : AnyValue-F Fault Fault → Fault
value_fault_step AnyValue-F.Empty = None
value_fault_step (AnyValue-F.Str s) = None
value_fault_step (AnyValue-F.Bool b) = None
value_fault_step (AnyValue-F.Int n) = None
value_fault_step (AnyValue-F.Double x) = None
value_fault_step (AnyValue-F.Array vs) = first vs
value_fault_step (AnyValue-F.KvList ps) = first ps
value_fault_step (AnyValue-F.Bytes s) = base64_fault s

abbrev pub pair_fault_step : KeyValue-F Fault Fault → Fault
pair_fault_step p = p.value

-- a value whose bytes, at any depth, are no base64
abbrev pub value_fault : AnyValue → Fault
value_fault = fold-AnyValue Fault Fault value_fault_step pair_fault_step

abbrev pub pair_fault : KeyValue → Fault
pair_fault = fold-KeyValue Fault Fault value_fault_step pair_fault_step

abbrev pub attributes_fault : List KeyValue → Fault
attributes_fault ps = first (map pair_fault ps)

-- ---- messages

abbrev pub event_fault : Event → Fault
event_fault e = attributes_fault e.attributes

-- its ids, and then its attributes
abbrev pub link_fault : Link → Fault
link_fault l = or_then (hex_fault l.trace_id) (or_then (hex_fault l.span_id) (attributes_fault l.attributes))

abbrev pub span_fault : Span → Fault
span_fault s = or_then (attributes_fault s.attributes) (or_then (first (map event_fault s.events)) (first (map link_fault s.links)))

abbrev pub resource_fault : Resource → Fault
resource_fault r = attributes_fault r.attributes

abbrev pub scope_fault : Scope → Fault
scope_fault s = attributes_fault s.attributes

abbrev pub scope_spans_fault : ScopeSpans → Fault
scope_spans_fault g = or_then (scope_fault g.scope) (first (map span_fault g.spans))

abbrev pub resource_spans_fault : ResourceSpans → Fault
resource_spans_fault g = or_then (resource_fault g.resource) (first (map scope_spans_fault g.scope_spans))

abbrev pub request_fault : Request → Fault
request_fault r = first (map resource_spans_fault r.resource_spans)

-- an error is the fault that is there; that memory was refused says nothing
abbrev pub Tells : Fault → EncodeError → Type 0
Tells fault NotBase64 = fault ≡ Some NotBase64
Tells fault NotHex = fault ≡ Some NotHex
Tells fault NoMemory = Unit {0}
