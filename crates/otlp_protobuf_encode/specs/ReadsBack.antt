-- What is written is read as the same request. The writers ensure it beside the bytes, message by message, for private
-- clauses; `IdsAreRead` is a condition of `encode` itself.
use Rattle.std.specs.Prelude.{◌≡◌, true, ℕ, ◌<◌, ◌^◌, List, [], length, Ok, Option, Some, None, unwrap_or, FitsSigned}
use Rattle.std.specs.Int.{w32}
use Rattle.std.specs.List.{AllByRecursion}
use Rattle.std.specs.Str.{IsUtf8}
use Rattle.hex.specs.Hex.{encode_lower}
use Rattle.protobuf_wire.specs.Wire.{Field}
use Rattle.protobuf_writer.specs.Writing.{message_bytes}
use Rattle.span_ids.specs.Id.{id_from}
use Rattle.otlp_types.specs.declared.value.AnyValue.{AnyValue, Empty}
use Rattle.otlp_types.specs.declared.value.KeyValue.{KeyValue}
use Rattle.otlp_types.specs.declared.span.Ids.{Ids}
use Rattle.otlp_types.specs.declared.span.Status.{Status}
use Rattle.otlp_types.specs.declared.span.Event.{Event}
use Rattle.otlp_types.specs.declared.span.Link.{Link}
use Rattle.otlp_types.specs.declared.span.Span.{Span}
use Rattle.otlp_types.specs.declared.request.Resource.{Resource}
use Rattle.otlp_types.specs.declared.request.Scope.{Scope}
use Rattle.otlp_types.specs.declared.request.ScopeSpans.{ScopeSpans}
use Rattle.otlp_types.specs.declared.request.ResourceSpans.{ResourceSpans}
use Rattle.otlp_types.specs.declared.request.Request.{Request}
use Rattle.otlp_protobuf.specs.declared.attributes.AttributesPart.{AttributesPart}
use Rattle.otlp_protobuf.specs.declared.request.ScopeParts.{ScopeParts}
use Rattle.otlp_protobuf.specs.Kinds.{Read, merged}
use Rattle.otlp_protobuf.specs.Values.{value_to, pair_of, most_levels}
use Rattle.otlp_protobuf.specs.Nesting.{NestsAtMost, AttributeNests, AttributesNest, EventNests, LinkNests, SpanNests, ScopeSpansNest, ResourceSpansNest, RequestNests}
use Rattle.otlp_protobuf.specs.Reading.{status_step, no_status, event, link, span, resource_step, no_attributes, scope_step, no_scope_parts, scope_spans, resource_spans, request_of}
use Rattle.otlp_protobuf_encode.specs.Writing.{hex_of, value_fields, pair_fields, status_fields, event_fields, link_fields, span_fields, resource_fields, scope_fields, scope_spans_fields, resource_spans_fields, request_fields}

-- ---- ids

-- a span's ids are ids, and so is its parent's, if it has one; each value of these types is one
abbrev pub ParentIsId : Option (List ℕ) → Type 0
ParentIsId None = Unit {0}
ParentIsId (Some id) = id_from 8 id ≡ Some id

abbrev pub AreIds : Option Ids → Type 0
AreIds None = Unit {0}
AreIds (Some ids) = (id_from 16 ids.trace ≡ Some ids.trace) × (id_from 8 ids.span ≡ Some ids.span) × ParentIsId ids.parent

-- a text that its bytes are written as: lower-case hex digits, two for each byte
abbrev pub IsLower : List ℕ → Type 0
IsLower text = encode_lower (unwrap_or (hex_of text) []) ≡ text

abbrev pub LinkIdsRead : Link → Type 0
LinkIdsRead l = IsLower l.trace_id × IsLower l.span_id

abbrev pub SpanIdsRead : Span → Type 0
SpanIdsRead s = AreIds s.ids × AllByRecursion LinkIdsRead s.links

abbrev pub ScopeIdsRead : ScopeSpans → Type 0
ScopeIdsRead g = AllByRecursion SpanIdsRead g.spans

abbrev pub ResourceIdsRead : ResourceSpans → Type 0
ResourceIdsRead g = AllByRecursion ScopeIdsRead g.scope_spans

-- the ids of all spans are ids, and those of all links lower-case hex digits
abbrev pub IdsAreRead : Request → Type 0
IdsAreRead r = AllByRecursion ResourceIdsRead r.resource_spans

-- ---- messages

-- what is written of a message has a count of 64 bits
abbrev pub HasRoom : List Field → Type 0
HasRoom fs = length (message_bytes fs) < 2 ^ 64

-- a value, within any number of levels that it nests in
pub record ValueReadsBack (v : AnyValue) : Type 0 where
  pub again : (n : ℕ) → NestsAtMost n v → HasRoom (value_fields v) → value_to n Empty (message_bytes (value_fields v)) ≡ Ok v

-- a pair, within any number of levels that its value nests in
pub record PairReadsBack (p : KeyValue) : Type 0 where
  pub again : (n : ℕ) → AttributeNests n p → HasRoom (pair_fields p) → pair_of (value_to n) (message_bytes (pair_fields p)) ≡ Ok p

-- a message of any kind: its fields are `fields x`, and under a condition they are read by `meaning` as x
pub record ReadsBack {A : Type 0} (fields : A → List Field) (condition : A → Type 0) (meaning : List ℕ → Read A) (x : A) : Type 0 where
  pub again : condition x → HasRoom (fields x) → meaning (message_bytes (fields x)) ≡ Ok x

abbrev pub Always : {A : Type 0} → A → Type 0
Always x = Unit {0}

-- a `Status`
abbrev pub StatusReadsBack : Status → Type 0
StatusReadsBack = ReadsBack status_fields Always (merged status_step no_status)

-- a `Span.Event`
abbrev pub EventReadsBack : Event → Type 0
EventReadsBack = ReadsBack event_fields (EventNests most_levels) (event true)

-- a `Span.Link`
abbrev pub LinkReads : Link → Type 0
LinkReads l = LinkNests most_levels l × LinkIdsRead l

abbrev pub LinkReadsBack : Link → Type 0
LinkReadsBack = ReadsBack link_fields LinkReads (link true)

-- a `Span`
abbrev pub SpanReads : Span → Type 0
SpanReads s = SpanNests most_levels s × SpanIdsRead s

abbrev pub SpanReadsBack : Span → Type 0
SpanReadsBack = ReadsBack span_fields SpanReads (span true)

-- attributes that were read, and the sender's count
abbrev pub attributes_read : List KeyValue → ℕ → AttributesPart
attributes_read ps n = record { kept = ps; discarded = 0; counted = n }

-- a `Resource`, as a part of a message
pub record ResourceReadsBack (r : Resource) : Type 0 where
  pub again : AttributesNest most_levels r.attributes → HasRoom (resource_fields r) → merged (resource_step true) no_attributes (message_bytes (resource_fields r)) ≡ Ok (attributes_read r.attributes r.dropped_attributes_count)
  pub count : r.dropped_attributes_count < 2 ^ 32

-- an `InstrumentationScope`, as a part of a message
abbrev pub scope_read : Scope → ScopeParts
scope_read s = record { name = s.name; version = s.version; rest = attributes_read s.attributes s.dropped_attributes_count }

pub record ScopeReadsBack (s : Scope) : Type 0 where
  pub again : AttributesNest most_levels s.attributes → HasRoom (scope_fields s) → merged (scope_step true) no_scope_parts (message_bytes (scope_fields s)) ≡ Ok (scope_read s)
  pub count : s.dropped_attributes_count < 2 ^ 32

-- a `ScopeSpans`
abbrev pub ScopeSpansRead : ScopeSpans → Type 0
ScopeSpansRead g = ScopeSpansNest most_levels g × ScopeIdsRead g

abbrev pub ScopeSpansReadBack : ScopeSpans → Type 0
ScopeSpansReadBack = ReadsBack scope_spans_fields ScopeSpansRead (scope_spans true)

-- a `ResourceSpans`
abbrev pub ResourceSpansRead : ResourceSpans → Type 0
ResourceSpansRead g = ResourceSpansNest most_levels g × ResourceIdsRead g

abbrev pub ResourceSpansReadBack : ResourceSpans → Type 0
ResourceSpansReadBack = ReadsBack resource_spans_fields ResourceSpansRead (resource_spans true)

-- a request
abbrev pub RequestReads : Request → Type 0
RequestReads r = RequestNests most_levels r × IdsAreRead r

abbrev pub RequestReadsBack : Request → Type 0
RequestReadsBack = ReadsBack request_fields RequestReads (request_of true)

-- ---- the parts of a span

pub record HeadHolds (s : Span) : Type 0 where
  pub trace_state : IsUtf8 s.trace_state
  pub name : IsUtf8 s.name

pub record TimesHold (s : Span) : Type 0 where
  pub kind : FitsSigned w32 s.kind
  pub start : s.start_time_unix_nano < 2 ^ 64
  pub end : s.end_time_unix_nano < 2 ^ 64

pub record TailHolds (s : Span) : Type 0 where
  pub attributes : AllByRecursion PairReadsBack s.attributes
  pub dropped_attributes : s.dropped_attributes_count < 2 ^ 32
  pub events : AllByRecursion EventReadsBack s.events
  pub dropped_events : s.dropped_events_count < 2 ^ 32
  pub links : AllByRecursion LinkReadsBack s.links
  pub dropped_links : s.dropped_links_count < 2 ^ 32
  pub status : StatusReadsBack s.status
  pub flags : s.flags < 2 ^ 32
