-- No value of a request that is read nests more than 29 levels deep.
-- For decode.
use Rattle.std.proofs.Common.{◌≡◌, ℕ, List, [], ◌∷◌, ◌++◌, Bool, not, ◌||◌, true, false, cond, Ok, Err, subst}
use Rattle.std.specs.Prelude.{◌==◌}
use Rattle.std.specs.List.{All}
use Rattle.std.proofs.lemmas.List.Elements.{All-append, All-cons, All-nil}
use Rattle.protobuf_wire.specs.Wire.{Value, varint, fixed64, bytes, fixed32}
use Rattle.span_ids.specs.Id.{id_from}
use Rattle.otlp_types.specs.HoldsDouble.{is_of_double}
use Rattle.otlp_types.specs.declared.value.KeyValue.{KeyValue}
use Rattle.otlp_types.specs.declared.span.Event.{Event}
use Rattle.otlp_types.specs.declared.span.Link.{Link}
use Rattle.otlp_types.specs.declared.span.Span.{Span}
use Rattle.otlp_types.specs.declared.request.ScopeSpans.{ScopeSpans}
use Rattle.otlp_types.specs.declared.request.ResourceSpans.{ResourceSpans}
use Rattle.otlp_types.specs.declared.request.Request.{Request}
use Rattle.otlp_protobuf.specs.declared.attributes.AttributesPart.{AttributesPart}
use Rattle.otlp_protobuf.specs.declared.span.EventParts.{EventParts}
use Rattle.otlp_protobuf.specs.declared.span.LinkParts.{LinkParts}
use Rattle.otlp_protobuf.specs.declared.span.SpanParts.{SpanParts}
use Rattle.otlp_protobuf.specs.declared.request.ScopeParts.{ScopeParts}
use Rattle.otlp_protobuf.specs.declared.request.ScopeSpansParts.{ScopeSpansParts}
use Rattle.otlp_protobuf.specs.declared.request.ResourceSpansParts.{ResourceSpansParts}
use Rattle.otlp_protobuf.specs.Kinds.{Read, text, int32, uint32, merged}
use Rattle.otlp_protobuf.specs.Values.{pair_of, value_to, most_levels}
use Rattle.otlp_protobuf.specs.Reading.{with_last, no_attributes, with_attribute, attribute, status_step, no_event, event_by, event_step, whole_event, event, no_link, link_by, link_step, whole_link, link, no_parts, parent_from, span_bytes, span_by, span_step, whole_span, span, resource_by, resource_step, scope_by, scope_step, no_scope_spans, scope_spans_by, scope_spans_step, whole_scope_spans, scope_spans, no_resource_spans, resource_spans_by, resource_spans_step, whole_resource_spans, resource_spans, no_request, request_by, request_step, request_of}
use Rattle.otlp_protobuf.specs.Nesting.{AttributeNests, AttributesNest, EventNests, LinkNests, SpanNests, ScopeSpansNest, ResourceSpansNest, RequestNests}
use Rattle.otlp_protobuf.proofs.Yields.{Yields, yields_if, yields_map, yields_all, yields_merged, yields_message, yields_last}
use Rattle.otlp_protobuf.proofs.ValuesNest.{pair_nests, value_nests}

-- ---- attributes

abbrev Nest : AttributesPart → Type 0
Nest a = AttributesNest most_levels a.kept

none_nest : Nest no_attributes
none_nest = All-nil (AttributeNests most_levels)

one_more : (b : Bool) (a : AttributesPart) (p : KeyValue) (d : ℕ) → Nest a → AttributeNests most_levels p
    → Nest (cond b (record a { kept = a.kept ++ p ∷ [] }) (record a { discarded = d }))
one_more true a p d h g = All-append (AttributeNests most_levels) a.kept (p ∷ []) h (All-cons (AttributeNests most_levels) p [] g (All-nil (AttributeNests most_levels)))
one_more false a p d h g = h

with_pair : (keeps_doubles : Bool) (a : AttributesPart) (r : Read KeyValue) → Nest a → Yields (AttributeNests most_levels) r → Yields (λ p. Nest (with_attribute keeps_doubles a p)) r
with_pair keeps_doubles a (Ok p) h g = one_more (keeps_doubles || not (is_of_double p)) a p _ h g
with_pair keeps_doubles a (Err e) h g = tt

attribute_nests : (keeps_doubles : Bool) (a : AttributesPart) (s : List ℕ) → Nest a → Yields Nest (attribute keeps_doubles a s)
attribute_nests keeps_doubles a s h =
    let r : Read KeyValue = pair_of (value_to most_levels) s in
    yields_map Nest (with_attribute keeps_doubles a) r (with_pair keeps_doubles a r h (pair_nests most_levels (value_to most_levels) (value_nests most_levels) s))

-- ---- events and links

abbrev EventHas : EventParts → Type 0
EventHas p = Nest p.rest

event_with : (keeps_doubles : Bool) (p : EventParts) (n : ℕ) (v : Value) → EventHas p → Yields EventHas (event_by keeps_doubles p n v)
event_with keeps_doubles p n (bytes s) h =
    yields_if EventHas (n == 2) _ _ (yields_all EventHas (λ t. record p { name = t }) (text s) (λ t. h))
    (yields_if EventHas (n == 3) _ _ (yields_map EventHas (λ a. record p { rest = a }) (attribute keeps_doubles p.rest s) (attribute_nests keeps_doubles p.rest s h)) h)
event_with keeps_doubles p n (varint k) h = yields_if EventHas (n == 4) (Ok (record p { rest = record (p.rest) { counted = uint32 k } })) (Ok p) h h
event_with keeps_doubles p n (fixed64 k) h = yields_if EventHas (n == 1) (Ok (record p { time_unix_nano = k })) (Ok p) h h
event_with keeps_doubles p n (fixed32 k) h = h

event_nests : (keeps_doubles : Bool) (s : List ℕ) → Yields (EventNests most_levels) (event keeps_doubles s)
event_nests keeps_doubles s =
    yields_message EventHas (EventNests most_levels) (event_step keeps_doubles) no_event whole_event s (λ p f h. event_with keeps_doubles p f.number f.value h) none_nest (λ p h. h)

abbrev LinkHas : LinkParts → Type 0
LinkHas p = Nest p.rest

link_with : (keeps_doubles : Bool) (p : LinkParts) (n : ℕ) (v : Value) → LinkHas p → Yields LinkHas (link_by keeps_doubles p n v)
link_with keeps_doubles p n (bytes s) h =
    yields_if LinkHas (n == 1) (Ok (record p { trace_id = _ })) _ h
    (yields_if LinkHas (n == 2) (Ok (record p { span_id = _ })) _ h
    (yields_if LinkHas (n == 3) _ _ (yields_all LinkHas (λ t. record p { trace_state = t }) (text s) (λ t. h))
    (yields_if LinkHas (n == 4) _ _ (yields_map LinkHas (λ a. record p { rest = a }) (attribute keeps_doubles p.rest s) (attribute_nests keeps_doubles p.rest s h)) h)))
link_with keeps_doubles p n (varint k) h = yields_if LinkHas (n == 5) (Ok (record p { rest = record (p.rest) { counted = uint32 k } })) (Ok p) h h
link_with keeps_doubles p n (fixed64 k) h = h
link_with keeps_doubles p n (fixed32 k) h = yields_if LinkHas (n == 6) (Ok (record p { flags = k })) (Ok p) h h

link_nests : (keeps_doubles : Bool) (s : List ℕ) → Yields (LinkNests most_levels) (link keeps_doubles s)
link_nests keeps_doubles s =
    yields_message LinkHas (LinkNests most_levels) (link_step keeps_doubles) no_link whole_link s (λ p f h. link_with keeps_doubles p f.number f.value h) none_nest (λ p h. h)

-- ---- spans

abbrev SpanHas : SpanParts → Type 0
SpanHas p = Nest p.rest × All (EventNests most_levels) p.span.events × All (LinkNests most_levels) p.span.links

with_attributes : (p : SpanParts) (r : Read AttributesPart) → SpanHas p → Yields Nest r → Yields (λ a. SpanHas (record p { rest = a })) r
with_attributes p (Ok a) h g = (g, h.1, h.2)
with_attributes p (Err e) h g = tt

with_events : (p : SpanParts) (r : Read (List Event)) → SpanHas p → Yields (All (EventNests most_levels)) r → Yields (λ es. SpanHas (record p { span = record (p.span) { events = es } })) r
with_events p (Ok es) h g = (h.0, g, h.2)
with_events p (Err e) h g = tt

with_links : (p : SpanParts) (r : Read (List Link)) → SpanHas p → Yields (All (LinkNests most_levels)) r → Yields (λ ls. SpanHas (record p { span = record (p.span) { links = ls } })) r
with_links p (Ok ls) h g = (h.0, h.1, g)
with_links p (Err e) h g = tt

span_with_bytes : (keeps_doubles : Bool) (p : SpanParts) (n : ℕ) (s : List ℕ) → SpanHas p → Yields SpanHas (span_bytes keeps_doubles p n s)
span_with_bytes keeps_doubles p n s h =
    let es : Read (List Event) = with_last p.span.events (event keeps_doubles s) in
    let ls : Read (List Link) = with_last p.span.links (link keeps_doubles s) in
    yields_if SpanHas (n == 1) (Ok (record p { trace = id_from 16 s })) _ h
    (yields_if SpanHas (n == 2) (Ok (record p { id = id_from 8 s })) _ h
    (yields_if SpanHas (n == 3) _ _ (yields_all SpanHas (λ t. record p { span = record (p.span) { trace_state = t } }) (text s) (λ t. h))
    (yields_if SpanHas (n == 4) (Ok (record p { parent = parent_from s })) _ h
    (yields_if SpanHas (n == 5) _ _ (yields_all SpanHas (λ t. record p { span = record (p.span) { name = t } }) (text s) (λ t. h))
    (yields_if SpanHas (n == 9) _ _
    (yields_map SpanHas (λ a. record p { rest = a }) (attribute keeps_doubles p.rest s) (with_attributes p (attribute keeps_doubles p.rest s) h (attribute_nests keeps_doubles p.rest s h.0)))
    (yields_if SpanHas (n == 11) _ _
    (yields_map SpanHas (λ es. record p { span = record (p.span) { events = es } }) es (with_events p es h (yields_last (EventNests most_levels) p.span.events (event keeps_doubles s) h.1 (event_nests keeps_doubles s))))
    (yields_if SpanHas (n == 13) _ _
    (yields_map SpanHas (λ ls. record p { span = record (p.span) { links = ls } }) ls (with_links p ls h (yields_last (LinkNests most_levels) p.span.links (link keeps_doubles s) h.2 (link_nests keeps_doubles s))))
    (yields_if SpanHas (n == 15) _ _ (yields_all SpanHas (λ st. record p { span = record (p.span) { status = st } }) (merged status_step p.span.status s) (λ st. h)) h))))))))

kept_if : (b : Bool) (p q : SpanParts) → SpanHas p → SpanHas q → SpanHas (cond b p q)
kept_if true p q h g = h
kept_if false p q h g = g

span_with : (keeps_doubles : Bool) (p : SpanParts) (n : ℕ) (v : Value) → SpanHas p → Yields SpanHas (span_by keeps_doubles p n v)
span_with keeps_doubles p n (bytes s) h = span_with_bytes keeps_doubles p n s h
span_with keeps_doubles p n (varint k) h =
    kept_if (n == 6) (record p { span = record (p.span) { kind = int32 k } }) _ h
    (kept_if (n == 10) (record p { rest = record (p.rest) { counted = uint32 k } }) _ h
    (kept_if (n == 12) (record p { span = record (p.span) { dropped_events_count = uint32 k } }) _ h
    (kept_if (n == 14) (record p { span = record (p.span) { dropped_links_count = uint32 k } }) p h h)))
span_with keeps_doubles p n (fixed64 k) h =
    kept_if (n == 7) (record p { span = record (p.span) { start_time_unix_nano = k } }) _ h
    (kept_if (n == 8) (record p { span = record (p.span) { end_time_unix_nano = k } }) p h h)
span_with keeps_doubles p n (fixed32 k) h = kept_if (n == 16) (record p { span = record (p.span) { flags = k } }) p h h

no_parts_nest : SpanHas no_parts
no_parts_nest = (none_nest, All-nil (EventNests most_levels), All-nil (LinkNests most_levels))

span_nests : (keeps_doubles : Bool) (s : List ℕ) → Yields (SpanNests most_levels) (span keeps_doubles s)
span_nests keeps_doubles s =
    yields_message SpanHas (SpanNests most_levels) (span_step keeps_doubles) no_parts whole_span s (λ p f h. span_with keeps_doubles p f.number f.value h) no_parts_nest
    (λ p h. record { attributes = h.0; events = h.1; links = h.2 })

-- ---- resources and scopes

resource_with : (keeps_doubles : Bool) (p : AttributesPart) (n : ℕ) (v : Value) → Nest p → Yields Nest (resource_by keeps_doubles p n v)
resource_with keeps_doubles p n (bytes s) h = yields_if Nest (n == 1) (attribute keeps_doubles p s) (Ok p) (attribute_nests keeps_doubles p s h) h
resource_with keeps_doubles p n (varint k) h = yields_if Nest (n == 2) (Ok (record p { counted = uint32 k })) (Ok p) h h
resource_with keeps_doubles p n (fixed64 k) h = h
resource_with keeps_doubles p n (fixed32 k) h = h

abbrev ScopeHas : ScopeParts → Type 0
ScopeHas p = Nest p.rest

scope_with : (keeps_doubles : Bool) (p : ScopeParts) (n : ℕ) (v : Value) → ScopeHas p → Yields ScopeHas (scope_by keeps_doubles p n v)
scope_with keeps_doubles p n (bytes s) h =
    yields_if ScopeHas (n == 1) _ _ (yields_all ScopeHas (λ t. record p { name = t }) (text s) (λ t. h))
    (yields_if ScopeHas (n == 2) _ _ (yields_all ScopeHas (λ t. record p { version = t }) (text s) (λ t. h))
    (yields_if ScopeHas (n == 3) _ _ (yields_map ScopeHas (λ a. record p { rest = a }) (attribute keeps_doubles p.rest s) (attribute_nests keeps_doubles p.rest s h)) h))
scope_with keeps_doubles p n (varint k) h = yields_if ScopeHas (n == 4) (Ok (record p { rest = record (p.rest) { counted = uint32 k } })) (Ok p) h h
scope_with keeps_doubles p n (fixed64 k) h = h
scope_with keeps_doubles p n (fixed32 k) h = h

-- ---- the spans of a scope

abbrev ScopeSpansHas : ScopeSpansParts → Type 0
ScopeSpansHas p = ScopeHas p.scope × All (SpanNests most_levels) p.spans

with_scope : (p : ScopeSpansParts) (r : Read ScopeParts) → ScopeSpansHas p → Yields ScopeHas r → Yields (λ x. ScopeSpansHas (record p { scope = x })) r
with_scope p (Ok x) h g = (g, h.1)
with_scope p (Err e) h g = tt

with_spans : (p : ScopeSpansParts) (r : Read (List Span)) → ScopeSpansHas p → Yields (All (SpanNests most_levels)) r → Yields (λ xs. ScopeSpansHas (record p { spans = xs })) r
with_spans p (Ok xs) h g = (h.0, g)
with_spans p (Err e) h g = tt

scope_spans_with : (keeps_doubles : Bool) (p : ScopeSpansParts) (n : ℕ) (v : Value) → ScopeSpansHas p → Yields ScopeSpansHas (scope_spans_by keeps_doubles p n v)
scope_spans_with keeps_doubles p n (bytes s) h =
    let x : Read ScopeParts = merged (scope_step keeps_doubles) p.scope s in
    let xs : Read (List Span) = with_last p.spans (span keeps_doubles s) in
    yields_if ScopeSpansHas (n == 1) _ _
    (yields_map ScopeSpansHas (λ x. record p { scope = x }) x
    (with_scope p x h (yields_merged ScopeHas (scope_step keeps_doubles) p.scope s (λ p f h. scope_with keeps_doubles p f.number f.value h) h.0)))
    (yields_if ScopeSpansHas (n == 2) _ _
    (yields_map ScopeSpansHas (λ xs. record p { spans = xs }) xs (with_spans p xs h (yields_last (SpanNests most_levels) p.spans (span keeps_doubles s) h.1 (span_nests keeps_doubles s))))
    (yields_if ScopeSpansHas (n == 3) _ _ (yields_all ScopeSpansHas (λ t. record p { schema_url = t }) (text s) (λ t. h)) h))
scope_spans_with keeps_doubles p n (varint k) h = h
scope_spans_with keeps_doubles p n (fixed64 k) h = h
scope_spans_with keeps_doubles p n (fixed32 k) h = h

scope_spans_nest : (keeps_doubles : Bool) (s : List ℕ) → Yields (ScopeSpansNest most_levels) (scope_spans keeps_doubles s)
scope_spans_nest keeps_doubles s =
    yields_message ScopeSpansHas (ScopeSpansNest most_levels) (scope_spans_step keeps_doubles) no_scope_spans whole_scope_spans s (λ p f h. scope_spans_with keeps_doubles p f.number f.value h)
    (none_nest, All-nil (SpanNests most_levels)) (λ p h. record { attributes = h.0; spans = h.1 })

-- ---- the spans of a resource

abbrev ResourceSpansHas : ResourceSpansParts → Type 0
ResourceSpansHas p = Nest p.resource × All (ScopeSpansNest most_levels) p.scope_spans

with_resource : (p : ResourceSpansParts) (r : Read AttributesPart) → ResourceSpansHas p → Yields Nest r → Yields (λ x. ResourceSpansHas (record p { resource = x })) r
with_resource p (Ok x) h g = (g, h.1)
with_resource p (Err e) h g = tt

with_scope_spans : (p : ResourceSpansParts) (r : Read (List ScopeSpans)) → ResourceSpansHas p → Yields (All (ScopeSpansNest most_levels)) r → Yields (λ xs. ResourceSpansHas (record p { scope_spans = xs })) r
with_scope_spans p (Ok xs) h g = (h.0, g)
with_scope_spans p (Err e) h g = tt

resource_spans_with : (keeps_doubles : Bool) (p : ResourceSpansParts) (n : ℕ) (v : Value) → ResourceSpansHas p → Yields ResourceSpansHas (resource_spans_by keeps_doubles p n v)
resource_spans_with keeps_doubles p n (bytes s) h =
    let x : Read AttributesPart = merged (resource_step keeps_doubles) p.resource s in
    let xs : Read (List ScopeSpans) = with_last p.scope_spans (scope_spans keeps_doubles s) in
    yields_if ResourceSpansHas (n == 1) _ _
    (yields_map ResourceSpansHas (λ x. record p { resource = x }) x
    (with_resource p x h (yields_merged Nest (resource_step keeps_doubles) p.resource s (λ p f h. resource_with keeps_doubles p f.number f.value h) h.0)))
    (yields_if ResourceSpansHas (n == 2) _ _
    (yields_map ResourceSpansHas (λ xs. record p { scope_spans = xs }) xs
    (with_scope_spans p xs h (yields_last (ScopeSpansNest most_levels) p.scope_spans (scope_spans keeps_doubles s) h.1 (scope_spans_nest keeps_doubles s))))
    (yields_if ResourceSpansHas (n == 3) _ _ (yields_all ResourceSpansHas (λ t. record p { schema_url = t }) (text s) (λ t. h)) h))
resource_spans_with keeps_doubles p n (varint k) h = h
resource_spans_with keeps_doubles p n (fixed64 k) h = h
resource_spans_with keeps_doubles p n (fixed32 k) h = h

resource_spans_nest : (keeps_doubles : Bool) (s : List ℕ) → Yields (ResourceSpansNest most_levels) (resource_spans keeps_doubles s)
resource_spans_nest keeps_doubles s =
    yields_message ResourceSpansHas (ResourceSpansNest most_levels) (resource_spans_step keeps_doubles) no_resource_spans whole_resource_spans s
    (λ p f h. resource_spans_with keeps_doubles p f.number f.value h) (none_nest, All-nil (ScopeSpansNest most_levels)) (λ p h. record { attributes = h.0; scope_spans = h.1 })

-- ---- requests

request_with : (keeps_doubles : Bool) (p : Request) (n : ℕ) (v : Value) → RequestNests most_levels p → Yields (RequestNests most_levels) (request_by keeps_doubles p n v)
request_with keeps_doubles p n (bytes s) h =
    let xs : Read (List ResourceSpans) = with_last p.resource_spans (resource_spans keeps_doubles s) in
    yields_if (RequestNests most_levels) (n == 1) _ _
    (yields_map (RequestNests most_levels) (λ xs. record { resource_spans = xs }) xs
    (yields_last (ResourceSpansNest most_levels) p.resource_spans (resource_spans keeps_doubles s) h (resource_spans_nest keeps_doubles s))) h
request_with keeps_doubles p n (varint k) h = h
request_with keeps_doubles p n (fixed64 k) h = h
request_with keeps_doubles p n (fixed32 k) h = h

request_yields : (keeps_doubles : Bool) (s : List ℕ) → Yields (RequestNests most_levels) (request_of keeps_doubles s)
request_yields keeps_doubles s =
    yields_merged (RequestNests most_levels) (request_step keeps_doubles) no_request s (λ p f h. request_with keeps_doubles p f.number f.value h) (All-nil (ResourceSpansNest most_levels))

pub request_nests : (keeps_doubles : Bool) (s : List ℕ) (r : Request) → request_of keeps_doubles s ≡ Ok r → RequestNests most_levels r
request_nests keeps_doubles s r e = let P : Read Request → Type 0 = Yields (RequestNests most_levels) in subst P e (request_yields keeps_doubles s)
