-- Requests that are written are read as themselves.
-- For the clauses `back` of request.rt.
use Rattle.std.proofs.Common.{◌≡◌, ◌<◌, ◌^◌, List, [], ◌∷◌, ◌++◌, map, true, Ok, Err, refl, ◌∙◌, ap, lit<}
use Rattle.std.specs.List.{All, AllByRecursion}
use Rattle.std.specs.Str.{IsUtf8}
use Rattle.protobuf_writer.specs.Defaults.{text_field, number_field, message_field, repeated}
use Rattle.std.proofs.lemmas.List.Elements.{All-head, All-tail}
use Rattle.otlp_types.specs.declared.span.Span.{Span}
use Rattle.otlp_types.specs.declared.request.Resource.{Resource}
use Rattle.otlp_types.specs.declared.request.Scope.{Scope}
use Rattle.otlp_types.specs.declared.request.ScopeSpans.{ScopeSpans}
use Rattle.otlp_types.specs.declared.request.ResourceSpans.{ResourceSpans}
use Rattle.otlp_types.specs.declared.request.Request.{Request}
use Rattle.otlp_protobuf.specs.declared.request.ScopeParts.{ScopeParts}
use Rattle.otlp_protobuf.specs.declared.request.ScopeSpansParts.{ScopeSpansParts}
use Rattle.otlp_protobuf.specs.declared.request.ResourceSpansParts.{ResourceSpansParts}
use Rattle.otlp_protobuf.specs.Kinds.{Read, map_read, merged, merged_in}
use Rattle.otlp_protobuf.specs.Values.{pair_of, value_to, most_levels}
use Rattle.otlp_protobuf.specs.Nesting.{SpanNests, ScopeSpansNest, ResourceSpansNest}
use Rattle.otlp_protobuf.specs.Reading.{with_attribute, with_last, span, resource_step, no_attributes, scope_step, no_scope_parts, scope_spans_step, no_scope_spans, whole_scope_spans, scope_spans, resource_spans_step, no_resource_spans, whole_resource_spans, resource_spans, request_step, no_request}
use Rattle.otlp_protobuf_encode.specs.Writing.{attributes, span_fields, resource_fields, scope_fields, scope_spans_fields, resource_spans_fields, request_fields}
use Rattle.otlp_protobuf_encode.specs.ReadsBack.{PairReadsBack, SpanIdsRead, SpanReadsBack, ScopeIdsRead, ResourceIdsRead, attributes_read, ResourceReadsBack, scope_read, ScopeReadsBack, ScopeSpansReadBack, ResourceSpansReadBack, RequestReadsBack}
use Rattle.otlp_protobuf_encode.proofs.FieldsBack.{after, merged-again, text-back, count-back, EachRead, list-back, message-back}
use Rattle.otlp_protobuf_encode.proofs.MessagesBack.{attributes-back, none_dropped}

-- ---- `Resource`, `InstrumentationScope`

same_map : {A : Type 0} (r : Read A) → r ≡ map_read (λ a. a) r
same_map (Ok x) = refl
same_map (Err e) = refl

pub resource-back : (r : Resource) → AllByRecursion PairReadsBack r.attributes → r.dropped_attributes_count < 2 ^ 32 → ResourceReadsBack r
resource-back r back small = record {
  again = λ nest room.
      merged-again (resource_step true) no_attributes (attributes_read r.attributes r.dropped_attributes_count) (resource_fields r)
      (after (resource_step true) no_attributes (attributes_read r.attributes 0) (attributes_read r.attributes r.dropped_attributes_count) (attributes 1 r.attributes) (number_field 2 r.dropped_attributes_count)
      (attributes-back (resource_step true) (λ a. a) 1 r.attributes (lit< tt, lit< tt) nest back (λ ys s. same_map (map_read (with_attribute true (attributes_read ys 0)) (pair_of (value_to most_levels) s))))
      (count-back (resource_step true) (λ k. attributes_read r.attributes k) 2 r.dropped_attributes_count (lit< tt, lit< tt) small (λ m. refl)))
      room;
  count = small;
}

pub scope-back : (s : Scope) → IsUtf8 s.name → IsUtf8 s.version → AllByRecursion PairReadsBack s.attributes → s.dropped_attributes_count < 2 ^ 32 → ScopeReadsBack s
scope-back s name version back small = record {
  again = λ nest room.
      let p0 : ScopeParts = no_scope_parts in
      let p1 : ScopeParts = record p0 { name = s.name } in
      let p2 : ScopeParts = record p1 { version = s.version } in
      let p3 : ScopeParts = record p2 { rest = attributes_read s.attributes 0 } in
      let p4 : ScopeParts = record p3 { rest = attributes_read s.attributes s.dropped_attributes_count } in
      merged-again (scope_step true) p0 p4 (scope_fields s)
      (after (scope_step true) p0 p3 p4 (text_field 1 s.name ++ text_field 2 s.version ++ attributes 3 s.attributes) (number_field 4 s.dropped_attributes_count)
      (after (scope_step true) p0 p2 p3 (text_field 1 s.name ++ text_field 2 s.version) (attributes 3 s.attributes)
      (after (scope_step true) p0 p1 p2 (text_field 1 s.name) (text_field 2 s.version)
      (text-back (scope_step true) (λ t. record p0 { name = t }) 1 s.name (lit< tt, lit< tt) name (λ t. refl))
      (text-back (scope_step true) (λ t. record p1 { version = t }) 2 s.version (lit< tt, lit< tt) version (λ t. refl)))
      (attributes-back (scope_step true) (λ a. record p2 { rest = a }) 3 s.attributes (lit< tt, lit< tt) nest back (λ ys t. refl)))
      (count-back (scope_step true) (λ k. record p2 { rest = attributes_read s.attributes k }) 4 s.dropped_attributes_count (lit< tt, lit< tt) small (λ m. refl))) room;
  count = small;
}

no_scope_fields : merged (scope_step true) no_scope_parts [] ≡ Ok no_scope_parts
unfolding merged_in
no_scope_fields = refl

no_resource_fields : merged (resource_step true) no_attributes [] ≡ Ok no_attributes
unfolding merged_in
no_resource_fields = refl

-- ---- `ScopeSpans`, `ResourceSpans`

each_span : (xs : List Span) → All (SpanNests most_levels) xs → AllByRecursion SpanIdsRead xs → AllByRecursion SpanReadsBack xs → EachRead span_fields (span true) xs
each_span [] nest ids back = tt
each_span (x ∷ xs) nest ids back = (back.0.again (All-head (SpanNests most_levels) x xs nest, ids.0), each_span xs (All-tail (SpanNests most_levels) x xs nest) ids.1 back.1)

pub scope_spans-back : (g : ScopeSpans) → ScopeReadsBack g.scope → AllByRecursion SpanReadsBack g.spans → IsUtf8 g.schema_url → ScopeSpansReadBack g
scope_spans-back g scope back url = record {
  again = λ conditions room.
      let p0 : ScopeSpansParts = no_scope_spans in
      let p1 : ScopeSpansParts = record p0 { scope = scope_read g.scope } in
      let p2 : ScopeSpansParts = record p1 { spans = g.spans } in
      let p3 : ScopeSpansParts = record p2 { schema_url = g.schema_url } in
      ap (map_read whole_scope_spans)
      (merged-again (scope_spans_step true) p0 p3 (scope_spans_fields g)
      (after (scope_spans_step true) p0 p2 p3 (message_field 1 (scope_fields g.scope) ++ repeated 2 (map span_fields g.spans)) (text_field 3 g.schema_url)
      (after (scope_spans_step true) p0 p1 p2 (message_field 1 (scope_fields g.scope)) (repeated 2 (map span_fields g.spans))
      (message-back (scope_spans_step true) (λ x. record p0 { scope = x }) 1 (scope_fields g.scope) (merged (scope_step true) no_scope_parts) no_scope_parts (scope_read g.scope) (lit< tt, lit< tt) no_scope_fields (scope.again conditions.0.attributes) (λ t y e. ap (map_read (λ x. record p0 { scope = x })) e))
      (list-back (scope_spans_step true) (λ xs. record p1 { spans = xs }) 2 span_fields (span true) [] g.spans (lit< tt, lit< tt) (each_span g.spans conditions.0.spans conditions.1 back) (λ ys t x e. ap (λ m. map_read (λ xs. record p1 { spans = xs }) (with_last ys m)) e)))
      (text-back (scope_spans_step true) (λ t. record p2 { schema_url = t }) 3 g.schema_url (lit< tt, lit< tt) url (λ t. refl))) room)
      ∙ ap (λ n. Ok (record g { scope = record (g.scope) { dropped_attributes_count = n } })) (none_dropped g.scope.attributes g.scope.dropped_attributes_count scope.count);
}

each_scope : (xs : List ScopeSpans) → All (ScopeSpansNest most_levels) xs → AllByRecursion ScopeIdsRead xs → AllByRecursion ScopeSpansReadBack xs → EachRead scope_spans_fields (scope_spans true) xs
each_scope [] nest ids back = tt
each_scope (x ∷ xs) nest ids back = (back.0.again (All-head (ScopeSpansNest most_levels) x xs nest, ids.0), each_scope xs (All-tail (ScopeSpansNest most_levels) x xs nest) ids.1 back.1)

pub resource_spans-back : (g : ResourceSpans) → ResourceReadsBack g.resource → AllByRecursion ScopeSpansReadBack g.scope_spans → IsUtf8 g.schema_url → ResourceSpansReadBack g
resource_spans-back g resource back url = record {
  again = λ conditions room.
      let p0 : ResourceSpansParts = no_resource_spans in
      let p1 : ResourceSpansParts = record p0 { resource = attributes_read g.resource.attributes g.resource.dropped_attributes_count } in
      let p2 : ResourceSpansParts = record p1 { scope_spans = g.scope_spans } in
      let p3 : ResourceSpansParts = record p2 { schema_url = g.schema_url } in
      ap (map_read whole_resource_spans)
      (merged-again (resource_spans_step true) p0 p3 (resource_spans_fields g)
      (after (resource_spans_step true) p0 p2 p3 (message_field 1 (resource_fields g.resource) ++ repeated 2 (map scope_spans_fields g.scope_spans)) (text_field 3 g.schema_url)
      (after (resource_spans_step true) p0 p1 p2 (message_field 1 (resource_fields g.resource)) (repeated 2 (map scope_spans_fields g.scope_spans))
      (message-back (resource_spans_step true) (λ x. record p0 { resource = x }) 1 (resource_fields g.resource) (merged (resource_step true) no_attributes) no_attributes (attributes_read g.resource.attributes g.resource.dropped_attributes_count) (lit< tt, lit< tt) no_resource_fields (resource.again conditions.0.attributes) (λ t y e. ap (map_read (λ x. record p0 { resource = x })) e))
      (list-back (resource_spans_step true) (λ xs. record p1 { scope_spans = xs }) 2 scope_spans_fields (scope_spans true) [] g.scope_spans (lit< tt, lit< tt) (each_scope g.scope_spans conditions.0.scope_spans conditions.1 back) (λ ys t x e. ap (λ m. map_read (λ xs. record p1 { scope_spans = xs }) (with_last ys m)) e)))
      (text-back (resource_spans_step true) (λ t. record p2 { schema_url = t }) 3 g.schema_url (lit< tt, lit< tt) url (λ t. refl))) room)
      ∙ ap (λ n. Ok (record g { resource = record (g.resource) { dropped_attributes_count = n } })) (none_dropped g.resource.attributes g.resource.dropped_attributes_count resource.count);
}

-- ---- requests

each_resource : (xs : List ResourceSpans) → All (ResourceSpansNest most_levels) xs → AllByRecursion ResourceIdsRead xs → AllByRecursion ResourceSpansReadBack xs → EachRead resource_spans_fields (resource_spans true) xs
each_resource [] nest ids back = tt
each_resource (x ∷ xs) nest ids back = (back.0.again (All-head (ResourceSpansNest most_levels) x xs nest, ids.0), each_resource xs (All-tail (ResourceSpansNest most_levels) x xs nest) ids.1 back.1)

pub request-back : (r : Request) → AllByRecursion ResourceSpansReadBack r.resource_spans → RequestReadsBack r
request-back r back = record {
  again = λ conditions room.
      merged-again (request_step true) no_request r (request_fields r)
      (list-back (request_step true) (λ xs. record { resource_spans = xs }) 1 resource_spans_fields (resource_spans true) [] r.resource_spans (lit< tt, lit< tt) (each_resource r.resource_spans conditions.0 conditions.1 back)
      (λ ys t x e. ap (λ m. map_read (λ xs. record { resource_spans = xs }) (with_last ys m)) e))
      room;
}
