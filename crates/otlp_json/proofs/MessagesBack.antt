-- A message that is written reads as itself.
-- For the contract of `write`.
use Rattle.std.proofs.Common.{◌≡◌, ℕ, ◌<◌, ◌≤◌, ◌^◌, List, [], ◌∷◌, codes, Bool, true, false, Option, Some, None, option_map, refl, ap, ◌∙◌, arith}
use Rattle.std.specs.Prelude.{FitsSigned, ◌==◌, ◌||◌, cond, length}
use Rattle.std.specs.Int.{w32}
use Rattle.std.specs.List.{AllByRecursion}
use Rattle.std.specs.Str.{bytes_eq}
use Rattle.std.proofs.lemmas.Bool.Decides.{nat_tests}
use Rattle.std.proofs.lemmas.Slice.Eq.{bytes_eq-Decides}
use Rattle.hex.proofs.OnLiterals.{hex_on_literals}
use Rattle.serde_json.specs.Data.{string, object, Members, depth}
use Rattle.otlp_types.specs.declared.span.Ids.{Ids}
use Rattle.otlp_types.specs.declared.span.Status.{Status}
use Rattle.otlp_types.specs.declared.span.Event.{Event}
use Rattle.otlp_types.specs.declared.span.Link.{Link}
use Rattle.otlp_types.specs.declared.span.Span.{Span}
use Rattle.otlp_types.specs.declared.request.Resource.{Resource}
use Rattle.otlp_types.specs.declared.request.Scope.{Scope}
use Rattle.otlp_types.specs.declared.request.ScopeSpans.{ScopeSpans}
use Rattle.otlp_types.specs.declared.request.ResourceSpans.{ResourceSpans}
use Rattle.otlp_types.specs.declared.request.Request.{Request}
use Rattle.span_ids.specs.Id.{id_of, id_text}
use Rattle.otlp_reading.specs.Kinds.{field, text, u32, u64, enum, list_of, message, inner}
use Rattle.otlp_reading.specs.Reading.{parent_of, valid_ids, ids, status, event, link, span, resource, scope, scope_spans, resource_spans, request}
use Rattle.otlp_json.specs.Kept.{attributes}
use Rattle.otlp_json.specs.Writing.{Table, fields, text_field, u32_field, u64_field, enum_field, trace_field, span_field, parent_field, status_fields, event_fields, link_fields, span_fields, resource_fields, scope_fields, scope_spans_fields, resource_spans_fields, request_fields, status_table, event_table, link_table, span_table, resource_table, scope_table, scope_spans_table, resource_spans_table, request_table}
use Rattle.otlp_json.specs.ReadsBack.{PairReadsBack, ReadsBack, StatusReadsBack, EventReadsBack, LinkReadsBack, TraceReadsBack, IdReadsBack, OptionalIdReadsBack, ParentReadsBack, CountsReadBack, HeadReadsBack, TailReadsBack}
use Rattle.otlp_reading.proofs.Spans.{SpanFields, span_of}
use Rattle.otlp_json.proofs.NumbersBack.{u32-back, u64-back, enum-back}
use Rattle.otlp_json.proofs.Table.{found, IsField, IsTable, table-canonical, ascends}
use Rattle.otlp_json.proofs.ValuesBack.{text_field-present, text-back, pairs_field-is}
use Rattle.otlp_json.proofs.FieldsBack.{u32_field-present, u64_field-present, enum_field-present, at, inner-at, inner-present, list-present, list-at, attributes-at}

-- a message whose fields stand in a table reads as itself, if its members do
reads-back : {A : Type 0} (of : A → Members) (meaning : Members → Option A) (x : A) (fs : Table) → of x ≡ fields fs → ascends fs ≡ true → IsTable fs
    → (IsTable fs → depth (object (fields fs)) ≤ 127 → meaning (fields fs) ≡ Some x) → ReadsBack of meaning x
reads-back of meaning x fs is up t again = record {
  canonical = rw is (table-canonical fs up t);
  again = rw is (λ h. again t h);
}

-- ---- the messages

status-is : (s : Status) → FitsSigned w32 s.code → IsTable (status_table s)
status-is s fits = (refl, enum_field-present s.code fits, (refl, text_field-present s.message, tt))

status_of : (s : Status) (ms : Members) → text (field (codes "message") ms) ≡ Some s.message → enum (field (codes "code") ms) ≡ Some s.code → status ms ≡ Some s
status_of s ms message code = rw (message, code)

pub status-back : (s : Status) → FitsSigned w32 s.code → StatusReadsBack s
status-back s fits = reads-back status_fields status s (status_table s) refl refl (status-is s fits) (λ t h. status_of s (fields (status_table s))
    (at text (codes "message") (status_table s) (text_field s.message) s.message t refl (text-back s.message))
    (at enum (codes "code") (status_table s) (enum_field s.code) s.code t refl (enum-back s.code fits)))

event-is : (e : Event) → AllByRecursion PairReadsBack e.attributes → e.dropped_attributes_count < 2 ^ 32 → IsTable (event_table e)
event-is e all dropped = (refl, pairs_field-is e.attributes all, (refl, u32_field-present _ dropped, (refl, text_field-present e.name, (refl, u64_field-present _, tt))))

event_of : (e : Event) (ms : Members) → u64 (field (codes "timeUnixNano") ms) ≡ Some e.time_unix_nano → text (field (codes "name") ms) ≡ Some e.name
    → attributes ms ≡ Some (e.attributes, e.dropped_attributes_count) → event true ms ≡ Some e
event_of e ms time name all = rw (time, name, all)

pub event-back : (e : Event) → AllByRecursion PairReadsBack e.attributes → e.dropped_attributes_count < 2 ^ 32 → e.time_unix_nano < 2 ^ 64 → EventReadsBack e
event-back e all dropped time = reads-back event_fields (event true) e (event_table e) refl refl (event-is e all dropped) (λ t h. event_of e (fields (event_table e))
    (at u64 (codes "timeUnixNano") (event_table e) (u64_field e.time_unix_nano) e.time_unix_nano t refl (u64-back e.time_unix_nano time))
    (at text (codes "name") (event_table e) (text_field e.name) e.name t refl (text-back e.name))
    (attributes-at e.attributes e.dropped_attributes_count (event_table e) all dropped t h refl refl))

link-is : (l : Link) → AllByRecursion PairReadsBack l.attributes → l.dropped_attributes_count < 2 ^ 32 → l.flags < 2 ^ 32 → IsTable (link_table l)
link-is l all dropped flags =
    (refl, pairs_field-is l.attributes all, (refl, u32_field-present _ dropped, (refl, u32_field-present _ flags, (refl, text_field-present l.span_id, (refl, text_field-present l.trace_id, (refl, text_field-present l.trace_state, tt))))))

link_of : (l : Link) (ms : Members) → text (field (codes "traceId") ms) ≡ Some l.trace_id → text (field (codes "spanId") ms) ≡ Some l.span_id
    → text (field (codes "traceState") ms) ≡ Some l.trace_state → attributes ms ≡ Some (l.attributes, l.dropped_attributes_count) → u32 (field (codes "flags") ms) ≡ Some l.flags → link true ms ≡ Some l
link_of l ms trace span state all flags = rw (trace, span, state, all, flags)

pub link-back : (l : Link) → AllByRecursion PairReadsBack l.attributes → l.dropped_attributes_count < 2 ^ 32 → l.flags < 2 ^ 32 → LinkReadsBack l
link-back l all dropped flags = reads-back link_fields (link true) l (link_table l) refl refl (link-is l all dropped flags) (λ t h. link_of l (fields (link_table l))
    (at text (codes "traceId") (link_table l) (text_field l.trace_id) l.trace_id t refl (text-back l.trace_id))
    (at text (codes "spanId") (link_table l) (text_field l.span_id) l.span_id t refl (text-back l.span_id))
    (at text (codes "traceState") (link_table l) (text_field l.trace_state) l.trace_state t refl (text-back l.trace_state))
    (attributes-at l.attributes l.dropped_attributes_count (link_table l) all dropped t h refl refl)
    (at u32 (codes "flags") (link_table l) (u32_field l.flags) l.flags t refl (u32-back l.flags flags)))

-- ---- the ids of a span

abbrev root_text : Option (List ℕ) → List ℕ
root_text None = []
root_text (Some p) = id_text p

root_field : (p : Option (List ℕ)) → text (option_map (λ p. string (id_text p)) p) ≡ Some (root_text p)
root_field None = refl
root_field (Some p) = refl

no_id : id_of 8 [] ≡ None
unfolding hex_on_literals
no_id = refl

zero_id : id_of 8 (codes "0000000000000000") ≡ None
unfolding hex_on_literals
zero_id = refl

no_ids : valid_ids [] [] [] ≡ None
unfolding hex_on_literals
no_ids = refl

no_text : (s : List ℕ) → (length s == 0) ≡ true → s ≡ []
no_text [] h = refl
no_text (c ∷ s) h = absurd (empty h)
  where
    empty : (length (c ∷ s) == 0) ≡ true → ⊥
    empty e = grind (arith, nat_tests)

parent_if : (none zeros : Bool) (s : List ℕ) (p : List ℕ) → (length s == 0) ≡ none → bytes_eq s (codes "0000000000000000") ≡ zeros → id_of 8 s ≡ Some p
    → cond (none || zeros) (Some None) (option_map Some (id_of 8 s)) ≡ Some (Some p)
parent_if true zeros s p e f h = let no : id_of 8 s ≡ None = ap (id_of 8) (no_text s e) ∙ no_id in cc
parent_if false true s p e f h = let no : id_of 8 s ≡ None = ap (id_of 8) ((bytes_eq-Decides s (codes "0000000000000000")).0 f) ∙ zero_id in cc
parent_if false false s p e f h = ap (option_map Some) h

parent_back : (p : Option (List ℕ)) → OptionalIdReadsBack p → parent_of (root_text p) ≡ Some p
parent_back None h = refl
parent_back (Some p) h = parent_if (length (id_text p) == 0) (bytes_eq (id_text p) (codes "0000000000000000")) (id_text p) p refl refl h

ids_texts : (ms : Members) (t s p : List ℕ) → text (field (codes "traceId") ms) ≡ Some t → text (field (codes "spanId") ms) ≡ Some s → text (field (codes "parentSpanId") ms) ≡ Some p
    → ids ms ≡ Some (valid_ids t s p)
ids_texts ms t s p trace span parent = rw (trace, span, parent)

valid_of : (i : Ids) (t s p : List ℕ) → id_of 16 t ≡ Some i.trace → id_of 8 s ≡ Some i.span → parent_of p ≡ Some i.parent → valid_ids t s p ≡ Some i
valid_of i t s p trace span parent = rw (trace, span, parent)

ids-at : (o : Option Ids) (fs : Table) → IsTable fs → found (codes "traceId") fs ≡ trace_field o → found (codes "spanId") fs ≡ span_field o → found (codes "parentSpanId") fs ≡ parent_field o
    → TraceReadsBack o → IdReadsBack o → ParentReadsBack o → ids (fields fs) ≡ Some o
ids-at None fs table trace span parent a b c =
    ids_texts (fields fs) [] [] []
    (at text (codes "traceId") fs None [] table trace refl)
    (at text (codes "spanId") fs None [] table span refl)
    (at text (codes "parentSpanId") fs None [] table parent refl)
    ∙ ap Some no_ids
ids-at (Some i) fs table trace span parent a b c =
    ids_texts (fields fs) (id_text i.trace) (id_text i.span) (root_text i.parent)
    (at text (codes "traceId") fs (Some (string (id_text i.trace))) (id_text i.trace) table trace refl)
    (at text (codes "spanId") fs (Some (string (id_text i.span))) (id_text i.span) table span refl)
    (at text (codes "parentSpanId") fs (option_map (λ p. string (id_text p)) i.parent) (root_text i.parent) table parent (root_field i.parent))
    ∙ ap Some (valid_of i (id_text i.trace) (id_text i.span) (root_text i.parent) a b (parent_back i.parent c))

trace_field-present : (o : Option Ids) → IsField (trace_field o)
trace_field-present None = (refl, tt)
trace_field-present (Some i) = (refl, tt)

span_field-present : (o : Option Ids) → IsField (span_field o)
span_field-present None = (refl, tt)
span_field-present (Some i) = (refl, tt)

root_field-present : (p : Option (List ℕ)) → IsField (option_map (λ p. string (id_text p)) p)
root_field-present None = (refl, tt)
root_field-present (Some p) = (refl, tt)

parent_field-present : (o : Option Ids) → IsField (parent_field o)
parent_field-present None = (refl, tt)
parent_field-present (Some i) = root_field-present i.parent

-- ---- the span

span-is : (s : Span) → CountsReadBack s → HeadReadsBack s → TailReadsBack s → IsTable (span_table s)
span-is s counts head tail = (
  refl,
  pairs_field-is s.attributes counts.attributes,
  (
    refl,
    u32_field-present _ counts.dropped_attributes,
    (
      refl,
      u32_field-present _ counts.dropped_events,
      (
        refl,
        u32_field-present _ counts.dropped_links,
        (
          refl,
          u64_field-present _,
          (
            refl,
            list-present (event true) event_fields s.events head.events,
            (
              refl,
              u32_field-present _ head.flags,
              (
                refl,
                enum_field-present s.kind head.kind,
                (
                  refl,
                  list-present (link true) link_fields s.links tail.links,
                  (
                    refl,
                    text_field-present s.name,
                    (
                      refl,
                      parent_field-present s.ids,
                      (
                        refl,
                        span_field-present s.ids,
                        (
                          refl,
                          u64_field-present _,
                          (
                            refl,
                            inner-present status status_fields s.status tail.status,
                            (
                              refl,
                              trace_field-present s.ids,
                              (refl, text_field-present s.trace_state, tt),
                            ),
                          ),
                        ),
                      ),
                    ),
                  ),
                ),
              ),
            ),
          ),
        ),
      ),
    ),
  ),
)

span_fields-are : (s : Span) → CountsReadBack s → HeadReadsBack s → TailReadsBack s → depth (object (fields (span_table s))) ≤ 127 → SpanFields true s (fields (span_table s))
span_fields-are s counts head tail h =
    let t : IsTable (span_table s) = span-is s counts head tail in
    record {
      ids = ids-at s.ids (span_table s) t refl refl refl tail.trace tail.span tail.parent;
      state = at text (codes "traceState") (span_table s) (text_field s.trace_state) s.trace_state t refl (text-back s.trace_state);
      flags = at u32 (codes "flags") (span_table s) (u32_field s.flags) s.flags t refl (u32-back s.flags head.flags);
      name = at text (codes "name") (span_table s) (text_field s.name) s.name t refl (text-back s.name);
      kind = at enum (codes "kind") (span_table s) (enum_field s.kind) s.kind t refl (enum-back s.kind head.kind);
      start = at u64 (codes "startTimeUnixNano") (span_table s) (u64_field s.start_time_unix_nano) s.start_time_unix_nano t refl (u64-back s.start_time_unix_nano tail.start);
      end = at u64 (codes "endTimeUnixNano") (span_table s) (u64_field s.end_time_unix_nano) s.end_time_unix_nano t refl (u64-back s.end_time_unix_nano head.end);
      all = attributes-at s.attributes s.dropped_attributes_count (span_table s) counts.attributes counts.dropped_attributes t h refl refl;
      events = list-at (event true) event_fields s.events (codes "events") (span_table s) head.events t h refl;
      dropped_events = at u32 (codes "droppedEventsCount") (span_table s) (u32_field s.dropped_events_count) s.dropped_events_count t refl (u32-back s.dropped_events_count counts.dropped_events);
      links = list-at (link true) link_fields s.links (codes "links") (span_table s) tail.links t h refl;
      dropped_links = at u32 (codes "droppedLinksCount") (span_table s) (u32_field s.dropped_links_count) s.dropped_links_count t refl (u32-back s.dropped_links_count counts.dropped_links);
      status = inner-at status status_fields s.status (codes "status") (span_table s) tail.status t h refl;
    }

pub span-back : (s : Span) → CountsReadBack s → HeadReadsBack s → TailReadsBack s → ReadsBack span_fields (span true) s
span-back s counts head tail = reads-back span_fields (span true) s (span_table s) refl refl (span-is s counts head tail) (λ _ h. span_of true s (fields (span_table s)) (span_fields-are s counts head tail h))

-- ---- the request

resource-is : (r : Resource) → AllByRecursion PairReadsBack r.attributes → r.dropped_attributes_count < 2 ^ 32 → IsTable (resource_table r)
resource-is r all dropped = (refl, pairs_field-is r.attributes all, (refl, u32_field-present _ dropped, tt))

resource_of : (r : Resource) (ms : Members) → attributes ms ≡ Some (r.attributes, r.dropped_attributes_count) → resource true ms ≡ Some r
resource_of r ms all = rw all

pub resource-back : (r : Resource) → AllByRecursion PairReadsBack r.attributes → r.dropped_attributes_count < 2 ^ 32 → ReadsBack resource_fields (resource true) r
resource-back r all dropped = reads-back resource_fields (resource true) r (resource_table r) refl refl (resource-is r all dropped) (λ t h. resource_of r (fields (resource_table r)) (attributes-at r.attributes r.dropped_attributes_count (resource_table r) all dropped t h refl refl))

scope-is : (s : Scope) → AllByRecursion PairReadsBack s.attributes → s.dropped_attributes_count < 2 ^ 32 → IsTable (scope_table s)
scope-is s all dropped = (refl, pairs_field-is s.attributes all, (refl, u32_field-present _ dropped, (refl, text_field-present s.name, (refl, text_field-present s.version, tt))))

scope_of : (s : Scope) (ms : Members) → text (field (codes "name") ms) ≡ Some s.name → text (field (codes "version") ms) ≡ Some s.version
    → attributes ms ≡ Some (s.attributes, s.dropped_attributes_count) → scope true ms ≡ Some s
scope_of s ms name version all = rw (name, version, all)

pub scope-back : (s : Scope) → AllByRecursion PairReadsBack s.attributes → s.dropped_attributes_count < 2 ^ 32 → ReadsBack scope_fields (scope true) s
scope-back s all dropped = reads-back scope_fields (scope true) s (scope_table s) refl refl (scope-is s all dropped) (λ t h. scope_of s (fields (scope_table s))
    (at text (codes "name") (scope_table s) (text_field s.name) s.name t refl (text-back s.name))
    (at text (codes "version") (scope_table s) (text_field s.version) s.version t refl (text-back s.version))
    (attributes-at s.attributes s.dropped_attributes_count (scope_table s) all dropped t h refl refl))

scope_spans-is : (g : ScopeSpans) → ReadsBack scope_fields (scope true) g.scope → AllByRecursion (ReadsBack span_fields (span true)) g.spans → IsTable (scope_spans_table g)
scope_spans-is g s all = (refl, text_field-present g.schema_url, (refl, inner-present (scope true) scope_fields g.scope s, (refl, list-present (span true) span_fields g.spans all, tt)))

scope_spans_of : (g : ScopeSpans) (ms : Members) → inner (scope true) (field (codes "scope") ms) ≡ Some g.scope → list_of (message (span true)) (field (codes "spans") ms) ≡ Some g.spans
    → text (field (codes "schemaUrl") ms) ≡ Some g.schema_url → scope_spans true ms ≡ Some g
scope_spans_of g ms s all url = rw (s, all, url)

pub scope_spans-back : (g : ScopeSpans) → ReadsBack scope_fields (scope true) g.scope → AllByRecursion (ReadsBack span_fields (span true)) g.spans → ReadsBack scope_spans_fields (scope_spans true) g
scope_spans-back g s all = reads-back scope_spans_fields (scope_spans true) g (scope_spans_table g) refl refl (scope_spans-is g s all) (λ t h. scope_spans_of g (fields (scope_spans_table g))
    (inner-at (scope true) scope_fields g.scope (codes "scope") (scope_spans_table g) s t h refl)
    (list-at (span true) span_fields g.spans (codes "spans") (scope_spans_table g) all t h refl)
    (at text (codes "schemaUrl") (scope_spans_table g) (text_field g.schema_url) g.schema_url t refl (text-back g.schema_url)))

resource_spans-is : (g : ResourceSpans) → ReadsBack resource_fields (resource true) g.resource → AllByRecursion (ReadsBack scope_spans_fields (scope_spans true)) g.scope_spans → IsTable (resource_spans_table g)
resource_spans-is g r all =
    (refl, inner-present (resource true) resource_fields g.resource r, (refl, text_field-present g.schema_url, (refl, list-present (scope_spans true) scope_spans_fields g.scope_spans all, tt)))

resource_spans_of : (g : ResourceSpans) (ms : Members) → inner (resource true) (field (codes "resource") ms) ≡ Some g.resource → list_of (message (scope_spans true)) (field (codes "scopeSpans") ms) ≡ Some g.scope_spans
    → text (field (codes "schemaUrl") ms) ≡ Some g.schema_url → resource_spans true ms ≡ Some g
resource_spans_of g ms r all url = rw (r, all, url)

pub resource_spans-back : (g : ResourceSpans) → ReadsBack resource_fields (resource true) g.resource → AllByRecursion (ReadsBack scope_spans_fields (scope_spans true)) g.scope_spans
    → ReadsBack resource_spans_fields (resource_spans true) g
resource_spans-back g r all = reads-back resource_spans_fields (resource_spans true) g (resource_spans_table g) refl refl (resource_spans-is g r all) (λ t h. resource_spans_of g (fields (resource_spans_table g))
    (inner-at (resource true) resource_fields g.resource (codes "resource") (resource_spans_table g) r t h refl)
    (list-at (scope_spans true) scope_spans_fields g.scope_spans (codes "scopeSpans") (resource_spans_table g) all t h refl)
    (at text (codes "schemaUrl") (resource_spans_table g) (text_field g.schema_url) g.schema_url t refl (text-back g.schema_url)))

request-is : (q : Request) → AllByRecursion (ReadsBack resource_spans_fields (resource_spans true)) q.resource_spans → IsTable (request_table q)
request-is q all = (refl, list-present (resource_spans true) resource_spans_fields q.resource_spans all, tt)

request_from : (q : Request) (ms : Members) → list_of (message (resource_spans true)) (field (codes "resourceSpans") ms) ≡ Some q.resource_spans → request true ms ≡ Some q
request_from q ms all = rw all

pub request-back : (q : Request) → AllByRecursion (ReadsBack resource_spans_fields (resource_spans true)) q.resource_spans → ReadsBack request_fields (request true) q
request-back q all = reads-back request_fields (request true) q (request_table q) refl refl (request-is q all) (λ t h. request_from q (fields (request_table q)) (list-at (resource_spans true) resource_spans_fields q.resource_spans (codes "resourceSpans") (request_table q) all t h refl))
