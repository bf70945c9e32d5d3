-- Spans that are written are read as themselves.
-- For the clauses `back` of span.rt.
use Rattle.std.proofs.Common.{◌≡◌, ℕ, ◌<◌, ◌^◌, List, [], ◌∷◌, ◌++◌, map, Option, Some, None, option_map, option_and_then, true, Ok, refl, ◌∙◌, ap, subst, lit<}
use Rattle.std.specs.List.{All, AllByRecursion}
use Rattle.protobuf_writer.specs.Defaults.{text_field, number_field, fixed64_field, fixed32_field, message_field, repeated}
use Rattle.std.proofs.lemmas.List.Elements.{All-head, All-tail}
use Rattle.otlp_types.specs.declared.span.Ids.{Ids}
use Rattle.otlp_types.specs.declared.span.Event.{Event}
use Rattle.otlp_types.specs.declared.span.Link.{Link}
use Rattle.otlp_types.specs.declared.span.Span.{Span}
use Rattle.otlp_protobuf.specs.declared.span.SpanParts.{SpanParts}
use Rattle.otlp_protobuf.specs.Kinds.{map_read, merged, merged_in}
use Rattle.otlp_protobuf.specs.Values.{most_levels}
use Rattle.otlp_protobuf.specs.Nesting.{EventNests, LinkNests}
use Rattle.otlp_protobuf.specs.Reading.{with_last, status_step, no_status, event, link, span_step, no_parts, valid_ids, whole_span}
use Rattle.otlp_protobuf_encode.specs.Writing.{enum_field, id_field, attributes, trace_field, span_field, parent_field, status_fields, event_fields, link_fields, span_head, span_times, span_tail, span_fields}
use Rattle.otlp_protobuf_encode.specs.ReadsBack.{AreIds, ParentIsId, LinkIdsRead, EventReadsBack, LinkReadsBack, SpanReads, SpanReadsBack, attributes_read, HeadHolds, TimesHold, TailHolds}
use Rattle.otlp_protobuf_encode.proofs.FieldsBack.{Reads, after, merged-again, none, single-bytes, text-back, count-back, fixed64-back, fixed32-back, enum-back, EachRead, list-back, message-back}
use Rattle.otlp_protobuf_encode.proofs.IdsBack.{parent_again}
use Rattle.otlp_protobuf_encode.proofs.MessagesBack.{attributes-back, none_dropped}

-- ---- what is read so far

abbrev p1 : Span → SpanParts
p1 s = record no_parts { trace = option_map (λ (ids : Ids). ids.trace) s.ids }

abbrev p2 : Span → SpanParts
p2 s = record (p1 s) { id = option_map (λ (ids : Ids). ids.span) s.ids }

abbrev p3 : Span → SpanParts
p3 s = record (p2 s) { span = record ((p2 s).span) { trace_state = s.trace_state } }

abbrev p4 : Span → SpanParts
p4 s = record (p3 s) { parent = Some (option_and_then (λ (ids : Ids). ids.parent) s.ids) }

abbrev p5 : Span → SpanParts
p5 s = record (p4 s) { span = record ((p4 s).span) { name = s.name } }

abbrev p6 : Span → SpanParts
p6 s = record (p5 s) { span = record ((p5 s).span) { kind = s.kind } }

abbrev p7 : Span → SpanParts
p7 s = record (p6 s) { span = record ((p6 s).span) { start_time_unix_nano = s.start_time_unix_nano } }

abbrev p8 : Span → SpanParts
p8 s = record (p7 s) { span = record ((p7 s).span) { end_time_unix_nano = s.end_time_unix_nano } }

abbrev p9 : Span → SpanParts
p9 s = record (p8 s) { rest = attributes_read s.attributes 0 }

abbrev p10 : Span → SpanParts
p10 s = record (p9 s) { rest = attributes_read s.attributes s.dropped_attributes_count }

abbrev p11 : Span → SpanParts
p11 s = record (p10 s) { span = record ((p10 s).span) { events = s.events } }

abbrev p12 : Span → SpanParts
p12 s = record (p11 s) { span = record ((p11 s).span) { dropped_events_count = s.dropped_events_count } }

abbrev p13 : Span → SpanParts
p13 s = record (p12 s) { span = record ((p12 s).span) { links = s.links } }

abbrev p14 : Span → SpanParts
p14 s = record (p13 s) { span = record ((p13 s).span) { dropped_links_count = s.dropped_links_count } }

abbrev p15 : Span → SpanParts
p15 s = record (p14 s) { span = record ((p14 s).span) { status = s.status } }

abbrev p16 : Span → SpanParts
p16 s = record (p15 s) { span = record ((p15 s).span) { flags = s.flags } }

-- ---- ids

trace_at : (found : Option Ids) → AreIds found → Reads (span_step true) no_parts (record no_parts { trace = option_map (λ (ids : Ids). ids.trace) found }) (trace_field found)
trace_at None h = none (span_step true) no_parts
trace_at (Some ids) h = single-bytes (span_step true) no_parts (record no_parts { trace = Some ids.trace }) 1 ids.trace (lit< tt, lit< tt) (λ room. ap (λ t. Ok (record no_parts { trace = t })) h.0)

span_at : (p : SpanParts) (found : Option Ids) → p.id ≡ None → AreIds found → Reads (span_step true) p (record p { id = option_map (λ (ids : Ids). ids.span) found }) (span_field found)
span_at p None e h = let P : Option (List ℕ) → Type 0 = λ i. Reads (span_step true) p (record p { id = i }) [] in subst P e (none (span_step true) p)
span_at p (Some ids) e h = single-bytes (span_step true) p (record p { id = Some ids.span }) 2 ids.span (lit< tt, lit< tt) (λ room. ap (λ t. Ok (record p { id = t })) h.1)

parent_by : (p : SpanParts) (found : Option (List ℕ)) → p.parent ≡ Some None → ParentIsId found → Reads (span_step true) p (record p { parent = Some found }) (id_field 4 found)
parent_by p None e h = let P : Option (Option (List ℕ)) → Type 0 = λ i. Reads (span_step true) p (record p { parent = i }) [] in subst P e (none (span_step true) p)
parent_by p (Some id) e h = single-bytes (span_step true) p (record p { parent = Some (Some id) }) 4 id (lit< tt, lit< tt) (λ room. ap (λ t. Ok (record p { parent = t })) (parent_again id h))

parent_at : (p : SpanParts) (found : Option Ids) → p.parent ≡ Some None → AreIds found → Reads (span_step true) p (record p { parent = Some (option_and_then (λ (ids : Ids). ids.parent) found) }) (parent_field found)
parent_at p None e h = parent_by p None e tt
parent_at p (Some ids) e h = parent_by p ids.parent e h.2

trace_read : (s : Span) → AreIds s.ids → Reads (span_step true) no_parts (p1 s) (trace_field s.ids)
trace_read s h = trace_at s.ids h

span_read : (s : Span) → AreIds s.ids → Reads (span_step true) (p1 s) (p2 s) (span_field s.ids)
span_read s h = span_at (p1 s) s.ids refl h

parent_read : (s : Span) → AreIds s.ids → Reads (span_step true) (p3 s) (p4 s) (parent_field s.ids)
parent_read s h = parent_at (p3 s) s.ids refl h

-- ---- what a span holds

each_event : (es : List Event) → All (EventNests most_levels) es → AllByRecursion EventReadsBack es → EachRead event_fields (event true) es
each_event [] nest back = tt
each_event (e ∷ es) nest back = (back.0.again (All-head (EventNests most_levels) e es nest), each_event es (All-tail (EventNests most_levels) e es nest) back.1)

each_link : (ls : List Link) → All (LinkNests most_levels) ls → AllByRecursion LinkIdsRead ls → AllByRecursion LinkReadsBack ls → EachRead link_fields (link true) ls
each_link [] nest ids back = tt
each_link (l ∷ ls) nest ids back = (back.0.again (All-head (LinkNests most_levels) l ls nest, ids.0), each_link ls (All-tail (LinkNests most_levels) l ls nest) ids.1 back.1)

no_fields : merged status_step no_status [] ≡ Ok no_status
unfolding merged_in
no_fields = refl

head_read : (s : Span) → AreIds s.ids → HeadHolds s → Reads (span_step true) no_parts (p5 s) (span_head s)
head_read s ids head =
    (after (span_step true) no_parts (p4 s) (p5 s) (trace_field s.ids ++ span_field s.ids ++ text_field 3 s.trace_state ++ parent_field s.ids) (text_field 5 s.name)
    (after (span_step true) no_parts (p3 s) (p4 s) (trace_field s.ids ++ span_field s.ids ++ text_field 3 s.trace_state) (parent_field s.ids)
    (after (span_step true) no_parts (p2 s) (p3 s) (trace_field s.ids ++ span_field s.ids) (text_field 3 s.trace_state)
    (after (span_step true) no_parts (p1 s) (p2 s) (trace_field s.ids) (span_field s.ids)
    (trace_read s ids)
    (span_read s ids))
    (text-back (span_step true) (λ t. record (p2 s) { span = record ((p2 s).span) { trace_state = t } }) 3 s.trace_state (lit< tt, lit< tt) head.trace_state (λ t. refl)))
    (parent_read s ids))
    (text-back (span_step true) (λ t. record (p4 s) { span = record ((p4 s).span) { name = t } }) 5 s.name (lit< tt, lit< tt) head.name (λ t. refl)))

times_read : (s : Span) → TimesHold s → Reads (span_step true) (p5 s) (p8 s) (span_times s)
times_read s times =
    (after (span_step true) (p5 s) (p7 s) (p8 s) (enum_field 6 s.kind ++ fixed64_field 7 s.start_time_unix_nano) (fixed64_field 8 s.end_time_unix_nano)
    (after (span_step true) (p5 s) (p6 s) (p7 s) (enum_field 6 s.kind) (fixed64_field 7 s.start_time_unix_nano)
    (enum-back (span_step true) (λ z. record (p5 s) { span = record ((p5 s).span) { kind = z } }) 6 s.kind (lit< tt, lit< tt) times.kind (λ m. refl))
    (fixed64-back (span_step true) (λ k. record (p6 s) { span = record ((p6 s).span) { start_time_unix_nano = k } }) 7 s.start_time_unix_nano (lit< tt, lit< tt) times.start (λ m. refl)))
    (fixed64-back (span_step true) (λ k. record (p7 s) { span = record ((p7 s).span) { end_time_unix_nano = k } }) 8 s.end_time_unix_nano (lit< tt, lit< tt) times.end (λ m. refl)))

tail_read : (s : Span) → SpanReads s → TailHolds s → Reads (span_step true) (p8 s) (p16 s) (span_tail s)
tail_read s conditions tail =
    (after (span_step true) (p8 s) (p15 s) (p16 s) (attributes 9 s.attributes ++ number_field 10 s.dropped_attributes_count ++ repeated 11 (map event_fields s.events) ++ number_field 12 s.dropped_events_count ++ repeated 13 (map link_fields s.links) ++ number_field 14 s.dropped_links_count ++ message_field 15 (status_fields s.status)) (fixed32_field 16 s.flags)
    (after (span_step true) (p8 s) (p14 s) (p15 s) (attributes 9 s.attributes ++ number_field 10 s.dropped_attributes_count ++ repeated 11 (map event_fields s.events) ++ number_field 12 s.dropped_events_count ++ repeated 13 (map link_fields s.links) ++ number_field 14 s.dropped_links_count) (message_field 15 (status_fields s.status))
    (after (span_step true) (p8 s) (p13 s) (p14 s) (attributes 9 s.attributes ++ number_field 10 s.dropped_attributes_count ++ repeated 11 (map event_fields s.events) ++ number_field 12 s.dropped_events_count ++ repeated 13 (map link_fields s.links)) (number_field 14 s.dropped_links_count)
    (after (span_step true) (p8 s) (p12 s) (p13 s) (attributes 9 s.attributes ++ number_field 10 s.dropped_attributes_count ++ repeated 11 (map event_fields s.events) ++ number_field 12 s.dropped_events_count) (repeated 13 (map link_fields s.links))
    (after (span_step true) (p8 s) (p11 s) (p12 s) (attributes 9 s.attributes ++ number_field 10 s.dropped_attributes_count ++ repeated 11 (map event_fields s.events)) (number_field 12 s.dropped_events_count)
    (after (span_step true) (p8 s) (p10 s) (p11 s) (attributes 9 s.attributes ++ number_field 10 s.dropped_attributes_count) (repeated 11 (map event_fields s.events))
    (after (span_step true) (p8 s) (p9 s) (p10 s) (attributes 9 s.attributes) (number_field 10 s.dropped_attributes_count)
    (attributes-back (span_step true) (λ a. record (p8 s) { rest = a }) 9 s.attributes (lit< tt, lit< tt) conditions.0.attributes tail.attributes (λ ys t. refl))
    (count-back (span_step true) (λ k. record (p8 s) { rest = attributes_read s.attributes k }) 10 s.dropped_attributes_count (lit< tt, lit< tt) tail.dropped_attributes (λ m. refl)))
    (list-back (span_step true) (λ es. record (p10 s) { span = record ((p10 s).span) { events = es } }) 11 event_fields (event true) [] s.events (lit< tt, lit< tt) (each_event s.events conditions.0.events tail.events) (λ ys t x e. ap (λ m. map_read (λ es. record (p10 s) { span = record ((p10 s).span) { events = es } }) (with_last ys m)) e)))
    (count-back (span_step true) (λ k. record (p11 s) { span = record ((p11 s).span) { dropped_events_count = k } }) 12 s.dropped_events_count (lit< tt, lit< tt) tail.dropped_events (λ m. refl)))
    (list-back (span_step true) (λ ls. record (p12 s) { span = record ((p12 s).span) { links = ls } }) 13 link_fields (link true) [] s.links (lit< tt, lit< tt) (each_link s.links conditions.0.links conditions.1.1 tail.links) (λ ys t x e. ap (λ m. map_read (λ ls. record (p12 s) { span = record ((p12 s).span) { links = ls } }) (with_last ys m)) e)))
    (count-back (span_step true) (λ k. record (p13 s) { span = record ((p13 s).span) { dropped_links_count = k } }) 14 s.dropped_links_count (lit< tt, lit< tt) tail.dropped_links (λ m. refl)))
    (message-back (span_step true) (λ st. record (p14 s) { span = record ((p14 s).span) { status = st } }) 15 (status_fields s.status) (merged status_step no_status) no_status s.status (lit< tt, lit< tt) no_fields (tail.status.again tt) (λ t y e. ap (map_read (λ st. record (p14 s) { span = record ((p14 s).span) { status = st } })) e)))
    (fixed32-back (span_step true) (λ k. record (p15 s) { span = record ((p15 s).span) { flags = k } }) 16 s.flags (lit< tt, lit< tt) tail.flags (λ m. refl)))

ids_again : (found : Option Ids) → valid_ids (option_map (λ (ids : Ids). ids.trace) found) (option_map (λ (ids : Ids). ids.span) found) (Some (option_and_then (λ (ids : Ids). ids.parent) found)) ≡ found
ids_again None = refl
ids_again (Some ids) = refl

whole_again : (s : Span) → s.dropped_attributes_count < 2 ^ 32 → whole_span (p16 s) ≡ s
whole_again s count =
    ap (λ ids. record (whole_span (p16 s)) { ids = ids }) (ids_again s.ids)
    ∙ ap (λ n. record s { dropped_attributes_count = n }) (none_dropped s.attributes s.dropped_attributes_count count)

pub span-back : (s : Span) → HeadHolds s → TimesHold s → TailHolds s → SpanReadsBack s
span-back s head times tail = record {
  again = λ conditions room.
      ap (map_read whole_span)
      (merged-again (span_step true) no_parts (p16 s) (span_fields s)
      (after (span_step true) no_parts (p8 s) (p16 s) (span_head s ++ span_times s) (span_tail s)
      (after (span_step true) no_parts (p5 s) (p8 s) (span_head s) (span_times s) (head_read s conditions.1.0 head) (times_read s times))
      (tail_read s conditions tail)) room)
      ∙ ap Ok (whole_again s tail.dropped_attributes);
}
