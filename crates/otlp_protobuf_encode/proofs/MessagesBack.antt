-- Statuses, events and links that are written are read as themselves.
-- For the clauses `back` of span.rt.
use Rattle.std.proofs.Common.{◌≡◌, ℕ, ◌<◌, ◌^◌, ℤ, pos, List, [], ◌++◌, unwrap_or, true, Ok, refl, ◌∙◌, ap, subst, arith, lit<}
use Rattle.std.specs.Prelude.{FitsSigned}
use Rattle.std.specs.Int.{w32}
use Rattle.std.specs.List.{AllByRecursion}
use Rattle.std.specs.Str.{IsUtf8}
use Rattle.hex.specs.Hex.{encode_lower, encode_with}
use Rattle.protobuf_wire.specs.Wire.{Field, bytes}
use Rattle.protobuf_writer.specs.Defaults.{field, text_field, number_field, fixed64_field, fixed32_field}
use Rattle.otlp_types.specs.declared.value.KeyValue.{KeyValue}
use Rattle.otlp_types.specs.declared.span.Status.{Status}
use Rattle.otlp_types.specs.declared.span.Event.{Event}
use Rattle.otlp_types.specs.declared.span.Link.{Link}
use Rattle.otlp_protobuf.specs.declared.attributes.AttributesPart.{AttributesPart}
use Rattle.otlp_protobuf.specs.declared.span.EventParts.{EventParts}
use Rattle.otlp_protobuf.specs.declared.span.LinkParts.{LinkParts}
use Rattle.otlp_protobuf.specs.Kinds.{Read, map_read}
use Rattle.otlp_protobuf.specs.Values.{pair_of, value_to, most_levels}
use Rattle.otlp_protobuf.specs.Nesting.{AttributesNest}
use Rattle.otlp_protobuf.specs.Reading.{with_attribute, dropped_of, status_step, no_status, event_step, no_event, whole_event, link_step, no_link, whole_link}
use Rattle.otlp_protobuf_encode.specs.Writing.{hex_of, enum_field, hex_field, attributes, pair_fields, status_fields, event_fields, link_fields}
use Rattle.otlp_protobuf_encode.specs.ReadsBack.{PairReadsBack, StatusReadsBack, EventReadsBack, LinkReadsBack, attributes_read}
use Rattle.otlp_protobuf_encode.proofs.FieldsBack.{Reads, after, merged-again, text-back, bytes-back, count-back, fixed64-back, fixed32-back, enum-back, list-back}
use Rattle.otlp_protobuf_encode.proofs.ValuesBack.{each_pair}

-- ---- attributes

-- F is the state by the attributes that were read
pub attributes-back : {S : Type 0} (step : S → Field → Read S) (F : AttributesPart → S) (n : ℕ) (ps : List KeyValue) → (0 < n) × (n < 2 ^ 29) → AttributesNest most_levels ps → AllByRecursion PairReadsBack ps
    → ((ys : List KeyValue) (s : List ℕ) → step (F (attributes_read ys 0)) (field n (bytes s)) ≡ map_read F (map_read (with_attribute true (attributes_read ys 0)) (pair_of (value_to most_levels) s)))
    → Reads step (F (attributes_read [] 0)) (F (attributes_read ps 0)) (attributes n ps)
attributes-back step F n ps number nest back is =
    list-back step (λ ys. F (attributes_read ys 0)) n pair_fields (pair_of (value_to most_levels)) [] ps number (each_pair most_levels ps nest back)
    (λ ys s x e. is ys s ∙ ap (λ m. map_read F (map_read (with_attribute true (attributes_read ys 0)) m)) e)

-- nothing was discarded
pub none_dropped : (ps : List KeyValue) (n : ℕ) → n < 2 ^ 32 → dropped_of (attributes_read ps n) ≡ n
none_dropped ps n h = omega (arith, h)

-- ---- `Status`

pub status-back : (s : Status) → IsUtf8 s.message → FitsSigned w32 s.code → StatusReadsBack s
status-back s utf8 fits = record {
  again = λ always room.
      let named : List ℕ → Status = λ t. record { message = t; code = pos 0 } in
      let coded : ℤ → Status = λ z. record { message = s.message; code = z } in
      merged-again status_step no_status s (status_fields s)
      (after status_step no_status (named s.message) s (text_field 2 s.message) (enum_field 3 s.code)
      (text-back status_step named 2 s.message (lit< tt, lit< tt) utf8 (λ t. refl))
      (enum-back status_step coded 3 s.code (lit< tt, lit< tt) fits (λ m. refl)))
      room;
}

-- ---- `Span.Event`

pub event-back : (e : Event) → e.time_unix_nano < 2 ^ 64 → IsUtf8 e.name → AllByRecursion PairReadsBack e.attributes → e.dropped_attributes_count < 2 ^ 32 → EventReadsBack e
event-back e time name back count = record {
  again = λ nest room.
      let p0 : EventParts = no_event in
      let p1 : EventParts = record p0 { time_unix_nano = e.time_unix_nano } in
      let p2 : EventParts = record p1 { name = e.name } in
      let p3 : EventParts = record p2 { rest = attributes_read e.attributes 0 } in
      let p4 : EventParts = record p3 { rest = attributes_read e.attributes e.dropped_attributes_count } in
      ap (map_read whole_event)
      (merged-again (event_step true) p0 p4 (event_fields e)
      (after (event_step true) p0 p3 p4 (fixed64_field 1 e.time_unix_nano ++ text_field 2 e.name ++ attributes 3 e.attributes) (number_field 4 e.dropped_attributes_count)
      (after (event_step true) p0 p2 p3 (fixed64_field 1 e.time_unix_nano ++ text_field 2 e.name) (attributes 3 e.attributes)
      (after (event_step true) p0 p1 p2 (fixed64_field 1 e.time_unix_nano) (text_field 2 e.name)
      (fixed64-back (event_step true) (λ k. record p0 { time_unix_nano = k }) 1 e.time_unix_nano (lit< tt, lit< tt) time (λ m. refl))
      (text-back (event_step true) (λ t. record p1 { name = t }) 2 e.name (lit< tt, lit< tt) name (λ t. refl)))
      (attributes-back (event_step true) (λ a. record p2 { rest = a }) 3 e.attributes (lit< tt, lit< tt) nest back (λ ys s. refl)))
      (count-back (event_step true) (λ k. record p2 { rest = attributes_read e.attributes k }) 4 e.dropped_attributes_count (lit< tt, lit< tt) count (λ m. refl))) room)
      ∙ ap (λ n. Ok (record { time_unix_nano = e.time_unix_nano; name = e.name; attributes = e.attributes; dropped_attributes_count = n })) (none_dropped e.attributes e.dropped_attributes_count count);
}

-- ---- `Span.Link`

-- an id that is kept as text; F is the state by the text
pub hex-back : {S : Type 0} (step : S → Field → Read S) (F : List ℕ → S) (n : ℕ) (text : List ℕ) → (0 < n) × (n < 2 ^ 29) → encode_lower (unwrap_or (hex_of text) []) ≡ text
    → ((t : List ℕ) → step (F []) (field n (bytes t)) ≡ Ok (F (encode_lower t))) → Reads step (F []) (F text) (hex_field n text)
unfolding encode_with
hex-back {S = S} step F n text number lower is =
    let held : List ℕ = unwrap_or (hex_of text) [] in
    let P : List ℕ → Type 0 = λ t. Reads step (F []) (F t) (text_field n held) in
    subst P lower (bytes-back step (λ t. F (encode_lower t)) n held number is)

pub link-back : (l : Link) → IsUtf8 l.trace_state → AllByRecursion PairReadsBack l.attributes → l.dropped_attributes_count < 2 ^ 32 → l.flags < 2 ^ 32 → LinkReadsBack l
link-back l state back count flags = record {
  again = λ conditions room.
      let p0 : LinkParts = no_link in
      let p1 : LinkParts = record p0 { trace_id = l.trace_id } in
      let p2 : LinkParts = record p1 { span_id = l.span_id } in
      let p3 : LinkParts = record p2 { trace_state = l.trace_state } in
      let p4 : LinkParts = record p3 { rest = attributes_read l.attributes 0 } in
      let p5 : LinkParts = record p4 { rest = attributes_read l.attributes l.dropped_attributes_count } in
      let p6 : LinkParts = record p5 { flags = l.flags } in
      ap (map_read whole_link)
      (merged-again (link_step true) p0 p6 (link_fields l)
      (after (link_step true) p0 p5 p6 (hex_field 1 l.trace_id ++ hex_field 2 l.span_id ++ text_field 3 l.trace_state ++ attributes 4 l.attributes ++ number_field 5 l.dropped_attributes_count) (fixed32_field 6 l.flags)
      (after (link_step true) p0 p4 p5 (hex_field 1 l.trace_id ++ hex_field 2 l.span_id ++ text_field 3 l.trace_state ++ attributes 4 l.attributes) (number_field 5 l.dropped_attributes_count)
      (after (link_step true) p0 p3 p4 (hex_field 1 l.trace_id ++ hex_field 2 l.span_id ++ text_field 3 l.trace_state) (attributes 4 l.attributes)
      (after (link_step true) p0 p2 p3 (hex_field 1 l.trace_id ++ hex_field 2 l.span_id) (text_field 3 l.trace_state)
      (after (link_step true) p0 p1 p2 (hex_field 1 l.trace_id) (hex_field 2 l.span_id)
      (hex-back (link_step true) (λ t. record p0 { trace_id = t }) 1 l.trace_id (lit< tt, lit< tt) conditions.1.0 (λ t. refl))
      (hex-back (link_step true) (λ t. record p1 { span_id = t }) 2 l.span_id (lit< tt, lit< tt) conditions.1.1 (λ t. refl)))
      (text-back (link_step true) (λ t. record p2 { trace_state = t }) 3 l.trace_state (lit< tt, lit< tt) state (λ t. refl)))
      (attributes-back (link_step true) (λ a. record p3 { rest = a }) 4 l.attributes (lit< tt, lit< tt) conditions.0 back (λ ys s. refl)))
      (count-back (link_step true) (λ k. record p3 { rest = attributes_read l.attributes k }) 5 l.dropped_attributes_count (lit< tt, lit< tt) count (λ m. refl)))
      (fixed32-back (link_step true) (λ k. record p5 { flags = k }) 6 l.flags (lit< tt, lit< tt) flags (λ m. refl))) room)
      ∙ ap (λ n. Ok (record l { dropped_attributes_count = n })) (none_dropped l.attributes l.dropped_attributes_count count);
}
