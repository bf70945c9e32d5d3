-- The tokens that a writer is given for fields and objects. For private clauses.
use Rattle.std.specs.Prelude.{◌≡◌, ℕ, List, [], ◌∷◌, ◌++◌, map, codes, Option, Some, None}
use Rattle.json.specs.Token.{Token, key}
use Rattle.json.specs.Tree.{json_tokens}
use Rattle.json.specs.Written.{Written}
use Rattle.serde_json.specs.Data.{Data, object, Members}
use Rattle.otlp_json.specs.Outline.{outline}
use Rattle.otlp_types.specs.declared.span.Span.{Span}
use Rattle.otlp_json.specs.Writing.{text_field, u32_field, u64_field, enum_field, message_field, list_field, attributes_field, trace_field, span_field, parent_field, status_fields, event_fields, link_fields}

-- a value's tokens
abbrev pub value_tokens : Data → List Token
value_tokens d = json_tokens (outline d)

-- those of a field, which may be left out
abbrev pub field_tokens : List ℕ → Option Data → List Token
field_tokens name None = []
field_tokens name (Some d) = key name ∷ value_tokens d

-- those of objects, one after the other
abbrev pub objects_tokens : List Members → List Token
objects_tokens [] = []
objects_tokens (ms ∷ rest) = value_tokens (object ms) ++ objects_tokens rest

-- these tokens were written, and nothing else
abbrev pub Adds : (old new : Written) → List Token → Type 0
Adds old new ts = (new.before ≡ old.before) × (new.tokens ≡ old.tokens ++ ts)

-- this field was written
abbrev pub AddsField : (old new : Written) → List ℕ → Option Data → Type 0
AddsField old new name field = Adds old new (field_tokens name field)

-- this object was written
abbrev pub AddsObject : (old new : Written) → Members → Type 0
AddsObject old new ms = Adds old new (value_tokens (object ms))

-- ---- a span's fields, in three parts

-- the attributes and the counts
abbrev pub span_counts : Span → List Token
span_counts s =
    field_tokens (codes "attributes") (attributes_field s.attributes)
    ++ (field_tokens (codes "droppedAttributesCount") (u32_field s.dropped_attributes_count)
    ++ (field_tokens (codes "droppedEventsCount") (u32_field s.dropped_events_count)
    ++ field_tokens (codes "droppedLinksCount") (u32_field s.dropped_links_count)))

-- the fields from `endTimeUnixNano` to `kind`
abbrev pub span_head : Span → List Token
span_head s =
    field_tokens (codes "endTimeUnixNano") (u64_field s.end_time_unix_nano)
    ++ (field_tokens (codes "events") (list_field (map event_fields s.events))
    ++ (field_tokens (codes "flags") (u32_field s.flags)
    ++ field_tokens (codes "kind") (enum_field s.kind)))

-- the fields from `links` on
abbrev pub span_tail : Span → List Token
span_tail s =
    field_tokens (codes "links") (list_field (map link_fields s.links))
    ++ (field_tokens (codes "name") (text_field s.name)
    ++ (field_tokens (codes "parentSpanId") (parent_field s.ids)
    ++ (field_tokens (codes "spanId") (span_field s.ids)
    ++ (field_tokens (codes "startTimeUnixNano") (u64_field s.start_time_unix_nano)
    ++ (field_tokens (codes "status") (message_field (status_fields s.status))
    ++ (field_tokens (codes "traceId") (trace_field s.ids)
    ++ field_tokens (codes "traceState") (text_field s.trace_state)))))))
