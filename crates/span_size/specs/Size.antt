-- The size of spans: the bytes of their canonical texts (OTLP 1.x, JSON encoding).
use Rattle.std.specs.Prelude.{◌≡◌, ◌≢◌, ℕ, ◌+◌, ◌-◌, ◌^◌, ◌<◌, min, List, [], ◌∷◌, ◌++◌, length}
use Rattle.serde_json.specs.Data.{object}
use Rattle.otlp_types.specs.declared.span.Span.{Span}
use Rattle.otlp_types.specs.declared.arrival.Arrival.{Arrival}
use Rattle.otlp_json.specs.Outline.{text_of}
use Rattle.otlp_json.specs.Writing.{span_fields}

-- the canonical text of a span: its object in the text of a request that has it
abbrev pub span_text : Span → List ℕ
span_text s = text_of (object (span_fields s))

-- the bytes of all these spans' texts
abbrev pub total : List Arrival → ℕ
total [] = 0
total (a ∷ rest) = length (span_text a.rec.span) + total rest

-- the size of spans, in bytes: it is counted up to 2^64 - 1
unfoldable pub size_of : List Arrival → ℕ
size_of spans = min (total spans) (2 ^ 64 - 1)

-- spans have a size above 0
abbrev pub SpansHaveSize : Type 0
SpansHaveSize = (spans : List Arrival) → spans ≢ [] → 0 < size_of spans

-- one span more adds its own size
abbrev pub SizesAdd : Type 0
SizesAdd = (spans : List Arrival) (a : Arrival) → size_of (spans ++ a ∷ []) ≡ min (size_of spans + size_of (a ∷ [])) (2 ^ 64 - 1)
