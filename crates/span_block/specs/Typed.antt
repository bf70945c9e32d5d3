-- What a span that has a block holds at any depth, for private clauses here and above: texts in UTF-8, numbers within the
-- ranges of their types, and texts for bytes that are written again as they were.
use Rattle.std.specs.Prelude.{◌≡◌, ℕ, zero, suc, ◌<◌, ◌^◌, ◌⊎◌}
use Rattle.std.specs.List.{AllByRecursion}
use Rattle.std.specs.Str.{IsUtf8}
use Rattle.otlp_types.specs.declared.value.AnyValue.{AnyValue, out-AnyValue, Empty}
use Rattle.otlp_types.specs.declared.value.KeyValue.{KeyValue}
use Rattle.otlp_types.specs.declared.span.Event.{Event}
use Rattle.otlp_types.specs.declared.span.Link.{Link}
use Rattle.otlp_types.specs.declared.span.Span.{Span}
use Rattle.otlp_protobuf.specs.Values.{items_in, pairs_in, most_levels}
use Rattle.otlp_protobuf_encode.specs.ReadsBack.{IsLower}
use Rattle.span_block.specs.Holds.{ScalarHolds}

-- a value, where it may nest so many levels deep
unfoldable pub ValueIsTyped : ℕ → AnyValue → Type 0
ValueIsTyped zero v = ⊥
ValueIsTyped (suc levels) v =
    AllByRecursion (ValueIsTyped levels) (items_in (out-AnyValue v))
    × AllByRecursion (λ p. IsUtf8 p.key × ((p.value ≡ Empty) ⊎ ValueIsTyped levels p.value)) (pairs_in (out-AnyValue v))
    × ScalarHolds (out-AnyValue v)

-- the value of a pair: none, or such a one
abbrev pub SetIsTyped : ℕ → AnyValue → Type 0
SetIsTyped levels v = (v ≡ Empty) ⊎ ValueIsTyped levels v

abbrev pub PairIsTyped : ℕ → KeyValue → Type 0
PairIsTyped levels p = IsUtf8 p.key × SetIsTyped levels p.value

pub record EventIsTyped (levels : ℕ) (e : Event) : Type 0 where
  pub time : e.time_unix_nano < 2 ^ 64
  pub name : IsUtf8 e.name
  pub attributes : AllByRecursion (PairIsTyped levels) e.attributes
  pub dropped_attributes : e.dropped_attributes_count < 2 ^ 32

pub record LinkIsTyped (levels : ℕ) (l : Link) : Type 0 where
  pub trace_id : IsLower l.trace_id
  pub span_id : IsLower l.span_id
  pub trace_state : IsUtf8 l.trace_state
  pub attributes : AllByRecursion (PairIsTyped levels) l.attributes
  pub dropped_attributes : l.dropped_attributes_count < 2 ^ 32
  pub flags : l.flags < 2 ^ 32

-- what a span holds in lists
pub record PartsAreTyped (s : Span) : Type 0 where
  pub attributes : AllByRecursion (PairIsTyped most_levels) s.attributes
  pub events : AllByRecursion (EventIsTyped most_levels) s.events
  pub links : AllByRecursion (LinkIsTyped most_levels) s.links
