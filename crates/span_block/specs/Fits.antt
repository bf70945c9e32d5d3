-- Which spans have a block: those that are read again from their canonical bytes. Others nest too deep, or hold a text that
-- stands for bytes and that these bytes aren't read as.
use Rattle.std.specs.Prelude.{◌≡◌, ℕ, zero, suc, ◌⊎◌, None}
use Rattle.std.specs.List.{AllByRecursion}
use Rattle.otlp_types.specs.declared.value.AnyValue.{AnyValue, out-AnyValue, Empty}
use Rattle.otlp_types.specs.declared.value.AnyValue.TheOpen.{AnyValue-F}
use Rattle.otlp_types.specs.declared.value.KeyValue.{KeyValue}
use Rattle.otlp_types.specs.declared.span.Event.{Event}
use Rattle.otlp_types.specs.declared.span.Link.{Link}
use Rattle.otlp_types.specs.declared.span.Span.{Span}
use Rattle.otlp_protobuf.specs.Values.{items_in, pairs_in, most_levels}
use Rattle.otlp_protobuf_encode.specs.Faults.{base64_fault}
use Rattle.otlp_protobuf_encode.specs.ReadsBack.{IsLower, AreIds}
use Rattle.span_block.specs.declared.pack_error.PackError.{PackError}
use Rattle.span_block.specs.declared.pack_error.PackError.TheVariants.{NoBlock, NoMemory}

-- what a value of bytes holds is a base64 text
abbrev pub BytesFit : AnyValue-F AnyValue KeyValue → Type 0
BytesFit (AnyValue-F.Bytes text) = base64_fault text ≡ None
BytesFit _ = Unit {0}

-- a value, where it may nest so many levels deep: a list takes one, and what is in it those below
unfoldable pub ValueFits : ℕ → AnyValue → Type 0
ValueFits zero v = ⊥
ValueFits (suc levels) v =
    AllByRecursion (ValueFits levels) (items_in (out-AnyValue v))
    × AllByRecursion (λ p. (p.value ≡ Empty) ⊎ ValueFits levels p.value) (pairs_in (out-AnyValue v))
    × BytesFit (out-AnyValue v)

-- the value of a pair: none, or one that fits
abbrev pub SetFits : ℕ → AnyValue → Type 0
SetFits levels v = (v ≡ Empty) ⊎ ValueFits levels v

abbrev pub PairFits : ℕ → KeyValue → Type 0
PairFits levels p = SetFits levels p.value

abbrev pub EventFits : ℕ → Event → Type 0
EventFits levels e = AllByRecursion (PairFits levels) e.attributes

-- a link: its ids are lower-case hex digits, two for each byte
pub record LinkFits (levels : ℕ) (l : Link) : Type 0 where
  pub trace_id : IsLower l.trace_id
  pub span_id : IsLower l.span_id
  pub attributes : AllByRecursion (PairFits levels) l.attributes

-- what a span holds
pub record PartsFit (s : Span) : Type 0 where
  pub attributes : AllByRecursion (PairFits most_levels) s.attributes
  pub events : AllByRecursion (EventFits most_levels) s.events
  pub links : AllByRecursion (LinkFits most_levels) s.links

-- A span has a block. Its ids are ids, as each value of these types is.
pub record HasBlock (s : Span) : Type 0 where
  pub ids : AreIds s.ids
  pub parts : PartsFit s

-- what is refused doesn't hold; where memory is refused nothing is said
abbrev pub Refuses : Type 0 → PackError → Type 0
Refuses P NoBlock = ¬ P
Refuses P NoMemory = Unit {0}
