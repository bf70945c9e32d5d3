-- A block is read as its span.
-- For the invariant of block.rt, and its clauses.
use Rattle.std.proofs.Common.{◌≡◌, ℕ, ◌<◌, ◌^◌, List, [], ◌++◌, length, None, Some, Ok, unwrap_or, sym, ◌∙◌, ap, subst}
use Rattle.std.specs.Result.{result_ok}
use Rattle.otlp_types.specs.Empty.{plain_span}
use Rattle.otlp_types.specs.declared.span.Span.{Span}
use Rattle.protobuf_wire.specs.Wire.{fields_of}
use Rattle.protobuf_writer.specs.Writing.{message_bytes, Adds}
use Rattle.otlp_protobuf_encode.specs.Writing.{span_fields}
use Rattle.otlp_protobuf_encode.specs.ReadsBack.{PairReadsBack, SpanReadsBack, TailHolds}
use Rattle.otlp_protobuf_encode.proofs.SpansBack.{span-back}
use Rattle.span_block.specs.Block.{block_of, span_of, held}
use Rattle.span_block.specs.Fits.{HasBlock}
use Rattle.span_block.specs.Holds.{PairHolds, PartsHold, SpanHolds}
use Rattle.span_block.specs.Typed.{PartsAreTyped}
use Rattle.span_block.specs.Packed.{IsBlock}
use Rattle.span_block.proofs.Fields.{span_read}
use Rattle.span_block.proofs.Nests.{each, span_reads}

tail_holds : (s : Span) → PartsHold s → TailHolds s
tail_holds s h = record {
  attributes = each PairHolds PairReadsBack (λ p g. g.back) s.attributes h.attributes;
  dropped_attributes = h.dropped_attributes;
  events = h.events;
  dropped_events = h.dropped_events;
  links = h.links;
  dropped_links = h.dropped_links;
  status = h.status.back;
  flags = h.flags;
}

pub span_back : (s : Span) → SpanHolds s → SpanReadsBack s
span_back s h = span-back s h.head h.times (tail_holds s h.parts)

-- as far as it has room
pub block_is_read : (s : Span) → HasBlock s → SpanHolds s → length (block_of s) < 2 ^ 64 → span_of (block_of s) ≡ Some s
unfolding span_of
block_is_read s fits holds room = ap result_ok ((span_back s holds).again (span_reads s fits) room)

pub held_is : (s : Span) (bytes : List ℕ) → span_of bytes ≡ Some s → held bytes ≡ s
unfolding held
held_is s bytes e = ap (λ o. unwrap_or o (plain_span None 0 0 0)) e

pub read_of : (s : Span) (bytes : List ℕ) → HasBlock s → SpanHolds s → bytes ≡ block_of s → length bytes < 2 ^ 64 → span_of bytes ≡ Some s
read_of s bytes fits holds e room =
    let P : List ℕ → Type 0 = λ b. length b < 2 ^ 64 in
    ap span_of e ∙ block_is_read s fits holds (subst P e room)

pub is_block : (s : Span) (bytes : List ℕ) → HasBlock s → SpanHolds s → PartsAreTyped s → bytes ≡ block_of s → length bytes < 2 ^ 64 → IsBlock bytes
is_block s bytes fits holds typed e room =
    let same : s ≡ held bytes = sym (held_is s bytes (read_of s bytes fits holds e room)) in
    record { fits = subst HasBlock same fits; holds = subst SpanHolds same holds; typed = subst PartsAreTyped same typed; written = e ∙ ap block_of same }

-- of the bytes of a block
pub block_read : (bytes : List ℕ) → IsBlock bytes → length bytes < 2 ^ 64 → span_of bytes ≡ Some (held bytes)
block_read bytes b room = read_of (held bytes) bytes b.fits b.holds b.written room

pub held_of : (s : Span) (bytes : List ℕ) → HasBlock s → SpanHolds s → bytes ≡ block_of s → length bytes < 2 ^ 64 → held bytes ≡ s
held_of s bytes fits holds e room = held_is s bytes (read_of s bytes fits holds e room)

-- what was added to nothing
pub of_nothing : (a b : List ℕ) (s : Span) → a ≡ [] → Adds a b (span_fields s) → b ≡ block_of s
of_nothing a b s start adds = adds ∙ ap (λ t. t ++ message_bytes (span_fields s)) start

pub block_fields : (bytes : List ℕ) → IsBlock bytes → length bytes < 2 ^ 64 → fields_of bytes ≡ Ok (span_fields (held bytes))
block_fields bytes b room = span_read (held bytes) bytes b.holds b.written room
