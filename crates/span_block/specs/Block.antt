-- The block of a span: the canonical bytes of `Span` (OTLP 1.x, `trace.proto` v1), as `otlp_protobuf_encode` has them, and
-- what is read from them.
use Rattle.std.specs.Prelude.{ℕ, true, List, Option, None, unwrap_or}
use Rattle.std.specs.Result.{result_ok}
use Rattle.otlp_types.specs.Empty.{plain_span}
use Rattle.otlp_types.specs.declared.span.Span.{Span}
use Rattle.protobuf_writer.specs.Writing.{message_bytes}
use Rattle.otlp_protobuf.specs.Reading.{span}
use Rattle.otlp_protobuf_encode.specs.Writing.{span_fields}

-- the fields of `Span` in order of their numbers, none that has its default, each number in as few bytes as hold it
abbrev pub block_of : Span → List ℕ
block_of s = message_bytes (span_fields s)

-- the span that bytes are read as; doubles are kept
unfoldable pub span_of : List ℕ → Option Span
span_of bytes = result_ok (span true bytes)

-- the span of a block: other bytes have none
unfoldable pub held : List ℕ → Span
held bytes = unwrap_or (span_of bytes) (plain_span None 0 0 0)
