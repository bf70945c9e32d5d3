-- The canonical text of a span, as it stands in the text of a request that has it (OTLP 1.x, JSON encoding).
pub use Rattle.span_size.specs.Size.{span_text}
