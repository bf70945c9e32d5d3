-- What was written behind some bytes is the text of a span.
-- For put_span of lib.rt.
use Rattle.std.proofs.Common.{◌≡◌, false, List, ℕ, [], ◌++◌, ap, ◌∙◌}
use Rattle.json.specs.Token.{Token}
use Rattle.json.specs.Print.{print}
use Rattle.serde_json.specs.Data.{object}
use Rattle.otlp_types.specs.declared.span.Span.{Span}
use Rattle.otlp_json.specs.Tokens.{value_tokens}
use Rattle.otlp_json.specs.Writing.{span_fields}
use Rattle.block_json.specs.declared.json_sink.JsonSink.{JsonSink}
use Rattle.block_json.specs.Text.{span_text}
use Rattle.block_json.specs.Writing.{Writes}

pub whole_text : (a b : JsonSink) (s : Span) → a.writer.tokens ≡ [] → Writes a b (value_tokens (object (span_fields s))) → b.failed ≡ false
    → b.writer.before ++ print b.writer.tokens ≡ a.writer.before ++ span_text s
whole_text a b s none written well =
    let k = written well in
    ap (λ (front : List ℕ). front ++ print b.writer.tokens) k.1
    ∙ ap (λ (ts : List Token). a.writer.before ++ print ts) (k.2 ∙ ap (λ (ts : List Token). ts ++ value_tokens (object (span_fields s))) none)
