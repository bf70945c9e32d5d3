use Rattle.std.proofs.Common.{Bool, length, ap, arith}
use Rattle.json.specs.Print.{print_from}
use Rattle.serde_json.specs.Data.{object}
use Rattle.otlp_json.specs.Tokens.{value_tokens}
use Rattle.otlp_json.specs.Writing.{span_fields}
use Rattle.span_size.proofs.span_size.Goals as goal

pub returns : goal.returns
returns c =
    let tokens = value_tokens (object (span_fields c.args.span.now)) in
    let text = ap (λ (b : Bool). length (print_from b tokens)) c.new-counter.ensures.place in
    let counted = c.count.ensures.bytes 0 c.new-counter.ensures.bytes in
    omega (arith, text, counted)
