use Rattle.std.proofs.Common.{◌≡◌, refl, arith}
use Rattle.hex.specs.Hex.{encode_lower}
use Rattle.json.specs.Token.{string}
use Rattle.span_size.specs.Counting.{capped}
use Rattle.span_size.proofs.Escapes.{escaped, string-size, escaped-hex}
use Rattle.block_json.proofs.byte_sink.ByteSinkTokenSink.hex.Goals as goal

pub returns : goal.returns
returns c =
    let plain = escaped-hex c.args.bytes.now (λ i. (c.type_inv.bytes i).fits) in
    let text : c.saturating_mul-digits.result ≡ capped (escaped (encode_lower c.args.bytes.now)) = omega (arith, plain) in
    c.token.ensures (string (encode_lower c.args.bytes.now)) (record { size = string-size (encode_lower c.args.bytes.now) _ _ text c.saturating_add.ensures; begin = refl; end = refl })
