use Rattle.std.proofs.Common.{◌≡◌, refl, sym, ap, ◌∙◌}
use Rattle.base64.specs.Engines.{standard}
use Rattle.base64.specs.GeneralPurpose.{encode_of}
use Rattle.json.specs.Token.{string}
use Rattle.span_size.specs.Counting.{capped}
use Rattle.span_size.proofs.Escapes.{escaped, string-size}
use Rattle.block_json.proofs.Counted.{escaped-base64}
use Rattle.block_json.proofs.byte_sink.ByteSinkTokenSink.base64.Goals as goal

pub returns : goal.returns
returns c =
    let plain = escaped-base64 c.args.bytes.now (λ i. (c.type_inv.bytes i).fits) in
    let text : c.base64_len.result ≡ capped (escaped (encode_of standard c.args.bytes.now)) = c.base64_len.ensures ∙ ap capped (sym plain) in
    c.token.ensures (string (encode_of standard c.args.bytes.now)) (record { size = string-size (encode_of standard c.args.bytes.now) _ _ text c.saturating_add.ensures; begin = refl; end = refl })
