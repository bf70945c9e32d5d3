use Rattle.std.proofs.Common.{sym, ◌∙◌}
use Rattle.hex.specs.Hex.{encode_lower}
use Rattle.serde_json.specs.Data.{string}
use Rattle.otlp_json.specs.Writing.{text_field}
use Rattle.block_json.proofs.Found.{no-hex, some-hex}
use Rattle.block_json.proofs.Adding.{absent, member}
use Rattle.block_json.proofs.members.hex.Goals as goal

pub returns-then-is_empty : goal.returns-then-is_empty
returns-then-is_empty g c = absent g.met.S.TokenSink.composes c.args.name.now (text_field (encode_lower c.args.bytes.now)) c.args.out.now (no-hex c.args.bytes.now (sym c.is_empty.ensures ∙ c.if-is_empty.true))

pub returns : goal.returns
returns g c =
    let some = some-hex c.args.bytes.now (sym c.is_empty.ensures ∙ c.if-is_empty.false) in
    member g.met.S.TokenSink.composes c.args.name.now (text_field (encode_lower c.args.bytes.now)) (string (encode_lower c.args.bytes.now)) c.args.out.now c.key.new.self c.hex.new.self some c.key.ensures c.hex.ensures
