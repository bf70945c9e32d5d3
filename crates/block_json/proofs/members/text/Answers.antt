use Rattle.std.proofs.Common.{sym, ◌∙◌}
use Rattle.serde_json.specs.Data.{string}
use Rattle.otlp_json.specs.Writing.{text_field}
use Rattle.span_size.proofs.Defaults.{no-text, some-text}
use Rattle.block_json.proofs.Adding.{absent, member}
use Rattle.block_json.proofs.members.text.Goals as goal

pub returns-then-is_empty : goal.returns-then-is_empty
returns-then-is_empty g c = absent g.met.S.TokenSink.composes c.args.name.now (text_field c.args.text.now) c.args.out.now (no-text c.args.text.now (sym c.is_empty.ensures ∙ c.if-is_empty.true))

pub returns : goal.returns
returns g c =
    let some = some-text c.args.text.now (sym c.is_empty.ensures ∙ c.if-is_empty.false) in
    member g.met.S.TokenSink.composes c.args.name.now (text_field c.args.text.now) (string c.args.text.now) c.args.out.now c.key.new.self c.string.new.self some c.key.ensures c.string.ensures
