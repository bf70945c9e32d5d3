use Rattle.std.proofs.Common.{refl}
use Rattle.json.specs.Token.{string}
use Rattle.span_size.proofs.Escapes.{string-size}
use Rattle.block_json.proofs.byte_sink.ByteSink.text.Goals as goal

pub returns : goal.returns
returns c = c.token.ensures (string c.args.text.now) (record { size = string-size c.args.text.now _ _ c.escaped_len.ensures c.saturating_add.ensures; begin = refl; end = refl })
