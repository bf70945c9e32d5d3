use Rattle.std.proofs.Common.{refl, arith}
use Rattle.json.specs.Token.{number}
use Rattle.block_json.proofs.byte_sink.ByteSink.number.Goals as goal

pub returns : goal.returns
returns c = c.token.ensures (number c.args.text.now) (record { size = omega arith; begin = refl; end = refl })
