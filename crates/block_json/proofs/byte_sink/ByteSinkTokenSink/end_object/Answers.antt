use Rattle.std.proofs.Common.{refl}
use Rattle.json.specs.Token.{end_object}
use Rattle.block_json.proofs.byte_sink.ByteSinkTokenSink.end_object.Goals as goal

pub returns : goal.returns
returns c = c.token.ensures end_object (record { size = refl; begin = refl; end = refl })
