use Rattle.std.proofs.Common.{refl}
use Rattle.json.specs.Token.{begin_object}
use Rattle.block_json.proofs.byte_sink.ByteSinkTokenSink.begin_object.Goals as goal

pub returns : goal.returns
returns c = c.token.ensures begin_object (record { size = refl; begin = refl; end = refl })
