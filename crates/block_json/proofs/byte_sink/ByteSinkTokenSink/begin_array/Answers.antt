use Rattle.std.proofs.Common.{refl}
use Rattle.json.specs.Token.{begin_array}
use Rattle.block_json.proofs.byte_sink.ByteSinkTokenSink.begin_array.Goals as goal

pub returns : goal.returns
returns c = c.token.ensures begin_array (record { size = refl; begin = refl; end = refl })
