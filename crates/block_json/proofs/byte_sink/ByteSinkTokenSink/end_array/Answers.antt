use Rattle.std.proofs.Common.{refl}
use Rattle.json.specs.Token.{end_array}
use Rattle.block_json.proofs.byte_sink.ByteSinkTokenSink.end_array.Goals as goal

pub returns : goal.returns
returns c = c.token.ensures end_array (record { size = refl; begin = refl; end = refl })
