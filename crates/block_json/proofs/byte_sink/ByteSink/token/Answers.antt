use Rattle.std.proofs.Common.{refl, arith}
use Rattle.block_json.proofs.Counted.{token-added}
use Rattle.block_json.proofs.byte_sink.ByteSink.token.Goals as goal

pub returns : goal.returns
returns c = λ t is. token-added c.args.self.now _ t c.args.bytes c.args.begins_value c.args.ends_value is (omega arith) refl
