use Rattle.std.proofs.Common.{refl, arith}
use Rattle.span_size.proofs.Counts.{token-added}
use Rattle.span_size.proofs.counter.ByteCounter.token.Goals as goal

pub returns : goal.returns
returns c = λ t is. token-added c.args.self.now _ t c.args.bytes c.args.begins_value c.args.ends_value is (omega arith) refl
