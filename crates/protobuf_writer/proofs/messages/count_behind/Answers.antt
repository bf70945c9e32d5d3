use Rattle.std.proofs.Common.{refl, arith}
use Rattle.protobuf_writer.proofs.Counting.{counted-short}
use Rattle.protobuf_writer.proofs.messages.count_behind.Goals as goal

pub returns-then-count-lt128 : goal.returns-then-count-lt128
returns-then-count-lt128 c = counted-short c.args.out.now.items c.args.at _ _ c.requires (omega arith) c.if-count-lt128.true refl
