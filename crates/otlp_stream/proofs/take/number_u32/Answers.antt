use Rattle.std.proofs.Common.{arith}
use Rattle.otlp_stream.proofs.Takes.{u32_of_u64}
use Rattle.otlp_stream.proofs.take.number_u32.Goals as goal

pub returns-then-n-le4294967295 : goal.returns-then-n-le4294967295
returns-then-n-le4294967295 c depth = u32_of_u64 depth _ _ _ (c.in_ok-n.ensures depth) (omega arith)
