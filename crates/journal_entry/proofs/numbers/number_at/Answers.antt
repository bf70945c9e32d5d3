use Rattle.std.proofs.Common.{arith}
use Rattle.journal_entry.proofs.LittleEndian.{cut_long, read_long}
use Rattle.journal_entry.proofs.numbers.number_at.Goals as goal

pub returns-then-bytes-lt8 : goal.returns-then-bytes-lt8
returns-then-bytes-lt8 c = cut_long c.args.bytes.now (omega arith)

pub returns : goal.returns
returns c = read_long c.args.bytes.now c.from_le_bytes-number.result (omega arith) c.from_le_bytes-number.ensures
