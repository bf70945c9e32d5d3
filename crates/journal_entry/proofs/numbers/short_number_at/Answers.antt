use Rattle.std.proofs.Common.{arith}
use Rattle.journal_entry.proofs.LittleEndian.{cut_short, read_short}
use Rattle.journal_entry.proofs.numbers.short_number_at.Goals as goal

pub returns-then-bytes-lt2 : goal.returns-then-bytes-lt2
returns-then-bytes-lt2 c = cut_short c.args.bytes.now (omega arith)

pub returns : goal.returns
returns c = read_short c.args.bytes.now c.from_le_bytes.result (omega arith) c.from_le_bytes.ensures
