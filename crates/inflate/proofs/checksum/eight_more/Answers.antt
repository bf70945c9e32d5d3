use Rattle.std.proofs.Common.{◌<◌, arith}
use Rattle.std.specs.Prelude.{bit_and}
use Rattle.std.proofs.lemmas.Nat.{and_le_r}
use Rattle.inflate.proofs.Remainders.{eight_by_table}
use Rattle.inflate.proofs.checksum.eight_more.Goals as goal

pub returns : goal.returns
returns c =
    let low : bit_and c.args.crc 255 < 256 = omega (arith, and_le_r c.args.crc 255) in
    eight_by_table c.args.crc _ (c.requires (bit_and c.args.crc 255) low)
