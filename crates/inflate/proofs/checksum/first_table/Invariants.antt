use Rattle.std.proofs.Common.{◌≡◌, ℕ, ◌<◌, get_or, length}
use Rattle.inflate.specs.Checksum.{divided_by}
use Rattle.inflate.proofs.checksum.first_table.Given as goal

abbrev pub invariant-loop-i : goal.invariant-loop-i
invariant-loop-i l = (length l.table ≡ 256) × ((k : ℕ) → k < l.i → get_or l.table k 0 ≡ divided_by 8 k)
