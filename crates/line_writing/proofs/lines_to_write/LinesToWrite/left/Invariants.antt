use Rattle.std.proofs.Common.{◌≡◌, ◌==◌, ◌≤◌, take}
use Rattle.std.specs.List.{count_by}
use Rattle.line_writing.proofs.lines_to_write.LinesToWrite.left.Given as goal

-- the lines that end in the bytes so far
abbrev pub invariant-loop-byte : goal.invariant-loop-byte
invariant-loop-byte l = (l.lines ≡ count_by (λ byte. byte == 10) (take l.byte-index l.byte-items)) × (l.lines ≤ l.byte-index)
