use Rattle.std.proofs.Common.{◌≡◌, ◌++◌, length, take}
use Rattle.script_line.specs.Line.{on_one_line}
use Rattle.script_line.proofs.putting.put_on_one_line.Given as goal

-- what was appended so far, with the rest on one line, is the whole, behind the bytes that were there
abbrev pub invariant-loop-at : goal.invariant-loop-at
invariant-loop-at l = (l.line.items ++ on_one_line l.rest ≡ l.fn.line.items ++ on_one_line l.text) × (take (length l.fn.line.items) l.line.items ≡ l.fn.line.items)

abbrev pub decreases-loop-at : goal.decreases-loop-at
decreases-loop-at l = length l.rest
