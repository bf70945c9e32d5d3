use Rattle.decision_line.specs.Line.{count}
use Rattle.comparison_text.proofs.InOrder.{AreWritten}
use Rattle.comparison_text.proofs.putting.put_numbers.Given as goal

-- those so far are written
abbrev pub invariant-loop-number : goal.invariant-loop-number
invariant-loop-number l = AreWritten count l.numbers l.initial.out l.out l.number-index
