use Rattle.std.proofs.Common.{◌≡◌, ◌++◌, take, map}
use Rattle.journal_entry.specs.Bytes.{bit}
use Rattle.journal_entry.proofs.writing.put_answers.Given as goal

abbrev pub invariant-loop-granted : goal.invariant-loop-granted
invariant-loop-granted l = l.out.items ≡ l.fn.out.items ++ map bit (take l.granted-index l.answers)
