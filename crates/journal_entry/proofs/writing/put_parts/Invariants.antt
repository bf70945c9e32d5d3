use Rattle.std.proofs.Common.{◌≡◌, ◌++◌, ◌∷◌, [], take}
use Rattle.std.specs.Prelude.{flat_map}
use Rattle.journal_entry.specs.Bytes.{bit, bytes_of_answers}
use Rattle.journal_entry.proofs.writing.put_parts.Given as goal

abbrev pub invariant-loop-decision : goal.invariant-loop-decision
invariant-loop-decision l = l.out.items ≡ (l.fn.out.items ++ 1 ∷ bit l.fn.refused ∷ bit l.fn.lost ∷ []) ++ flat_map bytes_of_answers (take l.decision-index l.answers)
