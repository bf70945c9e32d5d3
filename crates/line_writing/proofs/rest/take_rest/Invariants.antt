use Rattle.line_writing.proofs.Resting.{Resting}
use Rattle.line_writing.proofs.rest.take_rest.Given as goal

abbrev pub invariant-loop : goal.invariant-loop
invariant-loop g l = Resting g.S.EntrySource.gives l.fn.source l.source l.lost
