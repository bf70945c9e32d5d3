use Rattle.ottl_text.specs.Syntax.{term_of}
use Rattle.ottl_condition.specs.Workrooms.{Serves}
use Rattle.ottl_cases.proofs.say.Given as goal

abbrev pub invariant-loop : goal.invariant-loop
invariant-loop l = Serves l.workroom (term_of l.condition)
