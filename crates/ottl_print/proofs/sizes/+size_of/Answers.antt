use Rattle.std.proofs.Common.{refl}
use Rattle.ottl_print.proofs.sizes.+size_of.Goals as goal

pub returns-in-Literal-clause-size : goal.returns-in-Literal-clause-size
returns-in-Literal-clause-size t c = rw c.in-Literal.is (c.alone.ensures.same 2 refl)

pub returns-in-IsRootSpan-clause-size : goal.returns-in-IsRootSpan-clause-size
returns-in-IsRootSpan-clause-size t c = rw c.in-IsRootSpan.is (c.alone-in-IsRootSpan.ensures.same 2 refl)
