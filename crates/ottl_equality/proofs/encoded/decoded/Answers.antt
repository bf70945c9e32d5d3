use Rattle.ottl_equality.proofs.Letters.{first, second, third}
use Rattle.ottl_equality.proofs.encoded.decoded.Goals as goal

pub returns-in-First : goal.returns-in-First
returns-in-First c = rw c.in-First.is (first _ _ _ _ _ _ c.in_ok-first.ensures.cases.0 c.in_ok-second.ensures.cases.0 (rw c.in-First.is at c.in_ok-byte.ensures))

pub returns-in-Second : goal.returns-in-Second
returns-in-Second c = rw c.in-Second.is (second _ _ _ _ _ _ c.in_ok-first.ensures.cases.0 c.in_ok-second.ensures.cases.0 (rw c.in-Second.is at c.in_ok-byte.ensures))

pub returns-in-Third : goal.returns-in-Third
returns-in-Third c = rw c.in-Third.is (third _ _ _ _ _ _ c.in_ok-first.ensures.cases.0 c.in_ok-second.ensures.cases.0 (rw c.in-Third.is at c.in_ok-byte.ensures))
