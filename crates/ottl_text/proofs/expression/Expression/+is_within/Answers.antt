use Rattle.ottl_text.proofs.Within.{none_within}
use Rattle.ottl_text.proofs.expression.Expression.+is_within.Goals as goal

pub returns-then-most-eq0 : goal.returns-then-most-eq0
returns-then-most-eq0 t c = none_within _ _ c.if-most-eq0.true
