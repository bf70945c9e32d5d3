use Rattle.ottl_print.proofs.NotDeep.{not_deep}
use Rattle.ottl_print.proofs.laws.is_not_deep.Goals as goal

pub returns : goal.returns
returns c = record { at_most_600 = not_deep }
