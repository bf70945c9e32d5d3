use Rattle.ottl_condition.proofs.Wholes.{is_whole, is_not_whole}
use Rattle.ottl_condition.proofs.conversions.whole.Goals as goal

pub returns-in-Ok-clause-whole : goal.returns-in-Ok-clause-whole
returns-in-Ok-clause-whole c = is_whole c.args.bytes.now _ c.in-Ok.ensures.cases.0 c.in-Ok.ensures.cases.1

pub returns-in-Err-clause-whole : goal.returns-in-Err-clause-whole
returns-in-Err-clause-whole c = is_not_whole c.args.bytes.now c.in-Err.ensures.cases.0
