use Rattle.policy_places.proofs.Lists.{some_item}
use Rattle.policy_places.proofs.bounds.has_no_items.Goals as goal

pub returns-in-len1-up : goal.returns-in-len1-up
returns-in-len1-up c = some_item c.args.items.now c.in-len1-up.len_at_least
