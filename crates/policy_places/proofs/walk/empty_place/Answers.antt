use Rattle.policy_places.proofs.Lists.{not_empty}
use Rattle.policy_places.proofs.walk.empty_place.Goals as goal

pub returns-in-len1-up : goal.returns-in-len1-up
returns-in-len1-up c = not_empty c.args.place.now c.args.items.now c.in-len1-up.len_at_least
