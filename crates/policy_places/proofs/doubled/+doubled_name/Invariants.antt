use Rattle.std.proofs.Common.{length}
use Rattle.policy_places.proofs.doubled.+doubled_name.Given as goal

abbrev pub decreases-doubled_name : goal.decreases-doubled_name
decreases-doubled_name l = length l.items.now
