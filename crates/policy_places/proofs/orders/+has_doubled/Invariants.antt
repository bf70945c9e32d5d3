use Rattle.std.proofs.Common.{length}
use Rattle.policy_places.proofs.orders.+has_doubled.Given as goal

abbrev pub decreases-has_doubled : goal.decreases-has_doubled
decreases-has_doubled l = length l.items.now
