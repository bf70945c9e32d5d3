use Rattle.shared_budget.proofs.AllNodes.{new_are_of_one}
use Rattle.parts_tests.proofs.tests.seats.seconds_grant.Goals as goal

pub loop-second-init : goal.loop-second-init
loop-second-init g c = (new_are_of_one _ _ _ c.in_ok-seats.ensures, c.in_ok-seats.ensures.0)
