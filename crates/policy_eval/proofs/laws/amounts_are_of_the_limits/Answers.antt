-- What each limiter node is asked for.
-- For `amounts_are_of_the_limits`.
use Rattle.policy_eval.specs.AskingLaws.{amounts_are}
use Rattle.policy_eval.proofs.laws.amounts_are_of_the_limits.Goals as goal

pub returns : goal.returns
returns c = amounts_are
