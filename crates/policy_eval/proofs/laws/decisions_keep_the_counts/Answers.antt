use Rattle.policy_eval.specs.AskingLaws.{decides_by_counts}
use Rattle.policy_eval.proofs.laws.decisions_keep_the_counts.Goals as goal

pub returns : goal.returns
returns c = decides_by_counts
