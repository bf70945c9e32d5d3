use Rattle.policy_tree.proofs.Walks as walks
use Rattle.policy_tree.proofs.laws.limiters_are_of_the_walk.Goals as goal

pub returns : goal.returns
returns c = walks.limiters_are_of_the_walk
