use Rattle.woven_laws.proofs.Shards.{threads_hand_over_sampled, threads_hand_over_no_other}
use Rattle.woven_laws.proofs.laws.threads_hand_over_what_was_sampled.Goals as goal

pub returns-clause-sampled : goal.returns-clause-sampled
returns-clause-sampled c = threads_hand_over_sampled

pub returns-clause-only : goal.returns-clause-only
returns-clause-only c = threads_hand_over_no_other
