use Rattle.script_laws.proofs.Shards.{scripts_hand_over_sampled, scripts_hand_over_no_other}
use Rattle.script_laws.proofs.laws.scripts_hand_over_what_was_sampled.Goals as goal

pub returns-clause-sampled : goal.returns-clause-sampled
returns-clause-sampled c = scripts_hand_over_sampled

pub returns-clause-only : goal.returns-clause-only
returns-clause-only c = scripts_hand_over_no_other
