use Rattle.tsc_config.proofs.PolicyKeys.{reads_policies}
use Rattle.tsc_config.proofs.laws.policies_are_of_their_keys.Goals as goal

pub returns : goal.returns
returns c = reads_policies
