use Rattle.core_laws.proofs.Only.{only_sampled_comes_out}
use Rattle.core_laws.proofs.Out.{sampled_comes_out, late_follows_out}
use Rattle.core_laws.proofs.laws.sampled_comes_out.Goals as goal

pub returns-clause-decided : goal.returns-clause-decided
returns-clause-decided c = sampled_comes_out

pub returns-clause-late : goal.returns-clause-late
returns-clause-late c = late_follows_out

pub returns-clause-only : goal.returns-clause-only
returns-clause-only c = only_sampled_comes_out
