use Rattle.core_laws.proofs.Against.{none_against, always_sample_samples_all}
use Rattle.core_laws.proofs.laws.always_sample_drops_none.Goals as goal

pub returns-clause-none : goal.returns-clause-none
returns-clause-none c = none_against

pub returns-clause-always : goal.returns-clause-always
returns-clause-always c = always_sample_samples_all
