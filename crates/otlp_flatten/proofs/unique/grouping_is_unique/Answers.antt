use Rattle.otlp_flatten.proofs.Determined.{grouping-determined}
use Rattle.otlp_flatten.proofs.unique.grouping_is_unique.Goals as goal

pub returns : goal.returns
returns c = grouping-determined
