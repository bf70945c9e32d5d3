use Rattle.span_size.proofs.Totals.{one-adds}
use Rattle.span_size.proofs.laws.sizes_add.Goals as goal

pub returns : goal.returns
returns c = one-adds
