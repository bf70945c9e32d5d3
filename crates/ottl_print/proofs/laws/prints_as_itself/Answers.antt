use Rattle.ottl_print.proofs.Law.{law}
use Rattle.ottl_print.proofs.laws.prints_as_itself.Goals as goal

pub returns : goal.returns
returns c = record { reads_back = law }
