use Rattle.core_laws.proofs.Bounds.{waiting_traces_are_few, waiting_bytes_are_few}
use Rattle.core_laws.proofs.laws.waiting_is_bounded.Goals as goal

pub returns-clause-traces : goal.returns-clause-traces
returns-clause-traces c = waiting_traces_are_few

pub returns-clause-bytes : goal.returns-clause-bytes
returns-clause-bytes c = waiting_bytes_are_few
