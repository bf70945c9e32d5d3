use Rattle.request_ledger.proofs.Found.{in_records}
use Rattle.request_ledger.proofs.laws.records_read_back.Goals as goal

pub returns : goal.returns
returns c = in_records
