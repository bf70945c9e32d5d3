use Rattle.script_line.proofs.Entries.{read-back}
use Rattle.script_line.proofs.laws.entries_read_back.Goals as goal

pub returns : goal.returns
returns c = read-back
