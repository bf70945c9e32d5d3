use Rattle.journal_entry.proofs.Whole.{back_of}
use Rattle.journal_entry.proofs.reading.entry_in.Goals as goal

pub returns-clause-back : goal.returns-clause-back
returns-clause-back c = back_of c.args.bytes.now c.read.result c.read.ensures.entry c.read.ensures.none
