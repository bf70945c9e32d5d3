use Rattle.std.proofs.Common.{arith}
use Rattle.journal_entry.proofs.Whole.{entry_found}
use Rattle.journal_entry.proofs.reading.read.Goals as goal

pub returns-clause-entry : goal.returns-clause-entry
returns-clause-entry c =
    entry_found c.args.bytes.now c.in_ok-version.left.now c.in_ok-refused.left.now c.in_ok-lost.left.now c.in_ok-answers.left.now c.in_ok-version.version
    (record { item = c.in_ok-item.item; refused = c.in_ok-refused.refused; lost = c.in_ok-lost.lost; answers = c.in_ok-answers.answers })
    c.in_ok-version.ensures (omega arith) c.in_ok-refused.ensures c.in_ok-lost.ensures c.in_ok-answers.ensures c.in_ok-item.ensures.ok
