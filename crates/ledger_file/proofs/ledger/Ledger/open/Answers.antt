-- The file keeps its records, and the ledger goes on behind them: `same` and `rests` of `Ledger::open`.
use Rattle.ledger_file.proofs.Commits.{has, keeps_read}
use Rattle.ledger_file.proofs.ledger.Ledger.open.Goals as goal

pub returns-in-Ok-clause-same : goal.returns-in-Ok-clause-same
returns-in-Ok-clause-same g c clean =
    let r = c.in-Ok.ensures.rests clean in
    has _ r.known _ r.fit _ (r.each _ (g.met.D.Disk.seen_may_stay c.recover.new.disk))

pub returns-in-Ok-clause-rests : goal.returns-in-Ok-clause-rests
returns-in-Ok-clause-rests g c clean ready =
    let r = c.in-Ok.ensures.rests clean in
    keeps_read _ r.known _ r.fit g.D.Disk.may_leave _ _ (has _ r.known _ r.fit _ (r.each _ (g.met.D.Disk.seen_may_stay c.recover.new.disk)))
    (record { known = r.known; fit = r.fit; seed = c.in-Ok.ensures.batch.1 clean; end = r.place; each = r.each })
