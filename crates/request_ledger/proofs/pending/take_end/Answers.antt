-- A span that is handed over is the first with its id, if there is one.
use Rattle.std.proofs.Common.{◌≡◌, ap, sym, ◌∙◌}
use Rattle.request_ledger.specs.declared.pending.LedgerEnd.TheVariants.{Handed}
use Rattle.request_ledger.specs.Pending.{with_oldest, after_end}
use Rattle.request_ledger.proofs.Ends.{after_handed}
use Rattle.request_ledger.proofs.pending.take_end.Goals as goal

pub returns-in-Handed-clause-ended : goal.returns-in-Handed-clause-ended
returns-in-Handed-clause-ended c =
    let is : c.args.end.now ≡ Handed c.in-Handed.field-0 = c.in-Handed.is in
    c.end_oldest.ensures.ended ∙ ap (λ e. with_oldest e 1 c.args.spans.now c.args.ended.now) is ∙ after_handed c.in-Handed.field-0 c.args.spans.now c.args.ended.now ∙ ap (λ e. after_end c.args.spans.now c.args.ended.now e) (sym is)
