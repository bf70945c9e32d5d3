use Rattle.std.proofs.Common.{◌≡◌, ◌+◌, ◌++◌, ◌∷◌, ◌∙◌, take, drop, sym, ap, subst}
use Rattle.std.proofs.lemmas.List.{take-append-drop, drop_more}
use Rattle.drop_ledger.specs.Sums.{SumPasses}
use Rattle.drop_ledger.proofs.Summed.{passes_more}
use Rattle.drop_ledger.proofs.summing.total.Goals as goal

pub returns-in-Err-clause-full : goal.returns-in-Err-clause-full
returns-in-Err-clause-full c =
    let reports = c.args.reports.now in
    let place = c.loop-report.report-index in
    let rest = drop (place + 1) reports in
    let all = ap (λ z. take place reports ++ z) (ap (λ r. r ∷ rest) c.report-item.is ∙ sym (drop_more reports place c.report-item.result c.loop-report-test.true)) ∙ take-append-drop place reports in
    subst SumPasses all (passes_more (take place reports) rest c.report-item.result c.loop-report.sum c.loop-report.invariant.sums c.in-Err.ensures.full)
