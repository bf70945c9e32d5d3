use Rattle.std.proofs.Common.{◌≡◌, take}
use Rattle.drop_ledger.specs.Sums.{AreSums, Fits}
use Rattle.drop_ledger.proofs.summing.total.Given as goal

abbrev pub invariant-loop-report : goal.invariant-loop-report
invariant-loop-report l = record {
  sums : AreSums (take l.report-index l.reports) l.sum;
  fits : Fits l.sum;
}
