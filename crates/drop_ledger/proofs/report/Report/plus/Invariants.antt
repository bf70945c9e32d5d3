use Rattle.std.proofs.Common.{◌≡◌, ◌+◌, ◌^◌, ◌<◌, length, ℕ}
use Rattle.std.specs.Prelude.{slice_index}
use Rattle.drop_ledger.proofs.report.Report.plus.Given as goal

abbrev pub invariant-loop-place : goal.invariant-loop-place
invariant-loop-place l = record {
  nine : length l.numbers ≡ 9;
  sums : (k : ℕ) → k < l.place → slice_index l.numbers k ≡ slice_index l.self k + slice_index l.other k;
  fits : (k : ℕ) → k < l.place → slice_index l.numbers k < 2 ^ 64;
}
