use Rattle.std.proofs.Common.{◌≡◌, ◌+◌, length}
use Rattle.lane_seq.specs.Numbers.{arrivals_from}
use Rattle.lane_seq.proofs.preparing.arrivals_from.Given as goal

abbrev pub invariant-loop-rec : goal.invariant-loop-rec
invariant-loop-rec l = record {
  numbered : l.arrivals.items ≡ arrivals_from l.fn.key l.first l.moment l.yielded;
  next : l.number ≡ l.first + length l.yielded;
  len : length l.arrivals.items ≡ length l.yielded;
}
