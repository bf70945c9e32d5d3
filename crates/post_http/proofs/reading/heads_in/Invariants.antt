use Rattle.std.proofs.Common.{◌≤◌, length, drop}
use Rattle.post_http.specs.Answers.{SeesBehind}
use Rattle.post_http.proofs.reading.heads_in.Given as goal

-- the rest of the bytes stands behind interim heads
abbrev pub invariant-loop-heads : goal.invariant-loop-heads
invariant-loop-heads l = record {
  fits : l.at ≤ length l.bytes;
  behind : SeesBehind l.heads l.bytes l.client (drop l.at l.bytes);
}
