use Rattle.std.proofs.Common.{◌≤◌, length, drop}
use Rattle.post_http.specs.Answers.{SeesBody}
use Rattle.post_http.proofs.reading.body_in.Given as goal

-- the bytes of the body that came so far stand in front of what comes
abbrev pub invariant-loop : goal.invariant-loop
invariant-loop l = record {
  fits : l.at ≤ length l.bytes;
  seen : SeesBody l.fn.headed.client (drop l.fn.headed.at l.bytes) l.body.items l.client (drop l.at l.bytes);
}
