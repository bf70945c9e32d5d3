-- A line of which a part was taken.
-- For the contract of `hand`.
use Rattle.std.proofs.Common.{◌≡◌, ℕ, ◌+◌, ◌<◌, true, false, List, length, take, drop, sym, arith, length-drop}
use Rattle.std.proofs.lemmas.List.{take-append-drop}
use Rattle.std.specs.Io.KnownBytes.{Appends}
use Rattle.span_sink.specs.LineSinks.{LineSinkState, FailsInside}

pub fails_inside : (old new : LineSinkState) (line : List ℕ) (n : ℕ) → n < length line
    → Appends old.taken new.taken (take n line) → new.failures ≡ old.failures + 1
    → old.is_down ≡ false → new.is_down ≡ true → FailsInside old line new
fails_inside old new line n short bytes failure up down = record {
  was_up = up;
  goes_down = down;
  one_failure = failure;
  part = take n line;
  missing = drop n line;
  split = sym (take-append-drop n line);
  cut_short = omega (arith, length-drop n line, short);
  bytes = bytes;
}
