use Rattle.std.proofs.Common.{◌≡◌, false, drop}
use Rattle.ottl_lengths.specs.Lengths.{quote_from}
use Rattle.ottl_lengths.proofs.lengths.quote_at.Given as goal

abbrev pub invariant-loop-place : goal.invariant-loop-place
invariant-loop-place l = quote_from l.escaped l.place (drop l.place l.text) ≡ quote_from false 0 l.text
