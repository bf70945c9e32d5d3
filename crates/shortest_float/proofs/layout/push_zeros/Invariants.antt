use Rattle.std.proofs.Common.{◌≡◌, ◌++◌, replicate}
use Rattle.shortest_float.proofs.layout.push_zeros.Given as goal

abbrev pub invariant-loop : goal.invariant-loop
invariant-loop l = l.text.bytes ≡ l.fn.text.bytes ++ replicate l.counter 48
