use Rattle.std.proofs.Common.{◌≡◌, ◌*◌, ◌^◌}
use Rattle.shortest_float.specs.Words.{value}
use Rattle.shortest_float.proofs.natural.Natural.multiply_by_twos.Given as goal

abbrev pub invariant-loop : goal.invariant-loop
invariant-loop l = value l.self.words ≡ value l.initial.self.words * (2 ^ 63) ^ l.counter
