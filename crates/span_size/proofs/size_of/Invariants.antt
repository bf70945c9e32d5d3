use Rattle.std.proofs.Common.{◌≡◌, ◌-◌, ◌^◌, min, take}
use Rattle.span_size.specs.Size.{total}
use Rattle.span_size.proofs.size_of.Given as goal

abbrev pub invariant-loop-arrival : goal.invariant-loop-arrival
invariant-loop-arrival l = l.size ≡ min (total (take l.arrival-index l.spans)) (2 ^ 64 - 1)
