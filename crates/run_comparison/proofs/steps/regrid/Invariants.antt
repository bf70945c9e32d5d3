use Rattle.std.proofs.Common.{◌≡◌, drop, length}
use Rattle.run_comparison.specs.Timeline.{regridded}
use Rattle.run_comparison.proofs.steps.regrid.Given as goal

-- what is left goes into what has come
abbrev pub invariant-loop-spans : goal.invariant-loop-spans
invariant-loop-spans l =
    (regridded (drop l.spans-index l.earlier) l.number l.width l.from l.wider l.counts ≡ regridded l.earlier l.first l.width l.from l.wider l.fn.counts)
    × (length l.counts ≡ length l.fn.counts)
