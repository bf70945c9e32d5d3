use Rattle.std.proofs.Common.{◌≡◌, drop}
use Rattle.std.specs.Map.{keys_of}
use Rattle.run_comparison.specs.Overlaps.{fold_kept, nobody}
use Rattle.run_comparison.proofs.overlap.of_old.Given as goal

-- with those that are left, all are counted
abbrev pub invariant-loop-place : goal.invariant-loop-place
invariant-loop-place l = fold_kept l.old l.new l.overlap (drop l.place (keys_of l.old.ends)) ≡ fold_kept l.old l.new nobody (keys_of l.old.ends)
