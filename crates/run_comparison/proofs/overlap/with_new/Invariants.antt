use Rattle.std.proofs.Common.{◌≡◌, drop}
use Rattle.std.specs.Map.{keys_of}
use Rattle.run_comparison.specs.Overlaps.{fold_new_kept}
use Rattle.run_comparison.proofs.overlap.with_new.Given as goal

-- with those that are left, all are looked at
abbrev pub invariant-loop-place : goal.invariant-loop-place
invariant-loop-place l =
    fold_new_kept l.old l.new l.overlap (drop l.place (keys_of l.new.ends)) ≡ fold_new_kept l.old l.new l.fn.so_far (keys_of l.new.ends)
