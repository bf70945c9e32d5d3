use Rattle.std.proofs.Common.{◌≡◌, drop}
use Rattle.std.specs.Map.{keys_of}
use Rattle.run_comparison.specs.Overlaps.{fold_new_differing}
use Rattle.run_comparison.proofs.differing.differing_of_new.Given as goal

-- with those that are left, all are looked at
abbrev pub invariant-loop-place : goal.invariant-loop-place
invariant-loop-place l =
    fold_new_differing l.old l.new l.found.items (drop l.place (keys_of l.new.ends)) ≡ fold_new_differing l.old l.new l.fn.so_far.items (keys_of l.new.ends)
