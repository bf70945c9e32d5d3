use Rattle.std.proofs.Common.{◌≡◌, [], drop, map}
use Rattle.std.specs.Prelude.{string_bytes}
use Rattle.run_comparison.specs.Rows.{seen_policy, with_old_policies}
use Rattle.run_comparison.proofs.rows.old_policies.Given as goal

-- with those that are left, all have their row
abbrev pub invariant-loop-place : goal.invariant-loop-place
invariant-loop-place l =
    with_old_policies l.old l.new l.place (map string_bytes (drop l.place l.names)) (map seen_policy l.rows.items) ≡ with_old_policies l.old l.new 0 l.old.names []
