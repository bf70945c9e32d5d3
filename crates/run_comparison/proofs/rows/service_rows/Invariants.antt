use Rattle.std.proofs.Common.{◌≡◌, drop, map}
use Rattle.std.specs.Prelude.{string_bytes}
use Rattle.run_comparison.specs.Rows.{seen_service, with_new_services, service_rows}
use Rattle.run_comparison.proofs.rows.service_rows.Given as goal

-- with those that are left, all have their row
abbrev pub invariant-loop-place : goal.invariant-loop-place
invariant-loop-place l =
    with_new_services l.old l.new l.place (map string_bytes (drop l.place l.names)) (map seen_service l.rows.items) ≡ service_rows l.old l.new
