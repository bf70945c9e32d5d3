use Rattle.std.proofs.Common.{◌≡◌, ℕ, List, drop, map}
use Rattle.std.specs.Prelude.{bytes_eq, string_bytes}
use Rattle.std.specs.List.{position_from}
use Rattle.run_comparison.specs.Names.{place_of}
use Rattle.run_comparison.proofs.names.place_of.Given as goal

-- the place among those that are left is the place among all
abbrev pub invariant-loop-place : goal.invariant-loop-place
invariant-loop-place l = position_from (λ (other : List ℕ). bytes_eq other l.name) l.place (map string_bytes (drop l.place l.names)) ≡ place_of (map string_bytes l.names) l.name
