use Rattle.std.proofs.Common.{◌≡◌, ◌++◌, drop, map}
use Rattle.toml.specs.View.{items_view}
use Rattle.tsc_config.specs.Values.{within_share}
use Rattle.tsc_config.proofs.composites.shares_as_written.Given as goal

-- those so far, and those of the parts that are left
abbrev pub invariant-loop-part : goal.invariant-loop-part
invariant-loop-part l = l.list ++ map (within_share l.total l.count (items_view l.allocations)) (drop l.part-index l.parts) ≡ map (within_share l.total l.count (items_view l.allocations)) l.parts
