use Rattle.std.proofs.Common.{◌≡◌, ◌++◌, drop, map}
use Rattle.toml.specs.View.{items_view}
use Rattle.tsc_config.specs.PolicyOrder.{each_named}
use Rattle.tsc_config.specs.Values.{within_share}
use Rattle.tsc_config.proofs.composites.shares_by_order.Given as goal

-- those so far, and those that the texts that are left name
abbrev pub invariant-loop-text : goal.invariant-loop-text
invariant-loop-text l = l.list ++ map (within_share l.total l.count (items_view l.allocations)) (each_named (items_view (drop l.text-index l.order)) l.parts)
    ≡ map (within_share l.total l.count (items_view l.allocations)) (each_named (items_view l.order) l.parts)
