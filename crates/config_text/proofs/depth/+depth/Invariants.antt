use Rattle.std.proofs.Common.{◌≡◌, drop, nat_le}
use Rattle.toml.specs.Data.{items_depth, members_depth}
use Rattle.toml.specs.View.{items_view, array_view, members_view, table_view}
use Rattle.config_text.proofs.depth.+depth.Given as goal

-- all nest no deeper where those that are left don't
abbrev pub invariant-items_are_within-loop-item : goal.invariant-items_are_within-loop-item
invariant-items_are_within-loop-item l = nat_le (items_depth (items_view (drop l.item-index l.item-items))) l.limit ≡ nat_le (items_depth (array_view l.items)) l.limit

abbrev pub invariant-members_are_within-loop-value : goal.invariant-members_are_within-loop-value
invariant-members_are_within-loop-value l = nat_le (members_depth (members_view l.value-iterator)) l.limit ≡ nat_le (members_depth (table_view l.members)) l.limit
