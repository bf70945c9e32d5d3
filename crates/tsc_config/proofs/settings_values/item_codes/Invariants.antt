use Rattle.std.proofs.Common.{◌≡◌, ◌++◌, drop}
use Rattle.toml.specs.View.{items_view}
use Rattle.tsc_config.specs.Values.{item_codes}
use Rattle.tsc_config.proofs.settings_values.item_codes.Given as goal

-- those so far, and those of the items that are left
abbrev pub invariant-loop-item : goal.invariant-loop-item
invariant-loop-item l = l.list ++ item_codes (items_view (drop l.item-index l.items)) ≡ item_codes (items_view l.items)
