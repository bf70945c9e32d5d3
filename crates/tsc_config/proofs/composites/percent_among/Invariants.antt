use Rattle.std.proofs.Common.{◌≡◌, drop}
use Rattle.toml.specs.View.{items_view}
use Rattle.tsc_config.specs.Values.{percent_among}
use Rattle.tsc_config.proofs.composites.percent_among.Given as goal

-- the items that are left tell it
abbrev pub invariant-loop-item : goal.invariant-loop-item
invariant-loop-item l = percent_among l.name (items_view (drop l.item-index l.items)) ≡ percent_among l.name (items_view l.items)
