use Rattle.std.proofs.Common.{◌≡◌, drop}
use Rattle.toml.specs.View.{items_view, array_view}
use Rattle.policy_places.specs.Walk.{text_among}
use Rattle.policy_places.proofs.conditions.text_among.Given as goal

-- the text isn't among the items that were passed over
abbrev pub invariant-loop-item : goal.invariant-loop-item
invariant-loop-item l = (l.index ≡ l.item-index) × (text_among l.place l.text l.index (items_view (drop l.item-index l.item-items)) ≡ text_among l.place l.text 0 (array_view l.items))
