use Rattle.std.proofs.Common.{◌≡◌, true, drop, length}
use Rattle.ottl_lists.specs.Texts.{is_known}
use Rattle.ottl_lists.proofs.conditions.Conditions.holds.Given as goal

abbrev pub invariant-loop-place : goal.invariant-loop-place
invariant-loop-place l = (is_known (drop l.place l.self-inside.items.items) l.context l.text ≡ true) × (l.self-inside.items.items ≡ l.fn.self) × (l.place-end ≡ length l.self-inside.items.items)
