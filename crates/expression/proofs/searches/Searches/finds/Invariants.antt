use Rattle.std.proofs.Common.{◌≡◌, true, drop, length}
use Rattle.expression.specs.Expressions.{is_known}
use Rattle.expression.proofs.searches.Searches.finds.Given as goal

abbrev pub invariant-loop-place : goal.invariant-loop-place
invariant-loop-place l = (is_known (drop l.place l.self-inside.items.items) l.text ≡ true) × (l.self-inside.items.items ≡ l.fn.self) × (l.place-end ≡ length l.self-inside.items.items)
