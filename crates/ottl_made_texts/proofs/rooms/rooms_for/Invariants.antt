use Rattle.std.proofs.Common.{◌≡◌, length}
use Rattle.ottl_made_texts.proofs.rooms.rooms_for.Given as goal

abbrev pub invariant-loop-text : goal.invariant-loop-text
invariant-loop-text l = length l.rooms.items ≡ l._text
