-- Entries, their lines and counts, computed.
use Rattle.std.proofs.Common.{◌≡◌, ℕ, List, [], ◌∷◌, Some, None, codes, refl}
use Rattle.line_writing.specs.Waiting.{line_ends}
use Rattle.line_writing.specs.Filling.{TakenEntry, lines_put, lost_in}

-- three entries, of which the second has no line
taken : List (TakenEntry ℕ)
taken = record { entry = 7; line = Some (codes "tick 7\n") } ∷ record { entry = 8; line = None } ∷ record { entry = 5; line = Some (codes "tick 5\n") } ∷ []

-- in the order in which they were taken, not that of their numbers
in_order : lines_put taken ≡ codes "tick 7\ntick 5\n"
unfolding taken
in_order = refl

one_lost : lost_in taken ≡ 1
unfolding taken
one_lost = refl

-- the end of a line of which a part was written, a whole line, and the beginning of one: two ends, whatever a return is
ends : line_ends (codes "k 7\ntick 5\r\nti") ≡ 2
ends = refl

none_ends : line_ends (codes "tick 7") ≡ 0
none_ends = refl
