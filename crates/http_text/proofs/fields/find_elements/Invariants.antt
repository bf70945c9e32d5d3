use Rattle.std.proofs.Common.{◌≡◌, ◌≤◌, ◌++◌, List, ℕ, length}
use Rattle.http_text.specs.Fields.{elements}
use Rattle.http_text.specs.Named.{Seen}
use Rattle.http_text.proofs.fields.find_elements.Given as goal

-- the elements so far, and what is left of them
abbrev pub invariant-elements : goal.invariant-elements
invariant-elements l = (seen : List (List ℕ)) × Seen l.found seen × (elements l.value ≡ seen ++ elements l.rest) × (length l.rest ≤ length l.value)

abbrev pub decreases-elements : goal.decreases-elements
decreases-elements l = length l.rest
