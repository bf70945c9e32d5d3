use Rattle.std.proofs.Common.{◌≡◌, ◌≤◌, length}
use Rattle.std.specs.Prelude.{◌||◌}
use Rattle.http_text.specs.Fields.{has_word}
use Rattle.http_text.proofs.fields.has_word.Given as goal

abbrev pub invariant-words : goal.invariant-words
invariant-words l = (has_word l.word l.value ≡ (l.found || has_word l.word l.rest)) × (length l.rest ≤ length l.value)

abbrev pub decreases-words : goal.decreases-words
decreases-words l = length l.rest
