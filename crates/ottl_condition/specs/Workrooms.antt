-- What a condition is asked with: searches for its regular expressions, and room for the texts that it makes.
use Rattle.std.specs.Prelude.{◌≡◌, ◌≤◌, true, length}
use Rattle.expression.specs.Expressions.{are_known}
use Rattle.ottl_text.specs.Syntax.{Term}
use Rattle.ottl_condition.specs.declared.workroom.Workroom.{Workroom}
use Rattle.ottl_condition.specs.Meaning.{patterns_of, texts_made}

-- it serves an expression: it knows its regular expressions, and has room for each text that is made
abbrev pub Serves : Workroom → Term → Type 0
Serves w t = (are_known w.searches (patterns_of t) ≡ true) × (texts_made t ≤ length w.rooms.items)

-- it serves what it served before
abbrev pub IsAsBefore : (before after : Workroom) → Type 0
IsAsBefore before after = (after.searches ≡ before.searches) × (length after.rooms.items ≡ length before.rooms.items)
