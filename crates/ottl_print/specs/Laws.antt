-- What holds of all conditions.
use Rattle.std.specs.Prelude.{◌≡◌, ◌≤◌, ℕ, List, Ok}
use Rattle.ottl_text.specs.declared.expression.Context.{Context}
use Rattle.ottl_text.specs.Syntax.{Term, depth}
use Rattle.ottl_text.specs.Grammar.{condition_of}
use Rattle.ottl_print.specs.Printing.{printed}

-- a condition that parses prints as text that parses to the same
abbrev pub PrintsAsItself : Type 0
PrintsAsItself = (c : Context) (s : List ℕ) (t : Term) → condition_of c s ≡ Ok t → condition_of c (printed c t) ≡ Ok t

-- a condition that parses is a tree at most 600 deep
abbrev pub IsNotDeep : Type 0
IsNotDeep = (c : Context) (s : List ℕ) (t : Term) → condition_of c s ≡ Ok t → depth t ≤ 600
