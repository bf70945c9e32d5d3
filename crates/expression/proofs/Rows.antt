-- Worked rows of what expressions are and match, by computation.
-- No contract rests on it: it shows the definitions on worked cases.
use Rattle.std.specs.Prelude.{◌≡◌, ℕ, true, false, List, [], ◌∷◌, map, codes, refl, ⊤}
use Rattle.regex.specs.Patterns.{find_str, holds, has_bytes_at}
use Rattle.regex.proofs.OnLiterals.{regex_on_literals}
use Rattle.regex_hir.specs.Find.{first_from}
use Rattle.regex_hir.specs.Re.{attempt, rounds}
use Rattle.regex_hir.specs.Looks.{holds_between}
use Rattle.regex_hir.specs.Text.{byte_before, char_at, char_before, is_boundary}
use Rattle.expression.specs.Expressions.{is_expression, is_match}

-- what a row unfolds to compute what an expression matches, where both texts are written out
unfoldable pub matches_on_literals : ⊤
unfolding is_match regex_on_literals find_str first_from attempt rounds holds holds_between byte_before has_bytes_at char_at char_before is_boundary
matches_on_literals = tt

-- in `/a/b`: at the start, at the end, anywhere, one of two
pub expressions_of_a_value : map (λ (text : List ℕ). is_match text (codes "/a/b")) (codes "^/b" ∷ codes "^/a" ∷ codes "a$" ∷ codes "b$" ∷ codes "/b" ∷ codes "c|a" ∷ codes "A" ∷ []) ≡ false ∷ true ∷ false ∷ true ∷ true ∷ true ∷ false ∷ []
unfolding matches_on_literals
expressions_of_a_value = refl

-- branches tied to an end, the empty text, a count, a class; a parenthesis that isn't closed, counts in the wrong
-- order, a back reference, a star at the beginning
pub texts_of_expressions : map is_expression (codes "^/a|b$" ∷ codes "" ∷ codes "a{2,3}" ∷ codes "[0-9]+" ∷ codes "(a" ∷ codes "a{2,1}" ∷ codes "(a)\\1" ∷ codes "*a" ∷ []) ≡ true ∷ true ∷ true ∷ true ∷ false ∷ false ∷ false ∷ false ∷ []
unfolding is_expression regex_on_literals
texts_of_expressions = refl
