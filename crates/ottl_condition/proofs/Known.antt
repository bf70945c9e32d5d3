-- Texts are among themselves.
-- For searching::searches_for.
use Rattle.std.proofs.Common.{◌≡◌, ℕ, Bool, true, false, ◌||◌, List, [], ◌∷◌, bytes_eq, refl}
use Rattle.std.proofs.lemmas.Bool.{and_parts}
use Rattle.std.proofs.lemmas.Slice.Eq.{bytes_eq-Decides}
use Rattle.expression.specs.Expressions.{is_known, are_known}

-- what is known stays known where more is
known-longer : (t : List ℕ) (known texts : List (List ℕ)) → are_known known texts ≡ true → are_known (t ∷ known) texts ≡ true
known-longer t known [] h = refl
known-longer t known (u ∷ texts) h =
    let parts = and_parts (is_known known u) (are_known known texts) h in
    rw (or-last (bytes_eq t u) (is_known known u) parts.0, known-longer t known texts parts.1) refl
  where
    or-last : (a b : Bool) → b ≡ true → (a || b) ≡ true
    or-last true b h = refl
    or-last false b h = h

-- the texts of a list are among those of the list
pub knows-itself : (texts : List (List ℕ)) → are_known texts texts ≡ true
knows-itself [] = refl
knows-itself (t ∷ texts) = rw ((bytes_eq-Decides t t).1 refl, known-longer t texts texts (knows-itself texts)) refl
