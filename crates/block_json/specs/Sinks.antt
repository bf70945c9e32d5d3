-- What takes tokens one after another.
use Rattle.std.specs.Prelude.{List, [], ◌++◌}
use Rattle.json.specs.Token.{Token}

-- `adds a b ts`: with these tokens a becomes b. It holds of none, and of those of two calls in a row.
pub record Composes {A : Type 0} (adds : A → A → List Token → Type 0) : Type 0 where
  pub nothing : (a : A) → adds a a []
  pub then : (a b c : A) (xs ys : List Token) → adds a b xs → adds b c ys → adds a c (xs ++ ys)
