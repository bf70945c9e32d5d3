-- What a search among the fields found.
use Rattle.std.specs.Prelude.{◌≡◌, ℕ, ◌≤◌, List, [], ◌∷◌, length}
use Rattle.http_text.specs.declared.fields.NamedFields.{NamedFields}
use Rattle.http_text.specs.declared.fields.NamedFields.TheVariants.{Absent, One, Many}

abbrev pub Seen : NamedFields → List (List ℕ) → Type 0
Seen Absent values = values ≡ []
Seen (One value) values = values ≡ value.now ∷ []
Seen Many values = 2 ≤ length values
