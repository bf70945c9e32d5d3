-- What a function that writes tokens leaves. For private clauses.
use Rattle.std.specs.Prelude.{◌≡◌, ◌++◌, ℕ, List, ◌∷◌, Result, OnOk}
use Rattle.json.specs.Json.{Json}
use Rattle.json.specs.Token.{key}
use Rattle.json.specs.Tree.{HasNumbers, json_tokens}
use Rattle.json.specs.Written.{Written}

-- a value was appended whose numbers are numbers, unless memory was refused
pub record PutsValue {E : Type 0} (result : Result (Unit {0}) E) (old new : Written) (value : Json) : Type 0 where
  pub all : OnOk result ((new.tokens ≡ old.tokens ++ json_tokens value) × (new.before ≡ old.before) × HasNumbers value)

-- the same of a member of an object
pub record PutsMember {E : Type 0} (result : Result (Unit {0}) E) (old new : Written) (name : List ℕ) (value : Json) : Type 0 where
  pub all : OnOk result ((new.tokens ≡ old.tokens ++ key name ∷ json_tokens value) × (new.before ≡ old.before) × HasNumbers value)
