-- A limiter that gives the answers that were recorded. For private clauses.
use Rattle.std.specs.Prelude.{ℕ, ◌≡◌, Bool, true, false, List, ◌∷◌}
use Rattle.shard_core.specs.declared.answer.Decided.{Decided}
use Rattle.shard_core.specs.declared.answer.Decided.TheVariants.{Nothing}

-- recorded answers that are still to be given, and whether more were asked for
pub record Left : Type 0 where
  pub answers : List Bool
  pub is_short : Bool

-- as long as no more was asked for than was recorded, an asking is given the next answer
abbrev pub GivesNext : (old : Left) → (node second amount : ℕ) → (answer : Bool) → (new : Left) → Type 0
GivesNext old node second amount answer new = new.is_short ≡ false → (old.is_short ≡ false) × (old.answers ≡ answer ∷ new.answers)

-- no trace was due
abbrev pub is_nothing : Decided → Bool
is_nothing Nothing = true
is_nothing _ = false
