-- A limiter whose answers are noted.
use Rattle.std.specs.Prelude.{ℕ, ◌≡◌, Bool, true, List, [], ◌∷◌, ◌++◌}
use Rattle.shard_recording.specs.declared.noting.Noting.{Noting}

-- the limiter is asked, and its answer stands behind those that were noted, if there was memory for it
abbrev pub AsksNoting : {L : Type 0} → (asks : L → ℕ → ℕ → ℕ → Bool → L → Type 0) → (old : Noting L) → (node second amount : ℕ) → (answer : Bool) → (new : Noting L) → Type 0
AsksNoting asks old node second amount answer new =
    asks old.inner node second amount answer new.inner
    × (new.is_whole ≡ true → (old.is_whole ≡ true) × (new.answers ≡ old.answers ++ answer ∷ []))
