-- One entry more is taken that gets no line.
-- For the contract of `take_rest`.
use Rattle.std.proofs.Common.{◌≡◌, ℕ, ◌+◌, ◌-◌, ◌^◌, min, Option, Some, None, List, [], ◌∷◌, ◌++◌, length, length-append, arith}
use Rattle.line_writing.specs.Filling.{TakenEntry, TakesAll}
use Rattle.line_writing.proofs.OneMore.{taken_more}

abbrev pub Resting : {S T : Type 0} → (gives : S → Option T → S → Type 0) → (old now : S) → ℕ → Type 0
Resting {T} gives old now lost = (entries : List (TakenEntry T)) × TakesAll gives old entries now × (lost ≡ min (length entries) (2 ^ 64 - 1))

pub rest_more : {S T : Type 0} (gives : S → Option T → S → Type 0) (old now new : S) (lost more : ℕ) (entry : T) → Resting gives old now lost → gives now (Some entry) new → more ≡ min (lost + 1) (2 ^ 64 - 1)
    → Resting gives old new more
rest_more {T} gives old now new lost more entry all one is = let e : TakenEntry T = record { entry = entry; line = None } in
    (all.0 ++ e ∷ [], taken_more gives old now new all.0 e all.1 one, omega (arith, is, all.2, length-append all.0 (e ∷ [])))
