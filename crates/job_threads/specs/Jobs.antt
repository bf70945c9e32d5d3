-- What became of jobs.
use Rattle.std.specs.Prelude.{◌≡◌, Bool, true, false, List, [], ◌∷◌}
use Rattle.job_threads.specs.declared.job.Ended.{Ended}
use Rattle.job_threads.specs.declared.job.Ended.TheVariants.{Left, Back}
use Rattle.job_threads.specs.declared.team.Team.{Team}

-- the job has worked, and left this
abbrev pub HasLeft : {J X : Type 0} → (did : J → X → Type 0) → J → Ended J X → Type 0
HasLeft did job (Left x) = did job x
HasLeft did job (Back j) = ⊥

-- where the start word said yes the job has worked, and where it said no it came back as it was
abbrev pub EndsBy : {J X : Type 0} → (did : J → X → Type 0) → J → (word : Bool) → Ended J X → Type 0
EndsBy did job word ended = (word ≡ true → HasLeft did job ended) × (word ≡ false → ended ≡ Back job)

-- each job did this and left that
abbrev pub HaveDone : {J X : Type 0} → (did : J → X → Type 0) → List J → List X → Type 0
HaveDone did [] [] = Unit {0}
HaveDone did [] (x ∷ lefts) = ⊥
HaveDone did (j ∷ jobs) [] = ⊥
HaveDone did (j ∷ jobs) (x ∷ lefts) = did j x × HaveDone did jobs lefts

-- each job of a team did this, by its kind, and left that
abbrev pub TeamDid : {J K L X Y Z : Type 0} → (J → X → Type 0) → (K → Y → Type 0) → (L → Z → Type 0) → Team J K L → Team X Y Z → Type 0
TeamDid first second third team left = HaveDone first team.first.items left.first.items × second team.second left.second × HaveDone third team.third.items left.third.items

-- the jobs of a team are these again
abbrev pub IsTeam : {J K L : Type 0} → (team back : Team J K L) → Type 0
IsTeam team back = (back.first.items ≡ team.first.items) × (back.second ≡ team.second) × (back.third.items ≡ team.third.items)
