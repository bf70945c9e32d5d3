-- A weaker word for what was played.
-- For proofs of `script_session`.
use Rattle.std.proofs.Common.{ℕ, ◌++◌, ◌∷◌, [], List, Option, inl, inr}
use Rattle.tsc_script.specs.declared.stop.ScriptStop.{ScriptStop}
use Rattle.tsc_script.specs.declared.stop.ScriptStop.TheVariants.{NoMemory, Refused, Fault, Down}
use Rattle.tsc_script.specs.Instructions.{Instruction, close}
use Rattle.tsc_script.specs.Progress.{StopsAt, StopsAfter}

stops_at : (P Q : List Instruction → Type 0) (a b : Option (List ℕ)) (n : ℕ) → ((done : List Instruction) → P done → Q done)
    → StopsAt P a b n → StopsAt Q a b n
stops_at P Q a b n f (inl h) = inl (h.0, h.1, h.2, f h.0 h.3)
stops_at P Q a b n f (inr h) = inr (h.0, h.1, h.2, f (h.0 ++ close ∷ []) h.3)

-- what follows of what was played follows at a stop
pub StopsAfter-weaker : (P Q F G : List Instruction → Type 0) (a b : Option (List ℕ)) (stop : ScriptStop)
    → ((done : List Instruction) → P done → Q done) → ((done : List Instruction) → F done → G done)
    → StopsAfter P F a b stop → StopsAfter Q G a b stop
StopsAfter-weaker P Q F G a b NoMemory f g h = f [] h
StopsAfter-weaker P Q F G a b (Refused n) f g h = stops_at P Q a b n f h
StopsAfter-weaker P Q F G a b (Fault n) f g h = stops_at P Q a b n f h
StopsAfter-weaker P Q F G a b Down f g h = (
  h.0,
  f (h.0 ++ close ∷ []) h.1,
  elim h.2 [ inl k ↦ inl (k.0, g h.0 k.1) | inr k ↦ inr k ],
)
