-- Runs of the core's steps, one after the other.
-- For the contract of `scripts_are_runs_of_the_core`.
use Rattle.std.proofs.Common.{◌≡◌, List, [], ◌∷◌, ◌++◌, Some, option_and_then, ap, ◌∙◌}
use Rattle.world_theory.proofs.Running.{run_append}
use Rattle.world_theory.specs.World.{CoreConfig, World as Core}
use Rattle.world_theory.specs.Step.{Step, step, run_from}

-- steps lead from one state of the core to another
abbrev pub Leads : CoreConfig → Core → Core → Type 0
Leads c k after = (steps : List Step) × (run_from c k steps ≡ Some after)

-- no step leads to the same state
pub leads_same : (c : CoreConfig) (k after : Core) → k ≡ after → Leads c k after
leads_same c k after e = ([], ap (λ (z : Core). Some z) e)

-- one step leads to what it gives
pub leads_one : (c : CoreConfig) (k after : Core) (s : Step) → step c k s ≡ Some after → Leads c k after
leads_one c k after s e = (s ∷ [], ap (option_and_then (λ (w : Core). Some w)) e)

-- one run after another
pub leads_then : (c : CoreConfig) (k mid after : Core) → Leads c k mid → Leads c mid after → Leads c k after
leads_then c k mid after h g = (h.0 ++ g.0, run_append c k h.0 g.0 ∙ (ap (option_and_then (λ (w : Core). run_from c w g.0)) h.1 ∙ g.1))
