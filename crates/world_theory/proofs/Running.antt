-- Steps and then further ones are a run.
-- For the runs that scripts and threads are, in the crates above.
use Rattle.std.proofs.Common.{◌≡◌, List, [], ◌∷◌, ◌++◌, Option, Some, None, option_and_then, refl}
use Rattle.world_theory.specs.World.{CoreConfig, World}
use Rattle.world_theory.specs.Step.{Step, step, run_from}

pub run_append : (c : CoreConfig) (w : World) (xs ys : List Step) → run_from c w (xs ++ ys) ≡ option_and_then (λ (z : World). run_from c z ys) (run_from c w xs)
run_append c w [] ys = refl
run_append c w (x ∷ xs) ys = go (step c w x) (λ n. run_append c n xs ys)
  where
    go : (o : Option World) → ((n : World) → run_from c n (xs ++ ys) ≡ option_and_then (λ (z : World). run_from c z ys) (run_from c n xs))
        → option_and_then (λ (n : World). run_from c n (xs ++ ys)) o ≡ option_and_then (λ (z : World). run_from c z ys) (option_and_then (λ (n : World). run_from c n xs) o)
    go None h = refl
    go (Some n) h = h n
