-- A run of the program's steps, one step further.
-- For the contract of `replay`.
use Rattle.std.proofs.Common.{◌≡◌, ℕ, suc, ◌+◌, ◌<◌, true, is_some, List, [], ◌∷◌, ◌++◌, length, map, take, Option, Some, None, option_and_then, refl, ap, sym, subst, ◌∙◌, arith}
use Rattle.std.proofs.lemmas.List.{map-append, length-append, length-map}
use Rattle.std.specs.Prelude.{Err}
use Rattle.world_theory.specs.World.{CoreConfig, World}
use Rattle.world_theory.specs.Step.{Step, step, run, run_from}
use Rattle.span_world.specs.Core.{Core, config_of}
use Rattle.span_world.specs.Answers.{the_step, StepsTo, StopsAt, next_of}
use Rattle.span_world.specs.declared.step.Step.{Step as Asked}
use Rattle.span_world.specs.declared.step.StepRefusal.{StepRefusal}
use Rattle.span_world.specs.declared.step.StepRefusal.TheVariants.{NotEnabled, NoMemory}

then_some : {X : Type 0} (o : Option X) → option_and_then (λ (x : X). Some x) o ≡ o
then_some None = refl
then_some (Some x) = refl

pub run_snoc : (c : CoreConfig) (w : World) (xs : List Step) (s : Step) → run_from c w (xs ++ s ∷ []) ≡ option_and_then (λ (v : World). step c v s) (run_from c w xs)
run_snoc c w [] s = then_some (step c w s)
run_snoc c w (x ∷ xs) s = go (step c w x) (λ n. run_snoc c n xs s)
  where
    go : (o : Option World) → ((n : World) → run_from c n (xs ++ s ∷ []) ≡ option_and_then (λ (v : World). step c v s) (run_from c n xs))
        → option_and_then (λ (n : World). run_from c n (xs ++ s ∷ [])) o ≡ option_and_then (λ (v : World). step c v s) (option_and_then (λ (n : World). run_from c n xs) o)
    go None h = refl
    go (Some n) h = h n

taken_front : {X : Type 0} (xs ys : List X) → take (length xs) (xs ++ ys) ≡ xs
taken_front [] ys = refl
taken_front (x ∷ xs) ys = ap (λ z. x ∷ z) (taken_front xs ys)

taken_more : {X : Type 0} (xs : List X) (y : X) (ys : List X) → take (suc (length xs)) (xs ++ y ∷ ys) ≡ xs ++ y ∷ []
taken_more [] y ys = refl
taken_more (x ∷ xs) y ys = ap (λ z. x ∷ z) (taken_more xs y ys)

module _ (c : CoreConfig) (lanes shards : ℕ) (before : Core) (is : config_of before.config ≡ c) (done : List Asked) (e : run c lanes shards (map the_step done) ≡ Some before.world) (s : Asked) where
  one_more : run c lanes shards (map the_step (done ++ s ∷ [])) ≡ step c before.world (the_step s)
  one_more = ap (run c lanes shards) (map-append the_step done (s ∷ [])) ∙ run_snoc c _ (map the_step done) (the_step s) ∙ ap (option_and_then (λ (v : World). step c v (the_step s))) e

  next_is : next_of before (the_step s) ≡ step c before.world (the_step s)
  next_is = ap (λ (z : CoreConfig). step z before.world (the_step s)) is

  pub runs_on : (after : Core) → next_of before (the_step s) ≡ Some after.world → run c lanes shards (map the_step (done ++ s ∷ [])) ≡ Some after.world
  runs_on after h = one_more ∙ (sym next_is ∙ h)

  pub stops : (all rest : List Asked) → all ≡ done ++ s ∷ rest → (r : StepRefusal) (after : Core) → StepsTo before (the_step s) (Err r) after → StopsAt c lanes shards (map the_step all) (length done) r
  stops all rest a r after h = subst (λ (z : List Asked). StopsAt c lanes shards (map the_step z) (length done) r) (sym a) (go r h)
    where
      front : take (length done) (map the_step (done ++ s ∷ rest)) ≡ map the_step done
      front = ap (λ (z : List Step). take (length done) z) (map-append the_step done (s ∷ rest))
          ∙ (ap (λ (n : ℕ). take n (map the_step done ++ map the_step (s ∷ rest))) (sym (length-map done the_step)) ∙ taken_front (map the_step done) (map the_step (s ∷ rest)))

      further : take (length done + 1) (map the_step (done ++ s ∷ rest)) ≡ map the_step (done ++ s ∷ [])
      further =
          let at : length done + 1 ≡ suc (length (map the_step done)) = omega (arith, length-map done the_step) in
          ap (λ (z : List Step). take (length done + 1) z) (map-append the_step done (s ∷ rest))
          ∙ (ap (λ (n : ℕ). take n (map the_step done ++ map the_step (s ∷ rest))) at ∙ (taken_more (map the_step done) (the_step s) (map the_step rest) ∙ sym (map-append the_step done (s ∷ []))))

      runs : is_some (run c lanes shards (take (length done) (map the_step (done ++ s ∷ rest)))) ≡ true
      runs = ap (λ (z : List Step). is_some (run c lanes shards z)) front ∙ ap is_some e

      within : length done < length (map the_step (done ++ s ∷ rest))
      within = omega (arith, length-map (done ++ s ∷ rest) the_step, length-append done (s ∷ rest))

      go : (r : StepRefusal) → StepsTo before (the_step s) (Err r) after → StopsAt c lanes shards (map the_step (done ++ s ∷ rest)) (length done) r
      go NotEnabled h = (within, runs, ap (run c lanes shards) further ∙ (one_more ∙ (sym next_is ∙ h.1)))
      go NoMemory h = (λ some. (within, ap (λ (z : List Step). is_some (run c lanes shards z)) further ∙ (ap is_some (one_more ∙ sym next_is) ∙ h.1)), runs)
