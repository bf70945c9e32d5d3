-- How many lanes and shards a run has.
-- For the runs of threads and scripts in the crates above.
use Rattle.std.proofs.Common.{◌≡◌, ℕ, zero, suc, ◌+◌, ◌<◌, List, [], ◌∷◌, length, replicate, slice_get, Some, refl, sym, ap, ◌∙◌, arith}
use Rattle.journal_theory.specs.Journal.{Settings}
use Rattle.journal_theory.proofs.ListFacts.{length-slice_set}
use Rattle.world_theory.specs.World.{CoreConfig, World, new_world, new_lane, new_shard}
use Rattle.world_theory.specs.Step.{Step, step, run, run_from}
use Rattle.world_theory.proofs.Steps.{Stepped, Steps, plain, decided_by, stepped, and_then_some}
use Rattle.world_theory.proofs.Balance.{same_settings}
use Rattle.world_theory.proofs.Order.{same_shards}

length_replicated : {X : Type 0} (n : ℕ) (x : X) → length (replicate n x) ≡ n
length_replicated zero x = refl
length_replicated (suc n) x = ap suc (length_replicated n x)

same_lanes : (c : CoreConfig) (w next : World) → Stepped c w next → length next.lanes ≡ length w.lanes
same_lanes c w next st = let e : length next.lanes + 1 ≡ length w.lanes + 1 = ap (λ (s : Settings). s.senders) (same_settings c w next st) in omega (arith, e)

-- both stay at each step
stay : (c : CoreConfig) (w next : World) → Steps c w next → (length next.lanes ≡ length w.lanes) × (length next.shards ≡ length w.shards)
stay c w next (plain st p) = (same_lanes c w next st, same_shards c w next st)
stay c w next (decided_by shard sh answers o g due fits e) = (ap (λ (x : World). length x.lanes) (sym e), ap (λ (x : World). length x.shards) (sym e) ∙ length-slice_set w.shards shard _)

stay_through : (c : CoreConfig) (steps : List Step) (w end : World) → run_from c w steps ≡ Some end → (length end.lanes ≡ length w.lanes) × (length end.shards ≡ length w.shards)
stay_through c [] w end e = let same : w ≡ end = cc e in (ap (λ (x : World). length x.lanes) (sym same), ap (λ (x : World). length x.shards) (sym same))
stay_through c (s ∷ steps) w end e =
    let k = and_then_some (λ next. run_from c next steps) (step c w s) end e in
    let later = stay_through c steps k.0 end k.2 in
    let now = stay c w k.0 (stepped c w k.0 s k.1) in
    (later.0 ∙ now.0, later.1 ∙ now.1)

-- as many lanes as the new world
pub lanes_of_run : (c : CoreConfig) (lanes shards : ℕ) (steps : List Step) (w : World) → run c lanes shards steps ≡ Some w → length w.lanes ≡ lanes
lanes_of_run c lanes shards steps w e = (stay_through c steps (new_world lanes shards) w e).0 ∙ length_replicated lanes new_lane

-- and as many shards
pub shards_of_run : (c : CoreConfig) (lanes shards : ℕ) (steps : List Step) (w : World) → run c lanes shards steps ≡ Some w → length w.shards ≡ shards
shards_of_run c lanes shards steps w e = (stay_through c steps (new_world lanes shards) w e).1 ∙ length_replicated shards new_shard

-- what stands at a place stands below the length
pub get_below : {X : Type 0} (xs : List X) (i : ℕ) (x : X) → slice_get xs i ≡ Some x → i < length xs
get_below [] i x e = absurd (cc e)
get_below (y ∷ xs) zero x e = omega arith
get_below (y ∷ xs) (suc i) x e = let l = get_below xs i x e in omega arith
