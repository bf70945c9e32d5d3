-- The lanes of the core end, one after the other.
-- For the contract of `scripts_are_runs_of_the_core`.
use Rattle.std.proofs.Common.{◌≡◌, ℕ, zero, suc, ◌+◌, true, false, cond, List, [], ◌∷◌, ◌++◌, length, slice_get, Some, None, option_and_then, refl, ap, sym, ◌∙◌, arith, append_assoc, length-append}
use Rattle.world_theory.specs.World.{CoreConfig, CoreLane, World as Core}
use Rattle.world_theory.specs.Step.{close, with_lane}
use Rattle.script_run.specs.World.{ScriptWorld}
use Rattle.script_run.proofs.Stands.{routed_lane, lanes_from}
use Rattle.script_run.proofs.QuietRuns.{Leads, leads_same, leads_one, leads_then}
use Rattle.world_theory.proofs.DecidingInTurn.{mid_get}
use Rattle.script_run.proofs.TakingOne.{mid_set}

-- the core with these lanes
abbrev pub with_lanes : Core → List CoreLane → Core
with_lanes k lanes = record k { lanes = lanes }

-- the lanes that have not ended end in turn
pub closes_lanes : (c : CoreConfig) (k : Core) (w : ScriptWorld) → w.closed ≡ false → (lanes lane : ℕ) (front : List CoreLane) → lane ≡ length front
    → Leads c (with_lanes k (front ++ lanes_from w lane lanes)) (with_lanes k (front ++ lanes_from (record w { closed = true }) lane lanes))
closes_lanes c k w e zero lane front at = leads_same c _ _ refl
closes_lanes c k w e (suc lanes) lane front at = leads_then c _ (with_lanes k (front ++ done ∷ rest)) _ (leads_one c _ _ (close (length front)) one)
    (leads_then c _ _ _ (leads_same c _ _ (ap (with_lanes k) (sym (append_assoc front (done ∷ []) rest))))
    (leads_then c _ _ _ (closes_lanes c k w e lanes (lane + 1) (front ++ done ∷ []) (omega (arith, at, length-append front (done ∷ []))))
    (leads_same c _ _ (ap (with_lanes k) (append_assoc front (done ∷ []) (lanes_from (record w { closed = true }) (lane + 1) lanes))))))
  where
    done : CoreLane
    done = routed_lane (record w { closed = true }) lane

    rest : List CoreLane
    rest = lanes_from w (lane + 1) lanes

    before : Core
    before = with_lanes k (front ++ routed_lane w lane ∷ rest)

    one : option_and_then (λ (l : CoreLane). cond l.ended None (Some (with_lane before (length front) (record l { ended = true })))) (slice_get (front ++ routed_lane w lane ∷ rest) (length front))
        ≡ Some (with_lanes k (front ++ done ∷ rest))
    one = ap (option_and_then (λ (l : CoreLane). cond l.ended None (Some (with_lane before (length front) (record l { ended = true }))))) (mid_get front (routed_lane w lane) rest)
        ∙ (ap (λ b. cond b None (Some (with_lane before (length front) done))) e ∙ ap (λ (z : List CoreLane). Some (with_lanes k z)) (mid_set front (routed_lane w lane) done rest))
