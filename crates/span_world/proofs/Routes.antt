-- The lane and the shard of the first unrouted span, where there is one.
-- Serves `route` and `refuse` of `World`.
use Rattle.std.proofs.Common.{◌≡◌, ℕ, ◌<◌, length, slice_get, is_some, true, Option, Some, None, refl, sym, subst}
use Rattle.std.specs.List.{position}
use Rattle.std.specs.Option.{option_and_then}
use Rattle.std.proofs.lemmas.Option.{slice_get_within}
use Rattle.world_theory.specs.World.{CoreConfig, CoreLane, CoreShard, World, goes_to}
use Rattle.world_theory.specs.Step.{route, refuse, step}
use Rattle.world_theory.proofs.Routing.{no_route, no_refuse, can_route, can_refuse}
use Rattle.span_world.specs.Core.{Core}
use Rattle.span_world.specs.Answers.{next_place}

-- a lane and a shard at their places, and where the first of the lane's unrouted spans for the shard stands
pub record Placed (w : World) (lane shard i : ℕ) : Type 0 where
  pub from : CoreLane
  pub to : CoreShard
  pub lane_is : slice_get w.lanes lane ≡ Some from
  pub shard_is : slice_get w.shards shard ≡ Some to
  pub place : position (goes_to (length w.shards) shard) from.unrouted ≡ Some i
  pub has_lane : lane < length w.lanes
  pub has_shard : shard < length w.shards

module _ (w : World) (lane shard : ℕ) where
  abbrev placed_in : Option CoreLane → Option CoreShard → Option ℕ
  placed_in l sh = option_and_then (λ (l : CoreLane). option_and_then (λ (sh : CoreShard). position (goes_to (length w.shards) shard) l.unrouted) sh) l

  placed_there : (i : ℕ) → next_place w lane shard ≡ Some i → Placed w lane shard i
  placed_there i e = go (slice_get w.lanes lane) (slice_get w.shards shard) refl refl e
    where
      go : (l : Option CoreLane) (sh : Option CoreShard) → slice_get w.lanes lane ≡ l → slice_get w.shards shard ≡ sh → placed_in l sh ≡ Some i → Placed w lane shard i
      go None sh g h e = absurd (cc e)
      go (Some l) None g h e = absurd (cc e)
      go (Some l) (Some sh) g h e = record { from = l; to = sh; lane_is = g; shard_is = h; place = e; has_lane = slice_get_within w.lanes lane l g; has_shard = slice_get_within w.shards shard sh h }

  pub placed_as : (l : CoreLane) (sh : CoreShard) → slice_get w.lanes lane ≡ Some l → slice_get w.shards shard ≡ Some sh → next_place w lane shard ≡ position (goes_to (length w.shards) shard) l.unrouted
  placed_as l sh g h = rw (g, h) refl

  -- where there is none, neither step is enabled
  pub none_placed : (c : CoreConfig) → next_place w lane shard ≡ None → (step c w (route lane shard) ≡ None) × (step c w (refuse lane shard) ≡ None)
  none_placed c e = go (slice_get w.lanes lane) (slice_get w.shards shard) refl refl e
    where
      go : (l : Option CoreLane) (sh : Option CoreShard) → slice_get w.lanes lane ≡ l → slice_get w.shards shard ≡ sh → placed_in l sh ≡ None → (step c w (route lane shard) ≡ None) × (step c w (refuse lane shard) ≡ None)
      go None sh g h e = (rw g refl, rw g refl)
      go (Some l) None g h e = (rw (g, h) refl, rw (g, h) refl)
      go (Some l) (Some sh) g h e =
          let n = length w.shards in
          let found = position (goes_to n shard) l.unrouted in
          (no_route c w lane shard l sh g h n refl found refl e, no_refuse c w lane shard l sh g h n refl found refl e)

-- where there is one, both steps are enabled
pub enabled : (c : CoreConfig) (w : World) (lane shard i : ℕ) → next_place w lane shard ≡ Some i → (is_some (step c w (route lane shard)) ≡ true) × (is_some (step c w (refuse lane shard)) ≡ true)
enabled c w lane shard i e =
    let p = placed_there w lane shard i e in
    let n = length w.shards in
    let found = position (goes_to n shard) p.from.unrouted in
    (can_route c w lane shard p.from p.to p.lane_is p.shard_is n refl found refl i p.place, can_refuse c w lane shard p.from p.to p.lane_is p.shard_is n refl found refl i p.place)

-- where there is one, in a world that is this one
pub placed : (here before : Core) → here ≡ before → (lane shard i : ℕ) → next_place before.world lane shard ≡ Some i → Placed here.world lane shard i
placed here before same lane shard i e = let P = λ (z : Core). Placed z.world lane shard i in subst P (sym same) (placed_there before.world lane shard i e)
