-- Every received key is in one place.
-- For the contract of `in_one_place`.
use Rattle.std.proofs.Common.{◌≡◌, ℕ, zero, suc, List, [], ◌∷◌, length, replicate, Some, refl, ap, subst, arith}
use Rattle.journal_theory.specs.Journal.{Settings, notes_dealt}
use Rattle.span_ids.specs.declared.keys.ArrivalKey.{ArrivalKey}
use Rattle.world_theory.specs.World.{CoreConfig, CoreLane, World, new_world, new_lane, new_shard, settings}
use Rattle.world_theory.specs.Step.{Step, step, run_from}
use Rattle.world_theory.specs.Places.{places}
use Rattle.world_theory.specs.Headline.{InOnePlace, OfEachRun}
use Rattle.journal_theory.proofs.Notes.{HasRoom}
use Rattle.journal_theory.proofs.ListFacts.{total}
use Rattle.journal_theory.proofs.Sound.{last_of_nil}
use Rattle.world_theory.proofs.Content.{content}
use Rattle.world_theory.proofs.Steps.{Stepped, Steps, plain, decided_by, stepped, and_then_some}
use Rattle.world_theory.proofs.AllAnswered.{AllAnswered, answered_new, answered_plainly, between, first, second, answered_decided}
use Rattle.world_theory.proofs.Balance.{occ, weigh, amount, got, length_places, balance, same_settings}
use Rattle.world_theory.proofs.Numbers.{AllFollow, follow_new, follow_step, are_numbered}
use Rattle.world_theory.proofs.Received.{AllNumbered, numbered_new, numbered_step, got_at_most_once, not_got, some_got}

-- what each step keeps holds after the run, and each decision was given its answers
pub run_keeps : (c : CoreConfig) (P : World → Type 0) → HasRoom c.shard.num_traces → ((w next : World) → Stepped c w next → P w → P next) → (steps : List Step) (w end : World) → P w → AllAnswered (settings c w) w.shards → run_from c w steps ≡ Some end → P end × AllAnswered (settings c end) end.shards
run_keeps c P room keeps [] w end h a e = subst (λ (w : World). P w × AllAnswered (settings c w) w.shards) (cc e) (h, a)
run_keeps c P room keeps (s ∷ rest) w end h a e =
    let k = and_then_some (λ next. run_from c next rest) (step c w s) end e in
    go k.0 (stepped c w k.0 s k.1) (λ (p : P k.0) (b : AllAnswered (settings c k.0) k.0.shards). run_keeps c P room keeps rest k.0 end p b k.2)
  where
    go : (next : World) → Steps c w next → (P next → AllAnswered (settings c next) next.shards → P end × AllAnswered (settings c end) end.shards) → P end × AllAnswered (settings c end) end.shards
    go next (plain st p) f = f (keeps w next st h) (answered_plainly c w next st p a)
    go next (decided_by shard sh answers o g due fits q) f =
        f (keeps (between c room w next shard sh answers o g due fits q a) next (second c room w next shard sh answers o g due fits q a) (keeps w (between c room w next shard sh answers o g due fits q a) (first c room w next shard sh answers o g due fits q a) h))
        (answered_decided c room w next shard sh answers o g due fits q a)

pub of_each_answered : (P : CoreConfig → World → Type 0) (Q : CoreConfig → World → Type 0) → ((c : CoreConfig) → HasRoom c.shard.num_traces → (lanes shards : ℕ) → P c (new_world lanes shards))
    → ((c : CoreConfig) → HasRoom c.shard.num_traces → (w next : World) → Stepped c w next → P c w → P c next) → ((c : CoreConfig) → HasRoom c.shard.num_traces → (w : World) → P c w → AllAnswered (settings c w) w.shards → Q c w) → OfEachRun Q
of_each_answered P Q starts keeps gives c lanes shards steps w room e =
    let k = run_keeps c (P c) room (keeps c room) steps (new_world lanes shards) w (starts c room lanes shards) (answered_new (settings c (new_world lanes shards)) lanes shards) e in
    gives c room w k.0 k.1

pub of_each_run : (P : CoreConfig → World → Type 0) (Q : CoreConfig → World → Type 0) → ((c : CoreConfig) → HasRoom c.shard.num_traces → (lanes shards : ℕ) → P c (new_world lanes shards))
    → ((c : CoreConfig) → HasRoom c.shard.num_traces → (w next : World) → Stepped c w next → P c w → P c next) → ((c : CoreConfig) → HasRoom c.shard.num_traces → (w : World) → P c w → Q c w) → OfEachRun Q
of_each_run P Q starts keeps gives = of_each_answered P Q starts keeps (λ c room w h a. gives c room w h)

-- ---- the invariant

pub record Accounted (c : CoreConfig) (w : World) : Type 0 where
  pub balanced : (k : ArrivalKey) → amount k (settings c w) w ≡ got k w
  pub numbered : AllNumbered 0 w.lanes
  pub follow : AllFollow 0 w.lanes

pub accounted_new : (c : CoreConfig) → HasRoom c.shard.num_traces → (lanes shards : ℕ) → Accounted c (new_world lanes shards)
accounted_new c room lanes shards = record {
  balanced = λ k. let s = settings c (new_world lanes shards) in omega (arith, no_unrouted k lanes, no_received k lanes, no_shards k (settings c (new_world lanes shards)) shards);
  numbered = numbered_new 0 lanes;
  follow = follow_new 0 lanes;
}
  where
    no_unrouted : (k : ArrivalKey) (n : ℕ) → total (λ (l : CoreLane). occ k l.unrouted) (replicate n new_lane) ≡ 0
    no_unrouted k zero = refl
    no_unrouted k (suc n) = omega (arith, no_unrouted k n)

    no_received : (k : ArrivalKey) (n : ℕ) → total (λ (l : CoreLane). occ k l.received) (replicate n new_lane) ≡ 0
    no_received k zero = refl
    no_received k (suc n) = omega (arith, no_received k n)

    empty : (s : Settings) → content s [] (notes_dealt s [] 0) ≡ []
    empty s = rw (last_of_nil s.num_traces) refl

    no_shards : (k : ArrivalKey) (s : Settings) (n : ℕ) → total (weigh k s) (replicate n new_shard) ≡ 0
    no_shards k s zero = refl
    no_shards k s (suc n) = omega (arith, no_shards k s n, ap (occ k) (empty s))

pub accounted_step : (c : CoreConfig) → HasRoom c.shard.num_traces → (w next : World) → Stepped c w next → Accounted c w → Accounted c next
accounted_step c room w next st h = record {
  balanced = λ k. let e : amount k (settings c next) next ≡ amount k (settings c w) next = ap (λ s. amount k s next) (same_settings c w next st) in omega (arith, e, balance k c room w next st, h.balanced k);
  numbered = numbered_step c w next st h.numbered;
  follow = follow_step c w next st h.follow;
}

no_places : (c : CoreConfig) (w : World) (k : ArrivalKey) → length (places c w k) ≡ 0 → places c w k ≡ []
no_places c w k e = go (places c w k) e
  where
    go : {X : Type 0} (xs : List X) → length xs ≡ 0 → xs ≡ []
    go [] e = refl
    go (x ∷ xs) e = absurd (omega arith)

pub in_one_place : OfEachRun InOnePlace
in_one_place = of_each_run Accounted InOnePlace accounted_new accounted_step gives
  where
    gives : (c : CoreConfig) → HasRoom c.shard.num_traces → (w : World) → Accounted c w → InOnePlace c w
    gives c room w h = record {
      numbered = are_numbered w h.follow;
      received = λ k r. omega (arith, length_places k c w, h.balanced k, some_got k w.lanes r, got_at_most_once k 0 w.lanes h.numbered);
      others = λ k r. no_places c w k (omega (arith, length_places k c w, h.balanced k, not_got k w.lanes r));
    }
