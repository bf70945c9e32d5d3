-- A shard that took a lane's End has nothing of that lane to come.
-- For the laws of the headline, `headline` and each of its parts.
use Rattle.std.proofs.Common.{◌≡◌, ℕ, Bool, true, false, not, ◌&&◌, ◌||◌, ◌==◌, List, [], ◌∷◌, ◌++◌, length, slice_get, slice_set, Option, Some, refl, ap, sym, subst, ◌∙◌, eqb-true}
use Rattle.std.specs.List.{list_any}
use Rattle.std.proofs.lemmas.Bool.{and_parts, not-true}
use Rattle.journal_theory.specs.Journal.{Journal, has_ended, answered}
use Rattle.otlp_types.specs.declared.arrival.Arrival.{Arrival}
use Rattle.otlp_types.specs.declared.arrival.Item.TheVariants.{End}
use Rattle.world_theory.specs.World.{CoreConfig, CoreLane, CoreShard, World, new_world, new_shard, goes_to}
use Rattle.world_theory.specs.Step.{sender_is_done, lane_is_done}
use Rattle.world_theory.specs.Headline.{EndsLast}
use Rattle.journal_theory.proofs.ListFacts.{Each, Each-right}
use Rattle.journal_theory.proofs.Find.{any_split}
use Rattle.world_theory.proofs.Lined.{IsOnLane, at_each}
use Rattle.world_theory.proofs.Order.{replicated, same_shards}
use Rattle.world_theory.proofs.Steps.{Stepped, received_by, routed, refused_by, took_span, took_tick, closed_by, took_end, answered_by, decided_one, shipped, pulled, handed_over, failed, batch_dropped, or_both, TakenOut}

-- the lane has ended, and none of its spans for the shard is unrouted or queued
pub record IsDone (n i j : ℕ) (sh : CoreShard) (l : CoreLane) : Type 0 where
  pub ended : l.ended ≡ true
  pub routed_all : list_any (goes_to n i) l.unrouted ≡ false
  pub taken_all : list_any (λ (a : Arrival). a.key.conn.lane == j) sh.queue ≡ false

-- each lane whose End a shard took is done there
abbrev pub AllEnded : (n : ℕ) → List CoreLane → List CoreShard → Type 0
AllEnded n lanes shards = (i j : ℕ) (sh : CoreShard) (l : CoreLane) → slice_get shards i ≡ Some sh → slice_get lanes j ≡ Some l → has_ended sh.journal j ≡ true → IsDone n i j sh l

done_parts : (w : World) (i j : ℕ) (sh : CoreShard) (l : CoreLane) → lane_is_done w i sh j l ≡ true → IsDone (length w.shards) i j sh l
done_parts w i j sh l e =
    let p = and_parts (l.ended && not (list_any (goes_to (length w.shards) i) l.unrouted)) (not (list_any (λ (a : Arrival). a.key.conn.lane == j) sh.queue)) e in
    let q = and_parts l.ended (not (list_any (goes_to (length w.shards) i) l.unrouted)) p.0 in
    record { ended = q.0; routed_all = not-true (list_any (goes_to (length w.shards) i) l.unrouted) q.1; taken_all = not-true (list_any (λ (a : Arrival). a.key.conn.lane == j) sh.queue) p.1 }

done_whole : (w : World) (i j : ℕ) (sh : CoreShard) (l : CoreLane) → IsDone (length w.shards) i j sh l → lane_is_done w i sh j l ≡ true
done_whole w i j sh l d = rw (d.ended, d.routed_all, d.taken_all) refl

pub ends_last : (w : World) → AllEnded (length w.shards) w.lanes w.shards → EndsLast w
ends_last w h i j sh l e g k = done_whole w i j sh l (h i j sh l e g k)

pub ended_new : (lanes shards : ℕ) → AllEnded (length (new_world lanes shards).shards) (new_world lanes shards).lanes (new_world lanes shards).shards
ended_new lanes shards i j sh l e g k = absurd (never k (ap (λ (sh : CoreShard). has_ended sh.journal j) (replicated shards i new_shard sh e)))
  where
    never : {b : Bool} → b ≡ true → false ≡ b → ⊥
    never p q = cc (p, q)

-- ---- without one element

any_less : {X : Type 0} (q : X → Bool) (front back : List X) (x : X) → list_any q (front ++ x ∷ back) ≡ false → list_any q (front ++ back) ≡ false
any_less q [] back x e = (or_both (q x) (list_any q back) e).1
any_less q (y ∷ front) back x e =
    let p = or_both (q y) (list_any q (front ++ x ∷ back)) e in rw (p.0) (any_less q front back x p.1)

any_more : {X : Type 0} (q : X → Bool) (xs : List X) (x : X) → list_any q xs ≡ false → q x ≡ false → list_any q (xs ++ x ∷ []) ≡ false
any_more q [] x e f = rw f refl
any_more q (y ∷ xs) x e f = let p = or_both (q y) (list_any q xs) e in rw (p.0) (any_more q xs x p.1 f)

both : {b : Bool} → b ≡ true → b ≡ false → ⊥
both p q = cc (p, q)

-- ---- a change of one lane or one shard

module _ (n : ℕ) (lanes : List CoreLane) (shards : List CoreShard) (h : AllEnded n lanes shards) where
  lane_put : (j : ℕ) (l l' : CoreLane) → slice_get lanes j ≡ Some l → ((i : ℕ) (sh : CoreShard) → IsDone n i j sh l → IsDone n i j sh l') → AllEnded n (slice_set lanes j l') shards
  lane_put j l l' g f i j2 sh l2 e gl k = at_each (λ j (l : CoreLane). has_ended sh.journal j ≡ true → IsDone n i j sh l) lanes j l' (λ p. f i sh (h i j sh l e g p)) (λ j l q p. h i j sh l e q p) j2 l2 gl k

  shard_put : (i : ℕ) (sh' : CoreShard) → ((j : ℕ) (l : CoreLane) → slice_get lanes j ≡ Some l → has_ended sh'.journal j ≡ true → IsDone n i j sh' l) → AllEnded n lanes (slice_set shards i sh')
  shard_put i sh' f i2 j sh l e g k = at_each (λ i (sh : CoreShard). has_ended sh.journal j ≡ true → IsDone n i j sh l) shards i sh' (λ p. f j l g p) (λ i sh q p. h i j sh l q g p) i2 sh e k

-- ---- a step

-- answers end no sender
ended_answered : (J : Journal) (answers : List Bool) (sender : ℕ) → has_ended J sender ≡ has_ended (answered J answers) sender
ended_answered [] answers sender = refl
ended_answered (e ∷ before) answers sender = refl

module _ (c : CoreConfig) (w : World) (own : (j : ℕ) (l : CoreLane) → slice_get w.lanes j ≡ Some l → Each (IsOnLane j) l.unrouted) (h : AllEnded (length w.shards) w.lanes w.shards) where
  abbrev n : ℕ
  n = length w.shards

  -- a routed span is of another lane than each that has ended there
  routed_on : (lane shard : ℕ) (l : CoreLane) (sh : CoreShard) (a : Arrival) (rest : List Arrival) → slice_get w.lanes lane ≡ Some l → slice_get w.shards shard ≡ Some sh → TakenOut (goes_to n shard) l.unrouted a rest
      → (j : ℕ) (m : CoreLane) → slice_get w.lanes j ≡ Some m → has_ended sh.journal j ≡ true → IsDone n shard j (record sh { queue = sh.queue ++ a ∷ [] }) m
  routed_on lane shard l sh a rest g gs t j m gm k = go (a.key.conn.lane == j) refl
    where
      d : IsDone n shard j sh m
      d = h shard j sh m gs gm k

      on : a.key.conn.lane ≡ lane
      on = (Each-right (IsOnLane lane) t.front (a ∷ t.back) (subst (λ (z : List Arrival). Each (IsOnLane lane) z) t.was (own lane l g))).0

      go : (b : Bool) → (a.key.conn.lane == j) ≡ b → IsDone n shard j (record sh { queue = sh.queue ++ a ∷ [] }) m
      go false e = record { ended = d.ended; routed_all = d.routed_all; taken_all = any_more (λ (x : Arrival). x.key.conn.lane == j) sh.queue a d.taken_all e }
      go true e =
          let same : lane ≡ j = sym on ∙ eqb-true a.key.conn.lane j e in
          let q : Some l ≡ Some m = sym g ∙ ap (slice_get w.lanes) same ∙ gm in
          let lm : l ≡ m = cc q in
          let none : list_any (goes_to n shard) (t.front ++ a ∷ t.back) ≡ false = ap (list_any (goes_to n shard)) (sym t.was) ∙ ap (λ (l : CoreLane). list_any (goes_to n shard) l.unrouted) lm ∙ d.routed_all in
          absurd (both (any_split (goes_to n shard) t.front t.back a t.passes) none)

  less_unrouted : (shard : ℕ) (l : CoreLane) (a : Arrival) (rest : List Arrival) → TakenOut (goes_to n shard) l.unrouted a rest → (i j : ℕ) (sh : CoreShard) → IsDone n i j sh l → IsDone n i j sh (record l { unrouted = rest })
  less_unrouted shard l a rest t i j sh d = record {
    ended = d.ended;
    routed_all = ap (list_any (goes_to n i)) t.becomes ∙ any_less (goes_to n i) t.front t.back a (ap (list_any (goes_to n i)) (sym t.was) ∙ d.routed_all);
    taken_all = d.taken_all;
  }

  ends : (next : World) → Stepped c w next → AllEnded n next.lanes next.shards
  ends next (received_by lane ordinal moment records l g e f) = subst (λ (next : World). AllEnded n next.lanes next.shards) f (lane_put n w.lanes w.shards h lane l _ g (λ i sh d. absurd (both d.ended e)))
  ends next (routed lane shard l sh a rest g gs t e) = subst (λ (next : World). AllEnded n next.lanes next.shards) e (
      let sh' : CoreShard = record sh { queue = sh.queue ++ a ∷ [] } in
      lane_put n w.lanes (slice_set w.shards shard sh') (shard_put n w.lanes w.shards h shard sh' (routed_on lane shard l sh a rest g gs t)) lane l (record l { unrouted = rest }) g (λ i sh d. less_unrouted shard l a rest t i lane sh d))
  ends next (refused_by lane shard l a rest g t e) = subst (λ (next : World). AllEnded n next.lanes next.shards) e (lane_put n w.lanes w.shards h lane l (record l { unrouted = rest }) g (λ i sh d. less_unrouted shard l a rest t i lane sh d))
  ends next (took_span shard refused lost sh a rest g q d m e) = subst (λ (next : World). AllEnded n next.lanes next.shards) e (shard_put n w.lanes w.shards h shard _ (λ j l gl k.
      let done = h shard j sh l g gl k in
      record { ended = done.ended; routed_all = done.routed_all; taken_all = (or_both (a.key.conn.lane == j) (list_any (λ (x : Arrival). x.key.conn.lane == j) rest) (ap (list_any (λ (x : Arrival). x.key.conn.lane == j)) (sym q) ∙ done.taken_all)).1 }))
  ends next (took_tick shard moment sh g d m e) = subst (λ (next : World). AllEnded n next.lanes next.shards) e (shard_put n w.lanes w.shards h shard _ (λ j l gl k.
      let done = h shard j sh l g gl k in record { ended = done.ended; routed_all = done.routed_all; taken_all = done.taken_all }))
  ends next (closed_by lane l g f e) = subst (λ (next : World). AllEnded n next.lanes next.shards) e (lane_put n w.lanes w.shards h lane l (record l { ended = true }) g (λ i sh d. record { ended = refl; routed_all = d.routed_all; taken_all = d.taken_all }))
  ends next (took_end shard sender sh g d m p e) = subst (λ (next : World). AllEnded n next.lanes next.shards) e (shard_put n w.lanes w.shards h shard _ (λ j l gl k. at_end j l gl (sender == j) refl k))
    where
      by_lane : (j : ℕ) (l : CoreLane) → slice_get w.lanes j ≡ Some l → sender ≡ j → IsDone n shard j sh l
      by_lane j l gl q =
          let x : sender_is_done w shard sh j (Some l) ≡ true = subst (λ (o : Option CoreLane). sender_is_done w shard sh j o ≡ true) gl (subst (λ (k : ℕ). sender_is_done w shard sh k (slice_get w.lanes k) ≡ true) q p) in
          done_parts w shard j sh l x

      again : (sh' : CoreShard) → sh'.queue ≡ sh.queue → (j : ℕ) (l : CoreLane) → IsDone n shard j sh l → IsDone n shard j sh' l
      again sh' q j l d = record { ended = d.ended; routed_all = d.routed_all; taken_all = ap (list_any (λ (x : Arrival). x.key.conn.lane == j)) q ∙ d.taken_all }

      at_end : (j : ℕ) (l : CoreLane) → slice_get w.lanes j ≡ Some l → (b : Bool) → (sender == j) ≡ b → (b || has_ended sh.journal j) ≡ true → IsDone n shard j (record { queue = sh.queue; journal = record { item = End sender; refused = false; lost = false; answers = [] } ∷ sh.journal; dealt = 0; unshipped = sh.unshipped ++ [] }) l
      at_end j l gl true q k = again _ refl j l (by_lane j l gl (eqb-true sender j q))
      at_end j l gl false q k = again _ refl j l (h shard j sh l g gl k)
  ends next (answered_by shard sh answers o g d i e) = subst (λ (next : World). AllEnded n next.lanes next.shards) e (shard_put n w.lanes w.shards h shard _ (λ j l gl k.
      let done = h shard j sh l g gl (ended_answered sh.journal answers j ∙ k) in record { ended = done.ended; routed_all = done.routed_all; taken_all = done.taken_all }))
  ends next (decided_one shard sh d g i e) = subst (λ (next : World). AllEnded n next.lanes next.shards) e (shard_put n w.lanes w.shards h shard _ (λ j l gl k.
      let done = h shard j sh l g gl k in record { ended = done.ended; routed_all = done.routed_all; taken_all = done.taken_all }))
  ends next (shipped shard sh a rest g u e) = subst (λ (next : World). AllEnded n next.lanes next.shards) e (shard_put n w.lanes w.shards h shard _ (λ j l gl k.
      let done = h shard j sh l g gl k in record { ended = done.ended; routed_all = done.routed_all; taken_all = done.taken_all }))
  ends next (pulled a rest u e) = subst (λ (next : World). AllEnded n next.lanes next.shards) e h
  ends next (handed_over b d e) = subst (λ (next : World). AllEnded n next.lanes next.shards) e h
  ends next (failed d e) = subst (λ (next : World). AllEnded n next.lanes next.shards) e h
  ends next (batch_dropped r b a e) = subst (λ (next : World). AllEnded n next.lanes next.shards) e h

pub ended_step : (c : CoreConfig) (w next : World) → Stepped c w next → ((j : ℕ) (l : CoreLane) → slice_get w.lanes j ≡ Some l → Each (IsOnLane j) l.unrouted) → AllEnded (length w.shards) w.lanes w.shards → AllEnded (length next.shards) next.lanes next.shards
ended_step c w next st own h = subst (λ (n : ℕ). AllEnded n next.lanes next.shards) (sym (same_shards c w next st)) (ends c w own h next st)
