-- A shard that has something to decide takes no item.
-- For the law `decided_before_next_item`.
use Rattle.std.proofs.Common.{◌≡◌, ℕ, zero, suc, ◌≤◌, Bool, true, false, List, [], ◌∷◌, ◌++◌, slice_get, slice_set, Some, ◌⊎◌, inl, inr, refl, sym, ap, subst, ◌∙◌, arith}
use Rattle.journal_theory.specs.Journal.{Journal, answered}
use Rattle.world_theory.specs.World.{CoreConfig, CoreShard, World, settings, has_due}
use Rattle.world_theory.proofs.Steps.{Stepped, received_by, routed, refused_by, took_span, took_tick, closed_by, took_end, answered_by, decided_one, shipped, pulled, handed_over, failed, batch_dropped, Steps, plain, decided_by, stepped}
use Rattle.decision_times.specs.Laws.{items, DecidedBeforeNextItem}

-- the shard is there, it has taken no further item, and no decision of it is undone
abbrev GoesOn : List CoreShard → ℕ → CoreShard → Type 0
GoesOn shards i sh = (then : CoreShard) × (slice_get shards i ≡ Some then) × (items then.journal ≡ items sh.journal) × (sh.dealt ≤ then.dealt)

-- what stands at a place after a write
written : {X : Type 0} (xs : List X) (i j : ℕ) (x y : X) → slice_get xs i ≡ Some x → ((j ≡ i) × (slice_get (slice_set xs j y) i ≡ Some y)) ⊎ (slice_get (slice_set xs j y) i ≡ Some x)
written [] i j x y e = absurd (cc e)
written (z ∷ xs) zero zero x y e = inl (refl, refl)
written (z ∷ xs) zero (suc j) x y e = inr e
written (z ∷ xs) (suc i) zero x y e = inr e
written (z ∷ xs) (suc i) (suc j) x y e = go (written xs i j x y e)
  where
    go : ((j ≡ i) × (slice_get (slice_set xs j y) i ≡ Some y)) ⊎ (slice_get (slice_set xs j y) i ≡ Some x) → ((suc j ≡ suc i) × (slice_get (slice_set xs j y) i ≡ Some y)) ⊎ (slice_get (slice_set xs j y) i ≡ Some x)
    go (inl p) = inl (ap suc p.0, p.1)
    go (inr p) = inr p

-- a shard that is written, by what becomes of it
put : (shards : List CoreShard) (i j : ℕ) (sh at now : CoreShard) → slice_get shards i ≡ Some sh → slice_get shards j ≡ Some at → (at ≡ sh → (items now.journal ≡ items sh.journal) × (sh.dealt ≤ now.dealt)) → GoesOn (slice_set shards j now) i sh
put shards i j sh at now g k f = go (written shards i j sh now g)
  where
    go : ((j ≡ i) × (slice_get (slice_set shards j now) i ≡ Some now)) ⊎ (slice_get (slice_set shards j now) i ≡ Some sh) → GoesOn (slice_set shards j now) i sh
    go (inl p) =
        let q : Some at ≡ Some sh = sym k ∙ ap (slice_get shards) p.0 ∙ g in
        let same : at ≡ sh = cc q in
        let r = f same in (now, p.1, r.0, r.1)
    go (inr p) = (sh, p, refl, omega arith)

still : (at sh : CoreShard) → at ≡ sh → (items at.journal ≡ items sh.journal) × (sh.dealt ≤ at.dealt)
still at sh e = let d : at.dealt ≡ sh.dealt = ap (λ (x : CoreShard). x.dealt) e in (ap (λ (x : CoreShard). items x.journal) e, omega (arith, d))

items_answered : (J : Journal) (answers : List Bool) → items (answered J answers) ≡ items J
items_answered [] answers = refl
items_answered (e ∷ J) answers = refl

module _ (c : CoreConfig) (w next : World) (shard : ℕ) (sh : CoreShard) (g : slice_get w.shards shard ≡ Some sh) (due : has_due (settings c w) sh ≡ true) where
  -- a shard that takes an item has nothing to decide: so it is another one
  never : (at : CoreShard) → has_due (settings c w) at ≡ false → {P : Type 0} → at ≡ sh → P
  never at none e = let d : has_due (settings c w) at ≡ true = ap (λ (x : CoreShard). has_due (settings c w) x) e ∙ due in absurd (cc (none, d))

  plainly : Stepped c w next → GoesOn next.shards shard sh
  plainly (received_by lane ordinal moment records l f n e) = subst (λ (next : World). GoesOn next.shards shard sh) e (sh, g, refl, omega arith)
  plainly (routed lane at l x a rest f m t e) = subst (λ (next : World). GoesOn next.shards shard sh) e (put w.shards shard at sh x (record x { queue = x.queue ++ a ∷ [] }) g m (still x sh))
  plainly (refused_by lane at l a rest f t e) = subst (λ (next : World). GoesOn next.shards shard sh) e (sh, g, refl, omega arith)
  plainly (took_span at refused lost x a rest f q n m e) = subst (λ (next : World). GoesOn next.shards shard sh) e (put w.shards shard at sh x _ g f (never x n))
  plainly (took_tick at moment x f n m e) = subst (λ (next : World). GoesOn next.shards shard sh) e (put w.shards shard at sh x _ g f (never x n))
  plainly (closed_by lane l f n e) = subst (λ (next : World). GoesOn next.shards shard sh) e (sh, g, refl, omega arith)
  plainly (took_end at sender x f n m d e) = subst (λ (next : World). GoesOn next.shards shard sh) e (put w.shards shard at sh x _ g f (never x n))
  plainly (answered_by at x answers o f d i e) = subst (λ (next : World). GoesOn next.shards shard sh) e (put w.shards shard at sh x (record x { journal = answered x.journal answers }) g f
      (λ same. let k = still x sh same in (items_answered x.journal answers ∙ k.0, k.1)))
  plainly (decided_one at x d f i e) = subst (λ (next : World). GoesOn next.shards shard sh) e (put w.shards shard at sh x _ g f (λ same. let k = still x sh same in let l = k.1 in (k.0, omega arith)))
  plainly (shipped at x a rest f u e) = subst (λ (next : World). GoesOn next.shards shard sh) e (put w.shards shard at sh x (record x { unshipped = rest }) g f (still x sh))
  plainly (pulled a rest u e) = subst (λ (next : World). GoesOn next.shards shard sh) e (sh, g, refl, omega arith)
  plainly (handed_over b d e) = subst (λ (next : World). GoesOn next.shards shard sh) e (sh, g, refl, omega arith)
  plainly (failed d e) = subst (λ (next : World). GoesOn next.shards shard sh) e (sh, g, refl, omega arith)
  plainly (batch_dropped r b a e) = subst (λ (next : World). GoesOn next.shards shard sh) e (sh, g, refl, omega arith)

  goes_on : Steps c w next → GoesOn next.shards shard sh
  goes_on (plain st p) = plainly st
  goes_on (decided_by at x answers o f d i e) = subst (λ (next : World). GoesOn next.shards shard sh) e (put w.shards shard at sh x _ g f
      (λ same. let k = still x sh same in let l = k.1 in (items_answered x.journal answers ∙ k.0, omega arith)))

pub decided_before_next_item : DecidedBeforeNextItem
decided_before_next_item c w next taking e shard sh g due = goes_on c w next shard sh g due (stepped c w next taking e)
