-- Each span of a journal had valid ids and marks that could apply where it was taken.
-- For the laws of the headline, `headline` and each of its parts.
use Rattle.std.proofs.Common.{◌≡◌, ℕ, Bool, true, List, [], ◌∷◌, ◌++◌, slice_get, slice_set, Some, sym, subst}
use Rattle.journal_theory.specs.Journal.{Entry, Settings, Journal, answered}
use Rattle.otlp_types.specs.declared.arrival.Item.{Item}
use Rattle.otlp_types.specs.declared.arrival.Item.TheVariants.{Span, Tick, End}
use Rattle.world_theory.specs.World.{CoreConfig, CoreShard, World, new_world, new_shard, settings}
use Rattle.journal_theory.specs.Marked.{marks_apply_to_ids}
use Rattle.world_theory.proofs.Lined.{at_each}
use Rattle.world_theory.proofs.Order.{replicated}
use Rattle.world_theory.proofs.Balance.{same_settings}
use Rattle.world_theory.proofs.Steps.{Stepped, received_by, routed, refused_by, took_span, took_tick, closed_by, took_end, answered_by, decided_one, shipped, pulled, handed_over, failed, batch_dropped}

-- the marks of an item could apply to it
abbrev pub IsMarked : Settings → (before : Journal) → (refused lost : Bool) → Item → Type 0
IsMarked s before refused lost (Span a) = marks_apply_to_ids s before refused lost a.rec.span.ids ≡ true
IsMarked s before refused lost (Tick m) = Unit {0}
IsMarked s before refused lost (End sender) = Unit {0}

-- so of each item of a journal
abbrev pub AreMarked : Settings → Journal → Type 0
AreMarked s [] = Unit {0}
AreMarked s (e ∷ before) = IsMarked s before e.refused e.lost e.item × AreMarked s before

pub marked_at : (s : Settings) (later before : Journal) (e : Entry) → AreMarked s (later ++ e ∷ before) → IsMarked s before e.refused e.lost e.item
marked_at s [] before e h = h.0
marked_at s (x ∷ later) before e h = marked_at s later before e h.1

-- answers change no mark
marked_same : (s : Settings) (J : Journal) (answers : List Bool) → AreMarked s J → AreMarked s (answered J answers)
marked_same s [] answers h = h
marked_same s (e ∷ before) answers h = h

-- so of each shard
abbrev pub AllMarked : Settings → List CoreShard → Type 0
AllMarked s shards = (i : ℕ) (sh : CoreShard) → slice_get shards i ≡ Some sh → AreMarked s sh.journal

pub marked_new : (s : Settings) (shards : ℕ) (lanes : ℕ) → AllMarked s (new_world lanes shards).shards
marked_new s shards lanes i sh e = subst (λ (sh : CoreShard). AreMarked s sh.journal) (replicated shards i new_shard sh e) tt

module _ (c : CoreConfig) (w : World) (h : AllMarked (settings c w) w.shards) where
  abbrev s : Settings
  s = settings c w

  put : (i : ℕ) (sh' : CoreShard) → AreMarked s sh'.journal → AllMarked s (slice_set w.shards i sh')
  put i sh' k = at_each (λ i (sh : CoreShard). AreMarked s sh.journal) w.shards i sh' k h

  marked : (next : World) → Stepped c w next → AllMarked s next.shards
  marked next (received_by lane ordinal moment records l g n e) = subst (λ (next : World). AllMarked s next.shards) e h
  marked next (routed lane shard l sh a rest g m t e) = subst (λ (next : World). AllMarked s next.shards) e (put shard (record sh { queue = sh.queue ++ a ∷ [] }) (h shard sh m))
  marked next (refused_by lane shard l a rest g t e) = subst (λ (next : World). AllMarked s next.shards) e h
  marked next (took_span shard refused lost sh a rest g q n m e) = subst (λ (next : World). AllMarked s next.shards) e (put shard _ (m, h shard sh g))
  marked next (took_tick shard moment sh g n m e) = subst (λ (next : World). AllMarked s next.shards) e (put shard _ (tt, h shard sh g))
  marked next (closed_by lane l g n e) = subst (λ (next : World). AllMarked s next.shards) e h
  marked next (took_end shard sender sh g n m d e) = subst (λ (next : World). AllMarked s next.shards) e (put shard _ (tt, h shard sh g))
  marked next (answered_by shard sh answers o g d i e) = subst (λ (next : World). AllMarked s next.shards) e (put shard _ (marked_same s sh.journal answers (h shard sh g)))
  marked next (decided_one shard sh d g i e) = subst (λ (next : World). AllMarked s next.shards) e (put shard _ (h shard sh g))
  marked next (shipped shard sh a rest g u e) = subst (λ (next : World). AllMarked s next.shards) e (put shard _ (h shard sh g))
  marked next (pulled a rest u e) = subst (λ (next : World). AllMarked s next.shards) e h
  marked next (handed_over b d e) = subst (λ (next : World). AllMarked s next.shards) e h
  marked next (failed d e) = subst (λ (next : World). AllMarked s next.shards) e h
  marked next (batch_dropped r b a e) = subst (λ (next : World). AllMarked s next.shards) e h

pub marked_step : (c : CoreConfig) (w next : World) → Stepped c w next → AllMarked (settings c w) w.shards → AllMarked (settings c next) next.shards
marked_step c w next st h = subst (λ (s : Settings). AllMarked s next.shards) (sym (same_settings c w next st)) (marked c w h next st)
