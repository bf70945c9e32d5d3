-- What a shard has shipped, followed by what it has not shipped, is what its journal released.
-- For the laws of the headline, `headline` and each of its parts.
use Rattle.std.proofs.Common.{◌≡◌, ℕ, zero, suc, false, List, [], ◌∷◌, ◌++◌, length, take, nat_lt, slice_get, slice_set, Some, refl, ap, sym, subst, ◌∙◌, arith, append_assoc}
use Rattle.std.proofs.lemmas.List.{append-nil}
use Rattle.std.proofs.Math.Numerals.{add-one}
use Rattle.journal_theory.specs.Journal.{Entry, Settings, Journal, Decision, due_now, after_item, due_at, decisions_now, decisions_at, notes}
use Rattle.journal_theory.specs.Fate.{Effect, effect, effect_dealt, effect_of_taking, effect_of_decision, effect_of_decisions, ◌then◌}
use Rattle.otlp_types.specs.declared.arrival.Arrival.{Arrival}
use Rattle.otlp_types.specs.declared.arrival.Item.TheVariants.{Span, Tick, End}
use Rattle.world_theory.specs.World.{CoreConfig, CoreShard, World, new_world, new_shard, settings, has_due}
use Rattle.world_theory.proofs.Content.{take_whole, length_in_turn, not_below}
use Rattle.journal_theory.proofs.Notes.{HasRoom}
use Rattle.world_theory.proofs.Answered.{effect_dealt_same}
use Rattle.world_theory.proofs.Lined.{at_each}
use Rattle.world_theory.proofs.Order.{replicated}
use Rattle.world_theory.proofs.Balance.{same_settings}
use Rattle.world_theory.proofs.Steps.{Stepped, received_by, routed, refused_by, took_span, took_tick, closed_by, took_end, answered_by, decided_one, shipped, pulled, handed_over, failed, batch_dropped}

-- what is unshipped is the end of what was released
abbrev pub HasShipped : Settings → CoreShard → Type 0
HasShipped s sh = (shipped : List Arrival) × (shipped ++ sh.unshipped ≡ (effect_dealt s sh.journal sh.dealt).released)

-- so of each shard
abbrev pub AllShipped : Settings → List CoreShard → Type 0
AllShipped s shards = (i : ℕ) (sh : CoreShard) → slice_get shards i ≡ Some sh → HasShipped s sh

-- where nothing is due, all was dealt with
all_done : (s : Settings) (J : Journal) (dealt : ℕ) → nat_lt dealt (length (due_now s J)) ≡ false → effect_dealt s J dealt ≡ effect s J
all_done s [] dealt n = refl
all_done s (e ∷ J) dealt n = let noted = after_item s e J e.item (notes s J) in ap (λ z. (effect s J then effect_of_taking s e J) then effect_of_decisions z) (take_whole dealt (decisions_at s e J noted)
    (let l = not_below dealt (length (due_now s (e ∷ J))) n in let k = length_in_turn s (e ∷ J) (due_at s e J e.item noted) e.answers in omega arith))

-- one decision more
decided_more : (ds : List Decision) (n : ℕ) (d : Decision) → slice_get ds n ≡ Some d → (effect_of_decisions (take (suc n) ds)).released ≡ (effect_of_decisions (take n ds)).released ++ (effect_of_decision d).released
decided_more [] n d e = absurd (cc e)
decided_more (x ∷ ds) zero d e = let k : x ≡ d = cc e in append-nil (effect_of_decision x).released ∙ ap (λ (d : Decision). (effect_of_decision d).released) k
decided_more (x ∷ ds) (suc n) d e = ap (λ (z : List Arrival). (effect_of_decision x).released ++ z) (decided_more ds n d e) ∙ sym (append_assoc (effect_of_decision x).released (effect_of_decisions (take n ds)).released (effect_of_decision d).released)

by_decision : (s : Settings) (J : Journal) (dealt : ℕ) (d : Decision) → slice_get (decisions_now s J) dealt ≡ Some d → (effect_dealt s J (suc dealt)).released ≡ (effect_dealt s J dealt).released ++ (effect_of_decision d).released
by_decision s [] dealt d e = absurd (cc e)
by_decision s (e ∷ J) dealt d is = ap (λ (z : List Arrival). (effect s J then effect_of_taking s e J).released ++ z) (decided_more (decisions_now s (e ∷ J)) dealt d is)
    ∙ sym (append_assoc (effect s J then effect_of_taking s e J).released (effect_of_decisions (take dealt (decisions_now s (e ∷ J)))).released (effect_of_decision d).released)

-- an item is taken where nothing is due
taken : (s : Settings) (sh : CoreShard) (e : Entry) (queue : List Arrival) → has_due s sh ≡ false → HasShipped s sh
    → HasShipped s (record { queue = queue; journal = e ∷ sh.journal; dealt = 0; unshipped = sh.unshipped ++ (effect_of_taking s e sh.journal).released })
taken s sh e queue n h = (h.0, sym (append_assoc h.0 sh.unshipped new) ∙ ap (λ (z : List Arrival). z ++ new) (h.1 ∙ ap (λ (f : Effect). f.released) (all_done s sh.journal sh.dealt n)) ∙ sym (append-nil ((effect s sh.journal).released ++ new)))
  where
    new : List Arrival
    new = (effect_of_taking s e sh.journal).released

pub shipped_new : (s : Settings) (lanes shards : ℕ) → AllShipped s (new_world lanes shards).shards
shipped_new s lanes shards i sh e = subst (HasShipped s) (replicated shards i new_shard sh e) ([], refl)

module _ (c : CoreConfig) (room : HasRoom c.shard.num_traces) (w : World) (h : AllShipped (settings c w) w.shards) where
  abbrev s : Settings
  s = settings c w

  put : (i : ℕ) (sh' : CoreShard) → HasShipped s sh' → AllShipped s (slice_set w.shards i sh')
  put i sh' k = at_each (λ i (sh : CoreShard). HasShipped s sh) w.shards i sh' k h

  ships : (next : World) → Stepped c w next → AllShipped s next.shards
  ships next (received_by lane ordinal moment records l g n e) = subst (λ (next : World). AllShipped s next.shards) e h
  ships next (routed lane shard l sh a rest g m t e) = subst (λ (next : World). AllShipped s next.shards) e (put shard _ (h shard sh m))
  ships next (refused_by lane shard l a rest g t e) = subst (λ (next : World). AllShipped s next.shards) e h
  ships next (took_span shard refused lost sh a rest g q n m e) = subst (λ (next : World). AllShipped s next.shards) e (put shard _ (taken s sh (record { item = Span a; refused = refused; lost = lost; answers = [] }) rest n (h shard sh g)))
  ships next (took_tick shard moment sh g n m e) = subst (λ (next : World). AllShipped s next.shards) e (put shard _ (taken s sh (record { item = Tick moment; refused = false; lost = false; answers = [] }) sh.queue n (h shard sh g)))
  ships next (closed_by lane l g n e) = subst (λ (next : World). AllShipped s next.shards) e h
  ships next (took_end shard sender sh g n m d e) = subst (λ (next : World). AllShipped s next.shards) e (put shard _ (taken s sh (record { item = End sender; refused = false; lost = false; answers = [] }) sh.queue n (h shard sh g)))
  ships next (answered_by shard sh answers o g d i e) = subst (λ (next : World). AllShipped s next.shards) e (put shard _ (
      let k = h shard sh g in
      (k.0, k.1 ∙ ap (λ (f : Effect). f.released) (sym (effect_dealt_same s room sh.journal sh.dealt answers o d i)))))
  ships next (decided_one shard sh d g i e) = subst (λ (next : World). AllShipped s next.shards) e (put shard _ (
      let k = h shard sh g in
      let new = (effect_of_decision d).released in
      (k.0, sym (append_assoc k.0 sh.unshipped new) ∙ ap (λ (z : List Arrival). z ++ new) k.1 ∙ sym (by_decision s sh.journal sh.dealt d i) ∙ ap (λ n. (effect_dealt s sh.journal n).released) (sym (add-one sh.dealt)))))
  ships next (shipped shard sh a rest g u e) = subst (λ (next : World). AllShipped s next.shards) e (put shard _ (
      let k = h shard sh g in
      (k.0 ++ a ∷ [], append_assoc k.0 (a ∷ []) rest ∙ ap (λ (z : List Arrival). k.0 ++ z) (sym u) ∙ k.1)))
  ships next (pulled a rest u e) = subst (λ (next : World). AllShipped s next.shards) e h
  ships next (handed_over b d e) = subst (λ (next : World). AllShipped s next.shards) e h
  ships next (failed d e) = subst (λ (next : World). AllShipped s next.shards) e h
  ships next (batch_dropped r b a e) = subst (λ (next : World). AllShipped s next.shards) e h

pub shipped_step : (c : CoreConfig) → HasRoom c.shard.num_traces → (w next : World) → Stepped c w next → AllShipped (settings c w) w.shards → AllShipped (settings c next) next.shards
shipped_step c room w next st h = subst (λ (s : Settings). AllShipped s next.shards) (sym (same_settings c w next st)) (ships c room w h next st)
