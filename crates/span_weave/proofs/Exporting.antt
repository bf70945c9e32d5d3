-- What the exporter did, as steps: each span that it pulled is shipped and pulled, and its other acts are one step
-- each. For the contract of `weave`.
use Rattle.std.proofs.Common.{◌≡◌, ℕ, ◌+◌, ◌<◌, true, not, ◌||◌, cond, nat_lt, List, [], ◌∷◌, ◌++◌, length, Some, None, option_and_then, sym, refl, ap, ◌∙◌, subst, arith}
use Rattle.std.specs.List.{AllByRecursion}
use Rattle.journal_theory.proofs.Counted.{under_append}
use native.Mathlib.Decide.{ℕ_discrete}
use Rattle.otlp_types.specs.declared.arrival.Arrival.{Arrival}
use Rattle.span_ids.specs.declared.outcome.Reason.{Reason}
use Rattle.span_ids.specs.declared.outcome.Reason.TheVariants.{InvalidId, QueueFull, NoMemory, Evicted, NotSampled, LateNotSampled, ExporterDown}
use Rattle.journal_theory.specs.Fate.{DroppedSpan, counts}
use Rattle.world_theory.specs.World.{CoreConfig, CoreShard, World}
use Rattle.world_theory.specs.Step.{ship, pull, hand, fail, drop_batch, ship_on, is_empty, drop_batch_applies, step}
use Rattle.world_theory.proofs.Steps.{and_then_some, some_if, some_unless}
use Rattle.lane_queue.specs.Merges.{of}
use Rattle.span_weave.specs.Threads.{ExporterAct, pulled, handed_over, failed, batch_dropped, pulls, ExporterMade, may_drop_batch, after_act, after_acts}
use Rattle.span_weave.proofs.Lists.{set_at, set_same, set_other, get_tab, set_tab, of_here, of_there}
use Rattle.span_weave.proofs.Counting.{number}
use Rattle.span_weave.proofs.Runs.{Leads, leads_same, leads_one, leads_then}
use Rattle.span_weave.proofs.Worlds.{world}

-- a batch may be given up in the world as by the exporter itself
drop_batch_is : (c : CoreConfig) (w : World) (reason : Reason) → drop_batch_applies c w reason ≡ may_drop_batch c w.down reason
drop_batch_is c w InvalidId = refl
drop_batch_is c w QueueFull = refl
drop_batch_is c w NoMemory = refl
drop_batch_is c w Evicted = refl
drop_batch_is c w NotSampled = refl
drop_batch_is c w LateNotSampled = refl
drop_batch_is c w ExporterDown = refl

-- a shard that has shipped all
abbrev pub shipped_out : CoreShard → CoreShard
shipped_out sh = record sh { unshipped = [] }

-- a shard where this is still to be shipped
abbrev still_with : CoreShard → List Arrival → CoreShard
still_with sh out = record sh { unshipped = out }

module _ (c : CoreConfig) (lanes shards : ℕ) (received : ℕ → List Arrival) (u : ℕ → List Arrival) where
  -- the world with these shards and this exporter, whose export list is this
  abbrev pub stage_with : List Arrival → (ℕ → CoreShard) → ExporterMade → (counted : List DroppedSpan) → World
  stage_with exported f x C = world c lanes shards received (record { unrouted = u; shards = f; exported = exported; batch = x.batch; handed = x.handed; counted = C; down = x.down })

  abbrev pub stage : (ℕ → CoreShard) → ExporterMade → (counted : List DroppedSpan) → World
  stage f x C = stage_with [] f x C

  -- what the exporter's acts led to: all was shipped, and what the acts made
  pub record Exported (f : ℕ → CoreShard) (x : ExporterMade) (C : List DroppedSpan) (end : ExporterMade) : Type 0 where
    pub shards_now : ℕ → CoreShard
    pub counted : List DroppedSpan
    pub leads : Leads c (stage f x C) (stage shards_now end counted)
    pub shipped : (s : ℕ) → s < shards → shards_now s ≡ shipped_out (f s)
    pub number_is : (reason : Reason) → number reason counted + number reason x.counted ≡ number reason C + number reason end.counted

  -- a span is shipped
  ships : (f : ℕ → CoreShard) (x : ExporterMade) (C : List DroppedSpan) (s : ℕ) (a : Arrival) (rest : List Arrival) → s < shards → (f s).unshipped ≡ a ∷ rest
      → step c (stage f x C) (ship s) ≡ Some (stage_with (a ∷ []) (set_at f s (still_with (f s) rest)) x C)
  ships f x C s a rest below e =
      let w = stage f x C in
      let new = still_with (f s) rest in
      ap (option_and_then (λ (z : CoreShard). ship_on w s z z.unshipped)) (get_tab f 0 shards s s below (omega arith))
      ∙ ap (ship_on w s (f s)) e
      ∙ ap (λ (z : List CoreShard). Some (record w { shards = z; exported = a ∷ [] })) (set_tab f (set_at f s new) 0 shards s s new (omega arith) (set_same f s new) (λ j apart. sym (set_other f s j new apart)))

  -- it is pulled
  pulls_one : (f : ℕ → CoreShard) (x : ExporterMade) (C : List DroppedSpan) (a : Arrival) → nat_lt (length x.batch) c.batch_size ≡ true
      → step c (stage_with (a ∷ []) f x C) pull ≡ Some (stage f (record x { batch = x.batch ++ a ∷ [] }) C)
  pulls_one f x C a room = ap (λ b. cond b (Some (stage f (record x { batch = x.batch ++ a ∷ [] }) C)) None) room

  -- an act that makes one step, and then the others
  act_then : (f : ℕ → CoreShard) (x next : ExporterMade) (C D : List DroppedSpan) (end : ExporterMade) → Leads c (stage f x C) (stage f next D) → ((reason : Reason) → number reason D + number reason x.counted ≡ number reason C + number reason next.counted)
      → Exported f next D end → Exported f x C end
  act_then f x next C D end first counts_so more = record {
    shards_now = more.shards_now;
    counted = more.counted;
    leads = leads_then c _ _ _ first more.leads;
    shipped = more.shipped;
    number_is = λ reason. omega (arith, more.number_is reason, counts_so reason);
  }

  pub export_acts : (acts : List ExporterAct) (f : ℕ → CoreShard) (x : ExporterMade) (C : List DroppedSpan) (end : ExporterMade) → AllByRecursion (λ (p : ℕ × Arrival). p.0 < shards) (pulls acts)
      → ((s : ℕ) → s < shards → (f s).unshipped ≡ of s (pulls acts)) → after_acts c x acts ≡ Some end → Exported f x C end
  export_acts [] f x C end all out e =
      let same : x ≡ end = cc e in
      record {
        shards_now = f;
        counted = C;
        leads = leads_same c _ _ (ap (λ (z : ExporterMade). stage f z C) same);
        shipped = λ s b. ap (still_with (f s)) (out s b);
        number_is = λ reason. ap (λ (z : ExporterMade). number reason C + number reason z.counted) same;
      }
  export_acts (pulled k a ∷ acts) f x C end all out e =
      let h = and_then_some _ (after_act c x (pulled k a)) end e in
      let i = some_if (nat_lt (length x.batch) c.batch_size) (record x { batch = x.batch ++ a ∷ [] }) h.0 h.1 in
      let left = of k (pulls acts) in
      let g = set_at f k (still_with (f k) left) in
      let more = export_acts acts g (record x { batch = x.batch ++ a ∷ [] }) C end all.1 (λ s b. out_at k a acts f out s b (ℕ_discrete s k)) (subst (λ (z : ExporterMade). after_acts c z acts ≡ Some end) (sym i.1) h.2) in
      record {
        shards_now = more.shards_now;
        counted = more.counted;
        leads = leads_then c _ _ _ (leads_one c _ _ (ship k) (λ l k. refl) (ships f x C k a left all.0 (out k all.0 ∙ of_here k a (pulls acts)))) (leads_then c _ _ _ (leads_one c _ _ pull (λ l k. refl) (pulls_one g x C a i.0)) more.leads);
        shipped = λ s b. more.shipped s b ∙ same_out k left f s (ℕ_discrete s k);
        number_is = more.number_is;
      }
    where
      out_at : (k : ℕ) (a : Arrival) (acts : List ExporterAct) (f : ℕ → CoreShard) → ((s : ℕ) → s < shards → (f s).unshipped ≡ of s ((k, a) ∷ pulls acts)) → (s : ℕ) → s < shards → Dec (s ≡ k)
          → (set_at f k (still_with (f k) (of k (pulls acts))) s).unshipped ≡ of s (pulls acts)
      out_at k a acts f out s b (yes q) = subst (λ i. (set_at f k (still_with (f k) (of k (pulls acts))) i).unshipped ≡ of i (pulls acts)) (sym q) (ap (λ (z : CoreShard). z.unshipped) (set_same f k (still_with (f k) (of k (pulls acts)))))
      out_at k a acts f out s b (no n) = ap (λ (z : CoreShard). z.unshipped) (set_other f k s (still_with (f k) (of k (pulls acts))) n) ∙ (out s b ∙ of_there s k a (pulls acts) n)

      same_out : (k : ℕ) (left : List Arrival) (f : ℕ → CoreShard) (s : ℕ) → Dec (s ≡ k) → shipped_out (set_at f k (still_with (f k) left) s) ≡ shipped_out (f s)
      same_out k left f s (yes q) = subst (λ i. shipped_out (set_at f k (still_with (f k) left) i) ≡ shipped_out (f i)) (sym q) (ap shipped_out (set_same f k (still_with (f k) left)))
      same_out k left f s (no n) = ap shipped_out (set_other f k s (still_with (f k) left) n)
  export_acts (handed_over ∷ acts) f x C end all out e =
      let h = and_then_some _ (after_act c x handed_over) end e in
      let next : ExporterMade = record x { handed = x.handed ++ x.batch ∷ []; batch = [] } in
      let i = some_unless (is_empty x.batch || x.down) next h.0 h.1 in
      act_then f x next C C end (leads_one c _ _ hand (λ l k. refl) (ap (λ b. cond b None (Some (stage f next C))) i.0)) (λ reason. refl)
      (export_acts acts f next C end all out (subst (λ (z : ExporterMade). after_acts c z acts ≡ Some end) (sym i.1) h.2))
  export_acts (failed ∷ acts) f x C end all out e =
      let h = and_then_some _ (after_act c x failed) end e in
      let next : ExporterMade = record x { down = true } in
      let i = some_unless x.down next h.0 h.1 in
      act_then f x next C C end (leads_one c _ _ fail (λ l k. refl) (ap (λ b. cond b None (Some (stage f next C))) i.0)) (λ reason. refl)
      (export_acts acts f next C end all out (subst (λ (z : ExporterMade). after_acts c z acts ≡ Some end) (sym i.1) h.2))
  export_acts (batch_dropped why ∷ acts) f x C end all out e =
      let h = and_then_some _ (after_act c x (batch_dropped why)) end e in
      let next : ExporterMade = record x { counted = x.counted ++ counts why x.batch; batch = [] } in
      let i = some_unless (is_empty x.batch || not (may_drop_batch c x.down why)) next h.0 h.1 in
      let D = C ++ counts why x.batch in
      act_then f x next C D end (leads_one c _ _ (drop_batch why) (λ l k. refl) (ap (λ b. cond (is_empty x.batch || not b) None (Some (stage f next D))) (drop_batch_is c (stage f x C) why) ∙ ap (λ b. cond b None (Some (stage f next D))) i.0))
      (λ reason. omega (arith, under_append reason C (counts why x.batch), under_append reason x.counted (counts why x.batch)))
      (export_acts acts f next D end all out (subst (λ (z : ExporterMade). after_acts c z acts ≡ Some end) (sym i.1) h.2))
