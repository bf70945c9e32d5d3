-- What a shard takes and decides, by the shard read at its place.
-- For the contracts of `decide`, `end`, `keep_entry`, `may_decide` and others.
use Rattle.std.proofs.Common.{◌≡◌, ℕ, zero, suc, ◌+◌, ◌≤◌, Bool, true, false, not, ◌&&◌, cond, List, [], ◌∷◌, ◌++◌, length, drop, slice_get, slice_set, Option, Some, None, option_map, is_some, refl, ap, sym, ◌∙◌, arith}
use Rattle.std.specs.Prelude.{Result, Ok, Err, IsErr, IsErrAnd}
use Rattle.otlp_types.specs.declared.arrival.Arrival.{Arrival}
use Rattle.otlp_types.specs.declared.arrival.Item.TheVariants.{Span, Tick, End}
use Rattle.journal_theory.specs.Journal.{Entry, Settings, Journal, answered, due_now}
use Rattle.journal_theory.specs.Fate.{DroppedSpan, Effect, effect_of_taking}
use Rattle.journal_theory.specs.Answered.{effect_answered, effect_answered_at}
use Rattle.std.specs.Option.{option_and_then}
use Rattle.journal_theory.specs.Marked.{marks_apply_to_ids}
use Rattle.world_theory.specs.World.{CoreConfig, CoreShard, World, settings, ticker, has_due}
use Rattle.world_theory.specs.Step.{Step, take_on, take, tick, end, decide, ship, step, after_taking, after_decision, sender_is_done}
use Rattle.span_world.specs.Answers.{next_of, may_take, entry_of_first, next_decision, is_span, queue_after, KeepsItem, KeepsEntry, StepsTo}
use Rattle.span_world.specs.Core.{config_of, Core}
use Rattle.span_world.specs.declared.step.StepRefusal.{StepRefusal}
use Rattle.span_world.specs.declared.step.StepRefusal.TheVariants.{NotEnabled, NoMemory}

past_end : {X : Type 0} (xs : List X) (i : ℕ) → length xs ≤ i → slice_get xs i ≡ None
past_end [] i l = refl
past_end (x ∷ xs) zero l = absurd (omega arith)
past_end (x ∷ xs) (suc i) l = past_end xs i (omega arith)

pub none_due : (s : Settings) (J : Journal) (dealt : ℕ) (answers : List Bool) → length (due_now s J) ≤ dealt → effect_answered_at s J dealt answers ≡ None
none_due s J dealt answers l = ap (option_and_then (effect_answered s J answers)) (past_end (due_now s J) dealt l)

mapped_some : {X Y : Type 0} (f : X → Y) (o : Option X) → is_some (option_map f o) ≡ is_some o
mapped_some f None = refl
mapped_some f (Some x) = refl

if_map : {X Y : Type 0} (f : X → Y) (x : X) (b : Bool) → cond b (Some (f x)) None ≡ option_map f (cond b (Some x) None)
if_map f x true = refl
if_map f x false = refl

module _ (c : CoreConfig) (w : World) (shard : ℕ) (sh : CoreShard) (g : slice_get w.shards shard ≡ Some sh) where
  take_is : (refused lost : Bool) (q : List Arrival) → take_on c w shard refused lost sh q ≡ option_map (λ (e : Entry). after_taking c w shard sh e (drop 1 q)) (entry_of_first (settings c w) sh refused lost q)
  take_is refused lost [] = refl
  take_is refused lost (a ∷ rest) = if_map (λ (e : Entry). after_taking c w shard sh e rest) (record { item = Span a; refused = refused; lost = lost; answers = [] }) (not (has_due (settings c w) sh) && marks_apply_to_ids (settings c w) sh.journal refused lost a.rec.span.ids)

  pub takes : (refused lost : Bool) (e : Entry) → entry_of_first (settings c w) sh refused lost sh.queue ≡ Some e → step c w (take shard refused lost) ≡ Some (after_taking c w shard sh e (drop 1 sh.queue))
  takes refused lost e f = rw g (take_is refused lost sh.queue ∙ ap (option_map (λ (e : Entry). after_taking c w shard sh e (drop 1 sh.queue))) f)

  pub no_tick : (moment : ℕ) → may_take (settings c w) sh (ticker w) ≡ false → step c w (tick shard moment) ≡ None
  no_tick moment e = rw (g, e) refl

  pub ticks : (moment : ℕ) → may_take (settings c w) sh (ticker w) ≡ true → step c w (tick shard moment) ≡ Some (after_taking c w shard sh (record { item = Tick moment; refused = false; lost = false; answers = [] }) sh.queue)
  ticks moment e = rw (g, e) refl

  pub no_end : (sender : ℕ) → may_take (settings c w) sh sender ≡ false → step c w (end shard sender) ≡ None
  no_end sender e = rw (g, e) refl

  pub ends : (sender : ℕ) → may_take (settings c w) sh sender ≡ true → sender_is_done w shard sh sender (slice_get w.lanes sender) ≡ true
      → step c w (end shard sender) ≡ Some (after_taking c w shard sh (record { item = End sender; refused = false; lost = false; answers = [] }) sh.queue)
  ends sender e f = rw (g, e, f) refl

  module _ (answers : List Bool) where
    decide_is : step c w (decide shard answers) ≡ option_map (after_decision w shard sh answers) (next_decision (settings c w) sh answers)
    decide_is = rw g refl

    pub can_decide : is_some (next_decision (settings c w) sh answers) ≡ true → is_some (step c w (decide shard answers)) ≡ true
    can_decide e = ap is_some decide_is ∙ mapped_some (after_decision w shard sh answers) (next_decision (settings c w) sh answers) ∙ e

    pub no_decision : next_decision (settings c w) sh answers ≡ None → step c w (decide shard answers) ≡ None
    no_decision e = decide_is ∙ ap (option_map (after_decision w shard sh answers)) e

    pub decides : (did : Effect) → next_decision (settings c w) sh answers ≡ Some did → step c w (decide shard answers) ≡ Some (after_decision w shard sh answers did)
    decides did e = decide_is ∙ ap (option_map (after_decision w shard sh answers)) e

-- the first of the unshipped goes to the exporter
pub ships : (c : CoreConfig) (w : World) (shard : ℕ) (sh : CoreShard) → slice_get w.shards shard ≡ Some sh → (a : Arrival) (new : CoreShard) → sh.unshipped ≡ a ∷ new.unshipped → new ≡ record sh { unshipped = new.unshipped }
    → step c w (ship shard) ≡ Some (record w { shards = slice_set w.shards shard new; exported = w.exported ++ a ∷ [] })
ships c w shard sh g a new e f = rw (g, e) (ap (λ (x : CoreShard). Some (record w { shards = slice_set w.shards shard x; exported = w.exported ++ a ∷ [] })) (sym f))

-- the world where this is in place of a shard, and this is counted
pub kept_is : (c : CoreConfig) (w : World) (shard : ℕ) (sh : CoreShard) (e : Entry) (queue : List Arrival) (s : Settings) (new : CoreShard) (counted : List DroppedSpan) → s ≡ settings c w
    → new ≡ record { queue = queue; journal = e ∷ sh.journal; dealt = 0; unshipped = sh.unshipped ++ (effect_of_taking s e sh.journal).released }
    → counted ≡ w.counted ++ (effect_of_taking s e sh.journal).counted
    → record w { shards = slice_set w.shards shard new; counted = counted } ≡ after_taking c w shard sh e queue
kept_is c w shard sh e queue s new counted is f h = rw (f, h, is) refl

-- the world where this is in place of a shard that decided by these answers, and this is counted
pub decided_is : (w : World) (shard : ℕ) (sh : CoreShard) (answers : List Bool) (did : Effect) (new : CoreShard) (counted : List DroppedSpan)
    → new ≡ record sh { journal = answered sh.journal answers; dealt = sh.dealt + 1; unshipped = sh.unshipped ++ did.released }
    → counted ≡ w.counted ++ did.counted
    → record w { shards = slice_set w.shards shard new; counted = counted } ≡ after_decision w shard sh answers did
decided_is w shard sh answers did new counted f h = rw (f, h) refl

-- a step that found no memory, where it is enabled and all is as before
pub refused_step : (before after : Core) (s : Step) (r : Result (Unit {0}) StepRefusal) → IsErr r × IsErrAnd r (λ (e : StepRefusal). e ≡ NoMemory) → after ≡ before → is_some (next_of before s) ≡ true → StepsTo before s r after
refused_step before after s (Ok u) h a e = absurd h.1
refused_step before after s (Err NotEnabled) h a e = absurd (cc h.1)
refused_step before after s (Err NoMemory) h a e = (a, e)

-- an entry for which memory was refused, where all is as before
pub refused_entry : (before after : Core) (shard : ℕ) (e : Entry) (r : Result (Unit {0}) StepRefusal) → IsErr r × IsErrAnd r (λ (e : StepRefusal). e ≡ NoMemory) → after ≡ before → KeepsEntry before shard e r after
refused_entry before after shard e (Ok u) h a = absurd h.1
refused_entry before after shard e (Err r) h a = (a, h.1)

-- the entry of the first queued span is one of a span
first_is_span : (s : Settings) (sh : CoreShard) (refused lost : Bool) (q : List Arrival) (e : Entry) → entry_of_first s sh refused lost q ≡ Some e → is_span e.item ≡ true
first_is_span s sh refused lost [] e f = absurd (cc f)
first_is_span s sh refused lost (a ∷ rest) e f = go (not (has_due s sh) && marks_apply_to_ids s sh.journal refused lost a.rec.span.ids) f
  where
    first : Entry
    first = record { item = Span a; refused = refused; lost = lost; answers = [] }

    go : (b : Bool) → cond b (Some first) None ≡ Some e → is_span e.item ≡ true
    go true f = let same : first ≡ e = cc f in ap (λ (z : Entry). is_span z.item) (sym same)
    go false f = absurd (cc f)

module _ (before : Core) (shard : ℕ) (sh : CoreShard) (g : slice_get before.world.shards shard ≡ Some sh) where
  -- an entry that the shard may take, and what the step says
  keeps : (s : Step) (e : Entry) → next_of before s ≡ Some (after_taking (config_of before.config) before.world shard sh e (queue_after e.item sh.queue))
      → (r : Result (Unit {0}) StepRefusal) (after : Core) → KeepsEntry before shard e r after → StepsTo before s r after
  keeps s e f (Ok u) after h = (h.0, f ∙ ap (λ (z : World). Some z) (sym (h.1 sh g)))
  keeps s e f (Err NotEnabled) after h = absurd (cc h.1)
  keeps s e f (Err NoMemory) after h = (h.0, ap is_some f)

  pub take_steps : (refused lost : Bool) (e : Entry) → entry_of_first (settings (config_of before.config) before.world) sh refused lost sh.queue ≡ Some e
      → (r : Result (Unit {0}) StepRefusal) (after : Core) → KeepsEntry before shard e r after → StepsTo before (take shard refused lost) r after
  take_steps refused lost e f = keeps (take shard refused lost) e
      (takes (config_of before.config) before.world shard sh g refused lost e f
      ∙ ap (λ (b : Bool). Some (after_taking (config_of before.config) before.world shard sh e (cond b (drop 1 sh.queue) sh.queue))) (sym (first_is_span (settings (config_of before.config) before.world) sh refused lost sh.queue e f)))

  pub end_steps : (sender : ℕ) → may_take (settings (config_of before.config) before.world) sh sender ≡ true → sender_is_done before.world shard sh sender (slice_get before.world.lanes sender) ≡ true
      → (r : Result (Unit {0}) StepRefusal) (after : Core) → KeepsItem before shard (End sender) r after → StepsTo before (end shard sender) r after
  end_steps sender e f = keeps (end shard sender) (record { item = End sender; refused = false; lost = false; answers = [] }) (ends (config_of before.config) before.world shard sh g sender e f)
