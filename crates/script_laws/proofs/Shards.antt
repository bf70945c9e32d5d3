-- The shards of the run that a script is have its journals.
-- For the laws `scripts_decide_in_time` and `scripts_hand_over_what_was_sampled`.
use Rattle.std.proofs.Common.{◌≡◌, ℕ, zero, suc, ◌+◌, List, [], ◌∷◌, map, flat_map, slice_get, Some, refl, sym, ap, subst, ◌∙◌}
use Rattle.std.specs.Prelude.{Contains}
use Rattle.otlp_types.specs.declared.arrival.Arrival.{Arrival}
use Rattle.journal_theory.specs.Journal.{Settings, Journal, Decision, notes}
use Rattle.world_theory.specs.World.{CoreShard, settings, settings_for}
use Rattle.script_run.specs.World.{ScriptWorld, Sizes}
use Rattle.script_run.specs.CoreRun.{core_config, IsRunOfCore}
use Rattle.script_run.specs.Laws.{CanPlay}
use Rattle.decision_times.specs.Times.{WasInTime}
use Rattle.decision_times.proofs.Stopping.{never_too_early}
use Rattle.core_laws.proofs.Extent.{lanes_of_run}
use Rattle.core_laws.proofs.Out.{sampled_comes_out}
use Rattle.core_laws.proofs.Only.{only_sampled_comes_out}
use Rattle.script_laws.specs.Laws.{ScriptsDecideInTime, ScriptsHandOverSampled, ScriptsHandOverNoOther}

-- what stands at a place of images is an image
image_at : {X Y : Type 0} (f : X → Y) (xs : List X) (i : ℕ) (y : Y) → slice_get (map f xs) i ≡ Some y → (x : X) × (slice_get xs i ≡ Some x) × (f x ≡ y)
image_at f [] i y e = absurd (cc e)
image_at f (x ∷ xs) zero y e = (x, refl, cc e)
image_at f (x ∷ xs) (suc i) y e = image_at f xs i y e

at_image : {X Y : Type 0} (f : X → Y) (xs : List X) (i : ℕ) (x : X) → slice_get xs i ≡ Some x → slice_get (map f xs) i ≡ Some (f x)
at_image f [] i x e = absurd (cc e)
at_image {X} f (z ∷ xs) zero x e = let same : z ≡ x = cc e in ap (λ (v : X). Some (f v)) same
at_image f (z ∷ xs) (suc i) x e = at_image f xs i x e

module _ (s : Settings) (sizes : Sizes) (lanes shards : ℕ) (w : ScriptWorld) (can : CanPlay s sizes lanes) (h : IsRunOfCore s sizes lanes shards w) where
  settings_are : settings (core_config s sizes) h.core ≡ s
  settings_are =
      ap (λ n. settings_for (core_config s sizes) (n + 1)) (lanes_of_run (core_config s sizes) lanes shards h.steps h.core h.runs)
      ∙ ap (λ n. settings_for (core_config s sizes) n) (sym can.senders)

  -- a shard, with its journal
  shard_at : (shard : ℕ) (past : Journal) → slice_get w.journals shard ≡ Some past → (sh : CoreShard) × (slice_get h.core.shards shard ≡ Some sh) × (sh.journal ≡ past)
  shard_at shard past e = image_at (λ (sh : CoreShard). sh.journal) h.core.shards shard past (ap (λ (js : List Journal). slice_get js shard) h.journals ∙ e)

  same_decisions : (sh : CoreShard) (past : Journal) → sh.journal ≡ past → (notes (settings (core_config s sizes) h.core) sh.journal).decisions ≡ (notes s past).decisions
  same_decisions sh past e = ap (λ (z : Settings). (notes z sh.journal).decisions) settings_are ∙ ap (λ (z : Journal). (notes s z).decisions) e

pub scripts_decide_in_time : ScriptsDecideInTime
scripts_decide_in_time s sizes lanes shards w can h shard past e d k =
    let sh = shard_at s sizes lanes shards w can h shard past e in
    let made = subst (λ (ds : List Decision). Contains ds d) (sym (same_decisions s sizes lanes shards w can h sh.0 past sh.2)) k in
    let was = never_too_early (core_config s sizes) lanes shards h.steps h.core can.keeps h.runs shard sh.0 sh.1 d made in
    subst (λ (z : Journal). WasInTime s z d) sh.2 (subst (λ (z : Settings). WasInTime z sh.0.journal d) (settings_are s sizes lanes shards w can h) was)

pub scripts_hand_over_sampled : ScriptsHandOverSampled
scripts_hand_over_sampled s sizes lanes shards w can h closed shard past e d k sampled a m =
    let sh = shard_at s sizes lanes shards w can h shard past e in
    let made = subst (λ (ds : List Decision). Contains ds d) (sym (same_decisions s sizes lanes shards w can h sh.0 past sh.2)) k in
    sampled_comes_out (core_config s sizes) lanes shards h.steps h.core can.keeps h.runs (h.closed closed) shard sh.0 sh.1 d made sampled a m

pub scripts_hand_over_no_other : ScriptsHandOverNoOther
scripts_hand_over_no_other s sizes lanes shards w can h a k =
    let handed = subst (λ (batches : List (List Arrival)). Contains (flat_map (λ batch. batch) batches) a) (sym h.handed) k in
    let one = only_sampled_comes_out (core_config s sizes) lanes shards h.steps h.core can.keeps h.runs a handed in
    record {
      shard = one.shard;
      past = one.of.journal;
      took = ap (λ (js : List Journal). slice_get js one.shard) (sym h.journals) ∙ at_image (λ (sh : CoreShard). sh.journal) h.core.shards one.shard one.of one.in_world;
      decision = one.decision;
      made = subst (λ (ds : List Decision). Contains ds one.decision) (same_decisions s sizes lanes shards w can h one.of one.of.journal refl) one.made;
      sampled = one.sampled;
      of_trace = one.of_trace;
    }
