-- The shards of the run that threads did have the journals of their threads.
-- For the laws `threads_decide_in_time` and `threads_hand_over_what_was_sampled`.
use Rattle.std.proofs.Common.{◌≡◌, ℕ, ◌+◌, ◌<◌, List, length, flat_map, slice_get, Some, sym, ap, subst, ◌∙◌, arith}
use Rattle.std.specs.Prelude.{Contains}
use Rattle.otlp_types.specs.declared.arrival.Arrival.{Arrival}
use Rattle.journal_theory.specs.Journal.{Settings, Journal, Decision, notes}
use Rattle.world_theory.specs.World.{CoreConfig, CoreShard, KeepsATrace, settings, settings_for}
use Rattle.world_theory.proofs.Steps.{map_some}
use Rattle.span_weave.specs.Threads.{Threads, ExporterMade, journal_of}
use Rattle.span_weave.specs.Woven.{Woven}
use Rattle.decision_times.specs.Times.{WasInTime}
use Rattle.decision_times.proofs.Stopping.{never_too_early}
use Rattle.core_laws.proofs.Extent.{lanes_of_run, shards_of_run, get_below}
use Rattle.core_laws.proofs.Out.{sampled_comes_out}
use Rattle.core_laws.proofs.Only.{only_sampled_comes_out}
use Rattle.woven_laws.specs.Laws.{decisions_of, ThreadsDecideInTime, ThreadsHandOverSampled, ThreadsHandOverNoOther}

-- ---- the run that threads did

module _ (c : CoreConfig) (lanes shards : ℕ) (t : Threads) (end : ExporterMade) (v : Woven c lanes shards t end) where
  settings_are : settings c v.after ≡ settings_for c (lanes + 1)
  settings_are = ap (λ n. settings_for c (n + 1)) (lanes_of_run c lanes shards v.steps v.after v.runs)

  -- a shard, with the journal of its thread
  shard_at : (shard : ℕ) → shard < shards → (sh : CoreShard) × (slice_get v.after.shards shard ≡ Some sh) × (sh.journal ≡ journal_of t shard)
  shard_at shard l = map_some (λ (sh : CoreShard). sh.journal) (slice_get v.after.shards shard) (journal_of t shard) (v.journals shard l)

  -- so its decisions are those of its thread
  same_decisions : (shard : ℕ) (sh : CoreShard) → sh.journal ≡ journal_of t shard → (notes (settings c v.after) sh.journal).decisions ≡ decisions_of c lanes t shard
  same_decisions shard sh e = ap (λ (s : Settings). (notes s sh.journal).decisions) settings_are ∙ ap (λ (z : Journal). (notes (settings_for c (lanes + 1)) z).decisions) e

  decide_in_time : KeepsATrace c → (shard : ℕ) → shard < shards → (d : Decision) → Contains (decisions_of c lanes t shard) d → WasInTime (settings_for c (lanes + 1)) (journal_of t shard) d
  decide_in_time room shard l d k =
      let sh = shard_at shard l in
      let made = subst (λ (ds : List Decision). Contains ds d) (sym (same_decisions shard sh.0 sh.2)) k in
      let was = never_too_early c lanes shards v.steps v.after room v.runs shard sh.0 sh.1 d made in
      subst (λ (z : Journal). WasInTime (settings_for c (lanes + 1)) z d) sh.2 (subst (λ (s : Settings). WasInTime s sh.0.journal d) settings_are was)

pub threads_decide_in_time : ThreadsDecideInTime
threads_decide_in_time c lanes shards t end room h = decide_in_time c lanes shards t end h.woven room

pub threads_hand_over_sampled : ThreadsHandOverSampled
threads_hand_over_sampled c lanes shards t end room h shard l d k sampled a m =
    let v = h.woven in
    let sh = shard_at c lanes shards t end h.woven shard l in
    let made = subst (λ (ds : List Decision). Contains ds d) (sym (same_decisions c lanes shards t end h.woven shard sh.0 sh.2)) k in
    sampled_comes_out c lanes shards v.steps v.after room v.runs v.closed shard sh.0 sh.1 d made sampled a m

pub threads_hand_over_no_other : ThreadsHandOverNoOther
threads_hand_over_no_other c lanes shards t end room h a k =
    let v = h.woven in
    let handed = subst (λ (batches : List (List Arrival)). Contains (flat_map (λ batch. batch) batches) a) (sym h.woven.handed) k in
    let one = only_sampled_comes_out c lanes shards v.steps v.after room v.runs a handed in
    let many : length h.woven.after.shards ≡ shards = shards_of_run c lanes shards h.woven.steps h.woven.after h.woven.runs in
    let below = get_below h.woven.after.shards one.shard one.of one.in_world in
    let is_one : one.shard < shards = omega (arith, many, below) in
    let sh = shard_at c lanes shards t end h.woven one.shard is_one in
    let both : Some one.of ≡ Some sh.0 = sym one.in_world ∙ sh.1 in
    let same : one.of ≡ sh.0 = cc both in
    let journal : one.of.journal ≡ journal_of t one.shard = ap (λ (x : CoreShard). x.journal) same ∙ sh.2 in
    record {
      shard = one.shard;
      is_one = is_one;
      decision = one.decision;
      made = subst (λ (ds : List Decision). Contains ds one.decision) (same_decisions c lanes shards t end h.woven one.shard one.of journal) one.made;
      sampled = one.sampled;
      of_trace = one.of_trace;
    }
