-- A received span is routed once: it waits to be routed or taken, its lane counted it, or one journal has it.
-- For the laws of the headline, `headline` and each of its parts.
use Rattle.std.proofs.Common.{◌≡◌, ℕ, zero, suc, ◌+◌, Bool, true, false, cond, not, ◌&&◌, List, [], ◌∷◌, ◌++◌, filter, count_by, replicate, Option, Some, None, refl, ap, ◌∙◌, arith}
use Rattle.journal_theory.specs.Journal.{answered, Entry, Settings, Journal, Opening, Decision, Finding, joins, meets, opens, decided_as, spans_since, leaving, notes, finding}
use Rattle.journal_theory.specs.Fate.{DroppedSpan, counts, effect_of_verdict, effect_of_leaving, effect_of_leaving_decided, effect_of_finding, effect_of_span, effect_of_decision}
use Rattle.otlp_types.specs.declared.span.Ids.{Ids}
use Rattle.otlp_types.specs.declared.arrival.Arrival.{Arrival}
use Rattle.otlp_types.specs.declared.arrival.Item.TheVariants.{Span, Tick, End}
use Rattle.span_ids.specs.declared.keys.ArrivalKey.{ArrivalKey}
use Rattle.span_ids.specs.declared.outcome.Verdict.{Verdict}
use Rattle.span_ids.specs.declared.outcome.Verdict.TheVariants.{Sampled, NotSampled}
use Rattle.span_ids.specs.declared.outcome.Reason.{Reason}
use Rattle.span_ids.specs.declared.outcome.Reason.TheVariants.{InvalidId, QueueFull, NoMemory, Evicted, LateNotSampled, ExporterDown, NotSampled as DecidedAgainst}
use Rattle.world_theory.specs.World.{CoreConfig, CoreLane, CoreShard, World, new_world, new_lane, new_shard, settings, same_key}
use Rattle.world_theory.specs.Step.{is_of_conn, arrivals, has_ids, drop_batch_applies}
use Rattle.world_theory.specs.Headline.{is_span_with}
use Rattle.journal_theory.proofs.ListFacts.{tally, tally-append, tally-halves, total, total-set}
use Rattle.world_theory.proofs.Steps.{Stepped, received_by, routed, refused_by, took_span, took_tick, closed_by, took_end, answered_by, decided_one, shipped, pulled, handed_over, failed, batch_dropped}
use Rattle.world_theory.proofs.Balance.{occ, got, occ-append}

-- the reasons for which a lane counts
abbrev pub is_lane_reason : Reason → Bool
is_lane_reason InvalidId = true
is_lane_reason QueueFull = true
is_lane_reason NoMemory = false
is_lane_reason Evicted = false
is_lane_reason DecidedAgainst = false
is_lane_reason LateNotSampled = false
is_lane_reason ExporterDown = false

-- a lane counted the key
abbrev pub by_lane : ArrivalKey → DroppedSpan → Bool
by_lane k n = is_lane_reason n.reason && same_key n.key k

-- how often a journal has the key
abbrev pub in_journal : ArrivalKey → Journal → ℕ
in_journal k J = tally (λ (e : Entry). is_span_with k e.item) J

-- how often the key stands before the shards' journals
abbrev pub before_journals : ArrivalKey → World → ℕ
before_journals k w = total (λ (l : CoreLane). occ k l.unrouted) w.lanes + (total (λ (sh : CoreShard). occ k sh.queue) w.shards + tally (by_lane k) w.counted)

-- how often the journals have the key
abbrev pub in_journals : ArrivalKey → World → ℕ
in_journals k w = total (λ (sh : CoreShard). in_journal k sh.journal) w.shards

-- answers change no item
same_in_journal : (k : ArrivalKey) (J : Journal) (answers : List Bool) → in_journal k (answered J answers) ≡ in_journal k J
same_in_journal k [] answers = refl
same_in_journal k (e ∷ before) answers = refl

-- each key stands so often as it was received
abbrev pub IsRoutedOnce : World → Type 0
IsRoutedOnce w = (k : ArrivalKey) → before_journals k w + in_journals k w ≡ got k w

module _ (k : ArrivalKey) where
  none_counts : (r : Reason) → is_lane_reason r ≡ false → (spans : List Arrival) → tally (by_lane k) (counts r spans) ≡ 0
  none_counts r e [] = refl
  none_counts r e (a ∷ rest) =
      let q : cond (is_lane_reason r && same_key a.key k) 1 0 ≡ 0 = ap (λ (b : Bool). cond {A = ℕ} (b && same_key a.key k) 1 0) e in
      omega (arith, q, none_counts r e rest)

  -- what a lane counts
  lane_counts : (r : Reason) → is_lane_reason r ≡ true → (spans : List Arrival) → tally (by_lane k) (counts r spans) ≡ occ k spans
  lane_counts r e [] = refl
  lane_counts r e (a ∷ rest) =
      let q : cond (is_lane_reason r && same_key a.key k) 1 0 ≡ cond (same_key a.key k) 1 0 = ap (λ (b : Bool). cond {A = ℕ} (b && same_key a.key k) 1 0) e in
      omega (arith, q, lane_counts r e rest)

  by_verdict : (r : Reason) → is_lane_reason r ≡ false → (spans : List Arrival) (v : Verdict) → tally (by_lane k) (effect_of_verdict r spans v).counted ≡ 0
  by_verdict r e spans Sampled = refl
  by_verdict r e spans NotSampled = none_counts r e spans

  by_decision : (d : Decision) → tally (by_lane k) (effect_of_decision d).counted ≡ 0
  by_decision d = by_verdict DecidedAgainst refl d.spans d.verdict

  -- what a shard counts where it takes a span
  by_span : (s : Settings) (J : Journal) (refused : Bool) (a : Arrival) (ids : Option Ids) → tally (by_lane k) (effect_of_span s J refused a ids).counted ≡ 0
  by_span s J refused a None = refl
  by_span s J true a (Some ids) = none_counts NoMemory refl (a ∷ [])
  by_span s J false a (Some ids) = by_finding (finding s (notes s J) ids.trace)
    where
      by_decided : (o : Opening) (d : Option Verdict) → tally (by_lane k) (effect_of_leaving_decided Evicted (spans_since J o) d).counted ≡ 0
      by_decided o None = none_counts Evicted refl (spans_since J o)
      by_decided o (Some v) = refl

      by_leaving : (out : Option Opening) → tally (by_lane k) (effect_of_leaving J (notes s J) out).counted ≡ 0
      by_leaving None = refl
      by_leaving (Some o) = by_decided o (decided_as (notes s J) o.at)

      by_finding : (f : Finding) → tally (by_lane k) (effect_of_finding s J (notes s J) a f).counted ≡ 0
      by_finding (joins o) = refl
      by_finding (meets o v) = by_verdict LateNotSampled refl (a ∷ []) v
      by_finding opens = by_leaving (leaving s.num_traces (notes s J).openings)

  drop_batch_reason : (c : CoreConfig) (w : World) (r : Reason) → drop_batch_applies c w r ≡ true → is_lane_reason r ≡ false
  drop_batch_reason c w InvalidId e = absurd (cc e)
  drop_batch_reason c w QueueFull e = absurd (cc e)
  drop_batch_reason c w Evicted e = absurd (cc e)
  drop_batch_reason c w DecidedAgainst e = absurd (cc e)
  drop_batch_reason c w LateNotSampled e = absurd (cc e)
  drop_batch_reason c w NoMemory e = refl
  drop_batch_reason c w ExporterDown e = refl

  counted-append : (xs ys : List DroppedSpan) → tally (by_lane k) (xs ++ ys) ≡ tally (by_lane k) xs + tally (by_lane k) ys
  counted-append xs ys = tally-append (by_lane k) xs ys

  module _ (c : CoreConfig) (w : World) where
    balance : (next : World) → Stepped c w next → (before_journals k next + in_journals k next) + got k w ≡ (before_journals k w + in_journals k w) + got k next
    balance next (received_by lane ordinal moment records l g n e) = rw (← e) (
        let new = arrivals (record { lane = lane; ordinal = ordinal }) (count_by (is_of_conn (record { lane = lane; ordinal = ordinal })) l.received) moment records in
        let l' : CoreLane = record { received = l.received ++ new; unrouted = l.unrouted ++ filter has_ids new; ended = l.ended } in
        let u = total-set (λ (l : CoreLane). occ k l.unrouted) w.lanes lane l l' g in
        let r = total-set (λ (l : CoreLane). occ k l.received) w.lanes lane l l' g in
        omega (arith, u, r, tally-halves (λ (a : Arrival). same_key a.key k) has_ids new, occ-append k l.unrouted (filter has_ids new), occ-append k l.received new, counted-append w.counted (counts InvalidId (filter (λ (a : Arrival). not (has_ids a)) new)), lane_counts InvalidId refl (filter (λ (a : Arrival). not (has_ids a)) new)))
    balance next (routed lane shard l sh a rest g m t e) = rw (← e) (
        let u = total-set (λ (l : CoreLane). occ k l.unrouted) w.lanes lane l (record l { unrouted = rest }) g in
        let r = total-set (λ (l : CoreLane). occ k l.received) w.lanes lane l (record l { unrouted = rest }) g in
        let q = total-set (λ (sh : CoreShard). occ k sh.queue) w.shards shard sh (record sh { queue = sh.queue ++ a ∷ [] }) m in
        let j = total-set (λ (sh : CoreShard). in_journal k sh.journal) w.shards shard sh (record sh { queue = sh.queue ++ a ∷ [] }) m in
        let x = ap (occ k) t.was ∙ occ-append k t.front (a ∷ t.back) in
        let y = ap (occ k) t.becomes ∙ occ-append k t.front t.back in
        omega (arith, u, r, q, j, x, y, occ-append k sh.queue (a ∷ [])))
    balance next (refused_by lane shard l a rest g t e) = rw (← e) (
        let u = total-set (λ (l : CoreLane). occ k l.unrouted) w.lanes lane l (record l { unrouted = rest }) g in
        let r = total-set (λ (l : CoreLane). occ k l.received) w.lanes lane l (record l { unrouted = rest }) g in
        let x = ap (occ k) t.was ∙ occ-append k t.front (a ∷ t.back) in
        let y = ap (occ k) t.becomes ∙ occ-append k t.front t.back in
        omega (arith, u, r, x, y, counted-append w.counted (counts QueueFull (a ∷ [])), lane_counts QueueFull refl (a ∷ [])))
    balance next (took_span shard refused lost sh a rest g q n m e) = rw (← e) (
        let did = effect_of_span (settings c w) sh.journal refused a a.rec.span.ids in
        let sh' : CoreShard = record { queue = rest; journal = record { item = Span a; refused = refused; lost = lost; answers = [] } ∷ sh.journal; dealt = 0; unshipped = sh.unshipped ++ did.released } in
        let x = total-set (λ (sh : CoreShard). occ k sh.queue) w.shards shard sh sh' g in
        let j = total-set (λ (sh : CoreShard). in_journal k sh.journal) w.shards shard sh sh' g in
        let z : occ k sh.queue ≡ occ k (a ∷ []) + occ k rest = ap (occ k) q ∙ omega arith in
        omega (arith, x, j, z, counted-append w.counted did.counted, by_span (settings c w) sh.journal refused a a.rec.span.ids))
    balance next (took_tick shard moment sh g n m e) = rw (← e) (
        let sh' : CoreShard = record { queue = sh.queue; journal = record { item = Tick moment; refused = false; lost = false; answers = [] } ∷ sh.journal; dealt = 0; unshipped = sh.unshipped ++ [] } in
        let x = total-set (λ (sh : CoreShard). occ k sh.queue) w.shards shard sh sh' g in
        let j = total-set (λ (sh : CoreShard). in_journal k sh.journal) w.shards shard sh sh' g in
        omega (arith, x, j, counted-append w.counted []))
    balance next (closed_by lane l g n e) = rw (← e) (
        let u = total-set (λ (l : CoreLane). occ k l.unrouted) w.lanes lane l (record l { ended = true }) g in
        let r = total-set (λ (l : CoreLane). occ k l.received) w.lanes lane l (record l { ended = true }) g in
        omega (arith, u, r))
    balance next (took_end shard sender sh g n m d e) = rw (← e) (
        let sh' : CoreShard = record { queue = sh.queue; journal = record { item = End sender; refused = false; lost = false; answers = [] } ∷ sh.journal; dealt = 0; unshipped = sh.unshipped ++ [] } in
        let x = total-set (λ (sh : CoreShard). occ k sh.queue) w.shards shard sh sh' g in
        let j = total-set (λ (sh : CoreShard). in_journal k sh.journal) w.shards shard sh sh' g in
        omega (arith, x, j, counted-append w.counted []))
    balance next (answered_by shard sh answers o g d i e) = rw (← e) (
        let sh' : CoreShard = record sh { journal = answered sh.journal answers } in
        let x = total-set (λ (sh : CoreShard). occ k sh.queue) w.shards shard sh sh' g in
        let j = total-set (λ (sh : CoreShard). in_journal k sh.journal) w.shards shard sh sh' g in
        omega (arith, x, j, same_in_journal k sh.journal answers))
    balance next (decided_one shard sh d g i e) = rw (← e) (
        let did = effect_of_decision d in
        let sh' : CoreShard = record sh { dealt = sh.dealt + 1; unshipped = sh.unshipped ++ did.released } in
        let x = total-set (λ (sh : CoreShard). occ k sh.queue) w.shards shard sh sh' g in
        let j = total-set (λ (sh : CoreShard). in_journal k sh.journal) w.shards shard sh sh' g in
        omega (arith, x, j, counted-append w.counted did.counted, by_decision d))
    balance next (shipped shard sh a rest g u e) = rw (← e) (
        let x = total-set (λ (sh : CoreShard). occ k sh.queue) w.shards shard sh (record sh { unshipped = rest }) g in
        let j = total-set (λ (sh : CoreShard). in_journal k sh.journal) w.shards shard sh (record sh { unshipped = rest }) g in
        omega (arith, x, j))
    balance next (pulled a rest u e) = rw (← e) refl
    balance next (handed_over b d e) = rw (← e) refl
    balance next (failed d e) = rw (← e) refl
    balance next (batch_dropped r b a e) = rw (← e) (omega (arith, counted-append w.counted (counts r w.batch), none_counts r (drop_batch_reason c w r a) w.batch))

pub routed_once_step : (c : CoreConfig) (w next : World) → Stepped c w next → IsRoutedOnce w → IsRoutedOnce next
routed_once_step c w next st h k = omega (arith, balance k c w next st, h k)

pub routed_once_new : (lanes shards : ℕ) → IsRoutedOnce (new_world lanes shards)
routed_once_new lanes shards k =
    omega (
      arith,
      none_in (λ (l : CoreLane). occ k l.unrouted) new_lane refl lanes,
      none_in (λ (l : CoreLane). occ k l.received) new_lane refl lanes,
      none_in (λ (sh : CoreShard). occ k sh.queue) new_shard refl shards,
      none_in (λ (sh : CoreShard). in_journal k sh.journal) new_shard refl shards,
    )
  where
    none_in : {X : Type 0} (weight : X → ℕ) (x : X) → weight x ≡ 0 → (n : ℕ) → total weight (replicate n x) ≡ 0
    none_in weight x e zero = refl
    none_in weight x e (suc n) = omega (arith, e, none_in weight x e n)
