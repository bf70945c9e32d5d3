-- What holds of every run of the core: no shard takes an item after all Ends. And so the laws of runs.
-- For the laws `nothing_after_all_ends`, `never_too_late` and `never_too_early`.
use Rattle.std.proofs.Common.{◌≡◌, ℕ, zero, suc, ◌+◌, ◌<◌, ◌≤◌, ◌==◌, Bool, true, false, List, [], ◌∷◌, ◌++◌, length, drop, slice_get, slice_set, Option, Some, None, refl, sym, ap, subst, ◌∙◌, arith, eqb-true, eq-eqb}
use Rattle.std.specs.List.{list_any}
use Rattle.std.proofs.lemmas.Bool.{and_parts}
use Rattle.std.proofs.lemmas.Bool.Decides.{nat_tests}
use Rattle.journal_theory.specs.Journal.{Settings, Journal, Opening, StoppedInTime, answered, has_ended, have_ended, due_now, notes, undecided}
use Rattle.otlp_types.specs.declared.arrival.Arrival.{Arrival}
use Rattle.world_theory.specs.World.{CoreConfig, CoreLane, CoreShard, World, new_world, new_shard, settings, ticker}
use Rattle.world_theory.specs.Step.{sender_is_done}
use Rattle.world_theory.specs.Headline.{OfEachRun}
use Rattle.journal_theory.proofs.Notes.{HasRoom}
use Rattle.journal_theory.proofs.ListFacts.{Each, Each-append, Each-right, Each-split}
use Rattle.world_theory.proofs.Steps.{Stepped, received_by, routed, refused_by, took_span, took_tick, closed_by, took_end, answered_by, decided_one, shipped, pulled, handed_over, failed, batch_dropped, or_both}
use Rattle.world_theory.proofs.Lined.{IsOnLane, at_each}
use Rattle.world_theory.proofs.Order.{Ordered, ordered_new, ordered_step, replicated}
use Rattle.world_theory.proofs.EndsLast.{AllEnded, ended_new, ended_step}
use Rattle.world_theory.proofs.Balance.{same_settings}
use Rattle.world_theory.proofs.OnePlace.{of_each_answered}
use Rattle.world_theory.proofs.Content.{not_below}
use Rattle.world_theory.proofs.Single.{contains_split}
use Rattle.journal_theory.proofs.Sound.{Each-undecided, Each-buffer}
use Rattle.decision_times.specs.Times.{WasOpened, WasInTime, HasTime}
use Rattle.decision_times.specs.Laws.{NeverTooEarly, NeverTooLate, NothingAfterAllEnds}
use Rattle.decision_times.proofs.Early.{all_opened}
use Rattle.decision_times.proofs.InTime.{noted_in_time}
use Rattle.decision_times.proofs.Late.{undecided_have_time}

-- ---- ends

-- a sender below the next one is that one or below it
ended_by : (past : Journal) (n j : ℕ) → j < suc n → has_ended past n ≡ true → (j < n → has_ended past j ≡ true) → (b : Bool) → (j == n) ≡ b → has_ended past j ≡ true
ended_by past n j l last others true e = ap (has_ended past) (eqb-true j n e) ∙ last
ended_by past n j l last others false e = let below : j < n = grind (arith, nat_tests) in others below

-- of the senders that have all ended each has
each_ended : (past : Journal) (n j : ℕ) → have_ended past n ≡ true → j < n → has_ended past j ≡ true
each_ended past zero j h l = absurd (omega arith)
each_ended past (suc n) j h l =
    let p = and_parts (has_ended past n) (have_ended past n) h in
    ended_by past n j l p.0 (each_ended past n j p.1) (j == n) refl

if-not : (b : Bool) → (b ≡ true → ⊥) → b ≡ false
if-not true f = absurd (f refl)
if-not false f = refl

both : (b : Bool) → b ≡ true → b ≡ false → ⊥
both b p q = cc (p, q)

-- a sender that hasn't ended is missing
not_all : (past : Journal) (n j : ℕ) → j < n → has_ended past j ≡ false → have_ended past n ≡ false
not_all past n j l h = if-not (have_ended past n) (λ all. both (has_ended past j) (each_ended past n j all l) h)

stopped_answered : (s : Settings) (J : Journal) (answers : List Bool) → StoppedInTime s J → StoppedInTime s (answered J answers)
stopped_answered s [] answers h = h
stopped_answered s (e ∷ J) answers h = h

-- ---- what each step keeps

-- a queue has spans of lanes that there are
abbrev AreOnLanes : (lanes : ℕ) → CoreShard → Type 0
AreOnLanes lanes sh = Each (λ (a : Arrival). a.key.conn.lane < lanes) sh.queue

record Halting (c : CoreConfig) (w : World) : Type 0 where
  ordered : Ordered c w
  ended : AllEnded (length w.shards) w.lanes w.shards
  queued : (i : ℕ) (sh : CoreShard) → slice_get w.shards i ≡ Some sh → AreOnLanes (length w.lanes) sh
  stopped : (i : ℕ) (sh : CoreShard) → slice_get w.shards i ≡ Some sh → StoppedInTime (settings c w) sh.journal

get_below : {X : Type 0} (xs : List X) (i : ℕ) (x : X) → slice_get xs i ≡ Some x → i < length xs
get_below [] i x e = absurd (cc e)
get_below (y ∷ xs) zero x e = omega arith
get_below (y ∷ xs) (suc i) x e = let l = get_below xs i x e in omega arith

below_get : {X : Type 0} (xs : List X) (i : ℕ) → i < length xs → (x : X) × (slice_get xs i ≡ Some x)
below_get [] i l = absurd (omega arith)
below_get (y ∷ xs) zero l = (y, refl)
below_get (y ∷ xs) (suc i) l = below_get xs i (omega arith)

same_lanes : (c : CoreConfig) (w next : World) → Stepped c w next → length next.lanes ≡ length w.lanes
same_lanes c w next st = let e : length next.lanes + 1 ≡ length w.lanes + 1 = ap (λ (s : Settings). s.senders) (same_settings c w next st) in omega (arith, e)

module _ (c : CoreConfig) (w : World) (h : Halting c w) where
  abbrev s : Settings
  s = settings c w

  abbrev lanes : ℕ
  lanes = length w.lanes

  abbrev Holds : World → Type 0
  Holds next = (i : ℕ) (sh : CoreShard) → slice_get next.shards i ≡ Some sh → AreOnLanes (length w.lanes) sh × StoppedInTime (settings c w) sh.journal

  as_before : (i : ℕ) (sh : CoreShard) → slice_get w.shards i ≡ Some sh → AreOnLanes (length w.lanes) sh × StoppedInTime (settings c w) sh.journal
  as_before i sh g = (h.queued i sh g, h.stopped i sh g)

  put : (i : ℕ) (now : CoreShard) → AreOnLanes (length w.lanes) now → StoppedInTime (settings c w) now.journal
      → (j : ℕ) (sh : CoreShard) → slice_get (slice_set w.shards i now) j ≡ Some sh → AreOnLanes (length w.lanes) sh × StoppedInTime (settings c w) sh.journal
  put i now q t = at_each (λ j (sh : CoreShard). AreOnLanes (length w.lanes) sh × StoppedInTime (settings c w) sh.journal) w.shards i now (q, t) as_before

  -- a span that is taken from a queue is of a lane whose End the shard has not taken
  lane_runs : (i : ℕ) (sh : CoreShard) (a : Arrival) (rest : List Arrival) → slice_get w.shards i ≡ Some sh → sh.queue ≡ a ∷ rest → a.key.conn.lane < length w.lanes → has_ended sh.journal a.key.conn.lane ≡ false
  lane_runs i sh a rest g q l = if-not (has_ended sh.journal a.key.conn.lane) (λ e.
      let lane = below_get w.lanes a.key.conn.lane l in
      let done = h.ended i a.key.conn.lane sh lane.0 g lane.1 e in
      let none = (or_both (a.key.conn.lane == a.key.conn.lane) (list_any (λ (x : Arrival). x.key.conn.lane == a.key.conn.lane) rest)
      (ap (list_any (λ (x : Arrival). x.key.conn.lane == a.key.conn.lane)) (sym q) ∙ done.taken_all)).0 in
      both (a.key.conn.lane == a.key.conn.lane) (eq-eqb a.key.conn.lane a.key.conn.lane refl) none)

  sender_below : (i sender : ℕ) (sh : CoreShard) (o : Option CoreLane) → slice_get w.lanes sender ≡ o → sender_is_done w i sh sender o ≡ true → sender < length w.lanes + 1
  sender_below i sender sh (Some l) e d = let b = get_below w.lanes sender l e in omega arith
  sender_below i sender sh None e d = let t = eqb-true sender (ticker w) d in omega (arith, t)

  keeps : (next : World) → Stepped c w next → Holds next
  keeps next (received_by lane ordinal moment records l g n e) = subst Holds e as_before
  keeps next (routed lane i l sh a rest g m t e) = subst Holds e (put i (record sh { queue = sh.queue ++ a ∷ [] })
      (Each-append (λ (x : Arrival). x.key.conn.lane < length w.lanes) sh.queue (a ∷ []) (h.queued i sh m)
      (subst (λ (k : ℕ). k < length w.lanes) (sym (Each-right (IsOnLane lane) t.front (a ∷ t.back) (subst (λ (z : List Arrival). Each (IsOnLane lane) z) t.was (h.ordered.lined.own lane l g))).0) (get_below w.lanes lane l g), tt))
      (h.stopped i sh m))
  keeps next (refused_by lane i l a rest g t e) = subst Holds e as_before
  keeps next (took_span i refused lost sh a rest g q n m e) =
      let queue = subst (λ (z : List Arrival). Each (λ (x : Arrival). x.key.conn.lane < length w.lanes) z) q (h.queued i sh g) in
      let l = queue.0 in
      subst Holds e (put i _ queue.1 (not_all sh.journal (length w.lanes + 1) a.key.conn.lane (omega (arith, l)) (lane_runs i sh a rest g q l)))
  keeps next (took_tick i moment sh g n m e) = subst Holds e (put i _ (h.queued i sh g) (not_all sh.journal (length w.lanes + 1) (length w.lanes) (omega arith) m))
  keeps next (closed_by lane l g n e) = subst Holds e as_before
  keeps next (took_end i sender sh g n m d e) = subst Holds e (put i _ (h.queued i sh g) (not_all sh.journal (length w.lanes + 1) sender (sender_below i sender sh (slice_get w.lanes sender) refl d) m))
  keeps next (answered_by i sh answers o g d t e) = subst Holds e (put i (record sh { journal = answered sh.journal answers }) (h.queued i sh g) (stopped_answered (settings c w) sh.journal answers (h.stopped i sh g)))
  keeps next (decided_one i sh d g t e) = subst Holds e (put i _ (h.queued i sh g) (h.stopped i sh g))
  keeps next (shipped i sh a rest g u e) = subst Holds e (put i (record sh { unshipped = rest }) (h.queued i sh g) (h.stopped i sh g))
  keeps next (pulled a rest u e) = subst Holds e as_before
  keeps next (handed_over b d e) = subst Holds e as_before
  keeps next (failed d e) = subst Holds e as_before
  keeps next (batch_dropped r b a e) = subst Holds e as_before

halting_step : (c : CoreConfig) → HasRoom c.shard.num_traces → (w next : World) → Stepped c w next → Halting c w → Halting c next
halting_step c room w next st h =
    let k = keeps c w h next st in
    record {
      ordered = ordered_step c room w next st h.ordered;
      ended = ended_step c w next st h.ordered.lined.own h.ended;
      queued = λ i sh g. subst (λ (n : ℕ). AreOnLanes n sh) (sym (same_lanes c w next st)) (k i sh g).0;
      stopped = λ i sh g. subst (λ (s : Settings). StoppedInTime s sh.journal) (sym (same_settings c w next st)) (k i sh g).1;
    }

halting_new : (c : CoreConfig) → HasRoom c.shard.num_traces → (lanes shards : ℕ) → Halting c (new_world lanes shards)
halting_new c room lanes shards = record {
  ordered = ordered_new c room lanes shards;
  ended = ended_new lanes shards;
  queued = λ i sh g. subst (λ (x : CoreShard). AreOnLanes (length (new_world lanes shards).lanes) x) (replicated shards i new_shard sh g) tt;
  stopped = λ i sh g. subst (λ (x : CoreShard). StoppedInTime (settings c (new_world lanes shards)) x.journal) (replicated shards i new_shard sh g) tt;
}

-- ---- the laws of runs

pub nothing_after_all_ends : OfEachRun NothingAfterAllEnds
nothing_after_all_ends = of_each_answered Halting NothingAfterAllEnds halting_new halting_step (λ c room w h a. h.stopped)

pub never_too_early : OfEachRun NeverTooEarly
never_too_early = of_each_answered Halting NeverTooEarly halting_new halting_step (λ c room w h a shard sh g d k.
    Each-split (WasInTime (settings c w) sh.journal) d (notes (settings c w) sh.journal).decisions (contains_split (notes (settings c w) sh.journal).decisions d k)
    (noted_in_time (settings c w) room sh.journal sh.dealt (h.stopped shard sh g) (a shard sh g)))

drop_past : (k : ℕ) (xs : List Opening) → length xs ≤ k → drop k xs ≡ []
drop_past zero [] l = refl
drop_past (suc k) [] l = refl
drop_past zero (x ∷ xs) l = absurd (omega arith)
drop_past (suc k) (x ∷ xs) l = drop_past k xs (omega arith)

pub never_too_late : OfEachRun NeverTooLate
never_too_late = of_each_answered Halting NeverTooLate halting_new halting_step (λ c room w h a wait shard sh g none o k.
    let opened = Each-undecided (WasOpened sh.journal) (settings c w) (notes (settings c w) sh.journal) (Each-buffer (WasOpened sh.journal) (settings c w) (notes (settings c w) sh.journal) (all_opened (settings c w) sh.journal)) in
    let dealt = drop_past sh.dealt (due_now (settings c w) sh.journal) (not_below sh.dealt (length (due_now (settings c w) sh.journal)) none) in
    let time = undecided_have_time (settings c w) room sh.journal sh.dealt wait (h.stopped shard sh g) (a shard sh g) dealt in
    let place = contains_split (undecided (settings c w) (notes (settings c w) sh.journal)) o k in
    (Each-split (WasOpened sh.journal) o (undecided (settings c w) (notes (settings c w) sh.journal)) place opened, Each-split (HasTime (settings c w) sh.journal) o (undecided (settings c w) (notes (settings c w) sh.journal)) place time))
