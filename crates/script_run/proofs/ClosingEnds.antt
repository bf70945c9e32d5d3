-- Each shard of the core takes the End of each sender in turn.
-- For the contract of `scripts_are_runs_of_the_core`.
use Rattle.std.proofs.Common.{◌≡◌, ℕ, zero, suc, ◌+◌, ◌<◌, ◌≤◌, Bool, true, false, ◌&&◌, ◌||◌, List, [], ◌∷◌, ◌++◌, length, slice_get, Option, Some, None, refl, ap, sym, subst, ◌∙◌, arith, append_assoc, append-nil, eq-eqb, ne_eqb, add-one}
use Rattle.std.specs.List.{AllByRecursion}
use Rattle.std.proofs.lemmas.Bool.{and_parts}
use Rattle.otlp_types.specs.declared.arrival.Arrival.{Arrival}
use Rattle.otlp_types.specs.declared.arrival.Item.TheVariants.{End}
use Rattle.journal_theory.specs.Journal.{Settings, Entry, Journal, due_now, is_end_of, has_ended, have_ended}
use Rattle.world_theory.specs.World.{CoreConfig, CoreLane, World as Core}
use Rattle.world_theory.specs.Step.{sender_is_done}
use Rattle.world_theory.specs.Places.{buffered_spans}
use Rattle.world_theory.proofs.Finishing.{nothing_buffered}
use Rattle.script_run.specs.World.{ScriptWorld, Sizes, ShardTurn, entry_of, with_entry, TakesEach, TakesRounds, to_each, ends_from}
use Rattle.script_run.specs.Limiting.{with_answers}
use Rattle.rate_budget.specs.Grant.{Asking}
use Rattle.script_run.proofs.Answering.{answers_fit}
use Rattle.script_run.specs.CoreRun.{core_config}
use Rattle.script_run.proofs.Stands.{quiet_shard, lanes_from, no_queues, HasNoEnd}
use Rattle.script_run.proofs.QuietRuns.{Leads, leads_same, leads_then}
use Rattle.script_run.proofs.TakingOne.{own, with_shards}
use Rattle.script_run.proofs.TakingRounds.{IsDone, ended, AllTakable}
use Rattle.script_run.proofs.QuietStands.{length_lanes, Finished, Shipped, ships_round}

-- ---- a journal while the senders end

-- the senders before this one have ended, and no other; after the last one nothing waits in the buffer
pub record Ended (s : Settings) (sender : ℕ) (past : Journal) : Type 0 where
  pub before : have_ended past sender ≡ true
  pub later : (other : ℕ) → sender ≤ other → has_ended past other ≡ false
  pub last : sender ≡ s.senders → buffered_spans s past (length (due_now s past)) ≡ []

-- at first no sender has ended
pub none_ended : (s : Settings) (pasts : List Journal) → 0 < s.senders → AllByRecursion HasNoEnd pasts → AllByRecursion (Ended s 0) pasts
none_ended s [] l h = tt
none_ended s (past ∷ pasts) l h = (record { before = refl; later = λ other m. h.0 other; last = λ e. absurd (omega (arith, l, e)) }, none_ended s pasts l h.1)

-- in the end nothing waits
pub all_finished : (s : Settings) (pasts : List Journal) → AllByRecursion (Ended s s.senders) pasts → AllByRecursion (Finished s) pasts
all_finished s [] h = tt
all_finished s (past ∷ pasts) h = ((h.0.before, h.0.last refl), all_finished s pasts h.1)

-- senders that have ended stay so
ended_more : (e : Entry) (past : Journal) (n : ℕ) → have_ended past n ≡ true → have_ended (e ∷ past) n ≡ true
ended_more e past zero h = refl
ended_more e past (suc n) h = let p = and_parts (has_ended past n) (have_ended past n) h in both (is_end_of n e.item) (has_ended past n) (have_ended (e ∷ past) n) p.0 (ended_more e past n p.1)
  where
    both : (a b d : Bool) → b ≡ true → d ≡ true → ((a || b) && d) ≡ true
    both true true true f g = refl
    both false true true f g = refl
    both a false d f g = absurd (cc f)
    both a true false f g = absurd (cc g)

-- the End of the next sender is taken
next_ended : (s : Settings) (sender : ℕ) (refused lost : Bool) (past : ShardTurn) → Ended s sender past.journal → Ended s (suc sender) (with_entry s past (entry_of (End sender) refused lost)).journal
next_ended s sender refused lost past h = record {
  before = all;
  later = λ other l. ap (λ b. b || has_ended past.journal other) (ne_eqb sender other (λ q. omega (arith, l, q))) ∙ h.later other (omega (arith, l));
  last = λ q. nothing_buffered s sender refused lost e.answers past.journal (answers_fit s (entry_of (End sender) refused lost) past.journal past.askings)
      (subst (λ n. have_ended (e ∷ past.journal) n ≡ true) q all) (subst (λ n. have_ended past.journal n ≡ false) q (ap (λ b. b && have_ended past.journal sender) (h.later sender (omega arith))));
}
  where
    e : Entry
    e = with_answers s past.journal past.askings (entry_of (End sender) refused lost)

    all : have_ended (e ∷ past.journal) (suc sender) ≡ true
    all = ap (λ b. (b || has_ended past.journal sender) && have_ended (e ∷ past.journal) sender) (eq-eqb sender sender refl) ∙ ended_more e past.journal sender h.before

-- each shard takes the End of the next sender
takes_ends : (s : Settings) (sender : ℕ) (pasts : List Journal) (asked : List Asking) (each nexts : List Journal) (asked_now : List Asking) (released : List Arrival) → TakesEach s pasts asked (to_each (End sender) each) nexts asked_now released
    → AllByRecursion (Ended s sender) pasts → AllByRecursion (Ended s (sender + 1)) nexts
takes_ends s sender [] asked [] [] asked_now released h o = tt
takes_ends s sender (past ∷ pasts) asked (one ∷ each) (next ∷ nexts) asked_now released h o =
    let before : ShardTurn = record { journal = past; askings = asked } in (
      subst (λ (z : ShardTurn). Ended s (sender + 1) z.journal) (sym h.3.0.3)
          (subst (λ n. Ended s n (with_entry s before (entry_of (End sender) h.3.0.0 h.3.0.1)).journal) (sym (add-one sender)) (next_ended s sender h.3.0.0 h.3.0.1 before o.0)),
      takes_ends s sender pasts h.2 each nexts asked_now h.1 h.4 o.1,
    )
takes_ends s sender [] asked [] (next ∷ nexts) asked_now released h o = absurd h
takes_ends s sender [] asked (one ∷ each) nexts asked_now released h o = absurd h
takes_ends s sender (past ∷ pasts) asked [] nexts asked_now released h o = absurd h
takes_ends s sender (past ∷ pasts) asked (one ∷ each) [] asked_now released h o = absurd h

-- ---- who may end

-- there is a lane with this number, which has nothing to route; or the number is past the lanes
data LaneAt (w : ScriptWorld) (number : ℕ) (found : Option CoreLane) (lanes : ℕ) : Type 0 where
  is_lane : (l : CoreLane) → found ≡ Some l → l.unrouted ≡ [] → l.ended ≡ w.closed → LaneAt w number found lanes
  is_past : found ≡ None → lanes ≤ number → LaneAt w number found lanes

-- what stands at a number among the lanes
lane_at : (w : ScriptWorld) (lane lanes number : ℕ) → LaneAt w number (slice_get (lanes_from w lane lanes) number) lanes
lane_at w lane zero number = is_past refl (omega arith)
lane_at w lane (suc lanes) zero = is_lane _ refl refl refl
lane_at w lane (suc lanes) (suc number) = go (lane_at w (lane + 1) lanes number)
  where
    go : LaneAt w number (slice_get (lanes_from w (lane + 1) lanes) number) lanes → LaneAt w (suc number) (slice_get (lanes_from w (lane + 1) lanes) number) (suc lanes)
    go (is_lane l f u e) = is_lane l f u e
    go (is_past f n) = is_past f (omega (arith, n))

-- a lane of a closed script may send its End to a shard whose queue is empty, and so may the ticker
sender_done : (c : CoreConfig) (k : Core) (w : ScriptWorld) (lanes sender : ℕ) → w.closed ≡ true → k.lanes ≡ lanes_from w 0 lanes → sender < lanes + 1 → IsDone c k sender
sender_done c k w lanes sender closed l n shards exported counted place J = subst (λ (z : Option CoreLane). sender_is_done world place (quiet_shard (own c k) [] J) sender z ≡ true)
    (sym (ap (λ (z : List CoreLane). slice_get z sender) l)) (go (slice_get (lanes_from w 0 lanes) sender) (lane_at w 0 lanes sender))
  where
    world : Core
    world = with_shards c k shards exported counted

    go : (found : Option CoreLane) → LaneAt w sender found lanes → sender_is_done world place (quiet_shard (own c k) [] J) sender found ≡ true
    go found (is_lane x f u e) = rw (f, u, e ∙ closed) refl
    go found (is_past f p) = rw f (eq-eqb sender (length k.lanes) (omega (arith, n, p, ap (λ (z : List CoreLane). length z) l, length_lanes w 0 lanes)))

-- each shard may take the End of the next sender
may_take_ends : (c : CoreConfig) (k : Core) (s : Settings) (sender : ℕ) (pasts : List Journal) (asked : List Asking) (each nexts : List Journal) (asked_now : List Asking) (released : List Arrival) → IsDone c k sender
    → TakesEach s pasts asked (to_each (End sender) each) nexts asked_now released → AllByRecursion (Ended s sender) pasts → AllTakable c k (no_queues pasts) pasts (to_each (End sender) each)
may_take_ends c k s sender [] asked [] nexts asked_now released d h o = tt
may_take_ends c k s sender (past ∷ pasts) asked (one ∷ each) (next ∷ nexts) asked_now released d h o = (ended sender refl refl (o.0.later sender (omega arith)) d, may_take_ends c k s sender pasts h.2 each nexts asked_now h.1 d h.4 o.1)
may_take_ends c k s sender [] asked (one ∷ each) nexts asked_now released d h o = absurd h
may_take_ends c k s sender (past ∷ pasts) asked [] nexts asked_now released d h o = absurd h
may_take_ends c k s sender (past ∷ pasts) asked (one ∷ each) [] asked_now released d h o = absurd h

-- ---- the rounds

-- from a world where all Ends from this sender's on are still to be taken, steps lead to one where all were
pub takes_all_ends : (s : Settings) (sizes : Sizes) (w : ScriptWorld) (senders sender : ℕ) (pasts : List Journal) (asked : List Asking) (each nexts : List Journal) (asked_now : List Asking) (before released : List Arrival) (k : Core)
    → w.closed ≡ true → sender + senders ≡ s.senders → Shipped s w (no_queues pasts) pasts before k → AllByRecursion (Ended s sender) pasts → TakesRounds s pasts asked (ends_from sender senders each) nexts asked_now released
    → (after : Core) × Leads (core_config s sizes) k after × Shipped s w (no_queues nexts) nexts (before ++ released) after × AllByRecursion (Ended s s.senders) nexts
takes_all_ends s sizes w zero sender pasts asked each nexts asked_now before released k closed n h o t =
    (k, leads_same (core_config s sizes) k k refl, ships, subst (λ (z : List Journal). AllByRecursion (Ended s s.senders) z) (sym t.0) (subst (λ m. AllByRecursion (Ended s m) pasts) all o))
  where
    all : sender ≡ s.senders
    all = omega (arith, n)

    ships : Shipped s w (no_queues nexts) nexts (before ++ released) k
    ships = subst (λ (z : List Journal). Shipped s w (no_queues z) z (before ++ released) k) (sym t.0) (subst (λ (z : List Arrival). Shipped s w (no_queues pasts) pasts z k) (sym (ap (λ (z : List Arrival). before ++ z) t.2 ∙ append-nil before)) h)
takes_all_ends s sizes w (suc senders) sender pasts asked each nexts asked_now before released k closed n h o t =
    let one = ships_round s sizes w k (no_queues pasts) pasts asked t.0 t.1 (to_each (End sender) each) before t.2 h
    (may_take_ends (core_config s sizes) k s sender pasts asked each t.0 t.1 t.2 (sender_done (core_config s sizes) k w (length w.contacts.connected) sender closed h.lanes (omega (arith, n, h.senders))) t.4 o) t.4 in
    let more = takes_all_ends s sizes w senders (sender + 1) t.0 t.1 each nexts asked_now (before ++ t.2) t.3 one.0 closed (omega (arith, n)) one.2 (takes_ends s sender pasts asked each t.0 t.1 t.2 t.4 o) t.5 in (
      more.0,
      leads_then (core_config s sizes) k one.0 more.0 one.1 more.1,
      subst (λ (z : List Arrival). Shipped s w (no_queues nexts) nexts z more.0) (append_assoc before t.2 t.3 ∙ ap (λ (z : List Arrival). before ++ z) (sym t.6)) more.2,
      more.3,
    )
