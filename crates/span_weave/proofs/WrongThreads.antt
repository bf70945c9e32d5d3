-- Threads that break one promise and keep all others, and that no run of the core does which ends closed.
-- For the contract of `weave`: none of its premises can be left out.
use Rattle.std.proofs.Common.{◌≡◌, ℕ, zero, suc, ◌+◌, ◌<◌, ◌≤◌, Bool, true, false, cond, List, [], ◌∷◌, ◌++◌, length, map, filter, flat_map, slice_get, Option, Some, None, option_map, refl, ap, sym, subst, ◌∙◌, arith}
use Rattle.std.specs.Prelude.{IsTrue, AllPairs}
use Rattle.std.specs.List.{AllByRecursion, list_any}
use Rattle.std.proofs.lemmas.List.Elements.{filter-append}
use Rattle.world_theory.proofs.WaitingPlaces.{buffered_waits, not_waiting}
use Rattle.otlp_types.specs.declared.arrival.Arrival.{Arrival}
use Rattle.otlp_types.specs.declared.arrival.Item.TheVariants.{Span, Tick, End}
use Rattle.span_ids.specs.declared.outcome.Reason.{Reason}
use Rattle.span_ids.specs.declared.outcome.Reason.TheVariants.{InvalidId, QueueFull, NoMemory, Evicted, NotSampled, LateNotSampled, ExporterDown}
use Rattle.span_ids.specs.declared.outcome.Verdict.TheVariants.{Sampled}
use Rattle.lane_queue.specs.Merges.{of}
use Rattle.journal_theory.specs.Journal.{IsAnswered, Settings, Entry, Journal, notes, remembered}
use Rattle.journal_theory.specs.Fate.{DroppedSpan, Fate, waits, fate, output}
use Rattle.journal_theory.specs.Marked.{MarksApply}
use Rattle.world_theory.specs.World.{CoreConfig, CoreLane, CoreShard, World, new_world, settings_for, settings, has_due, goes_to, same_key}
use Rattle.world_theory.specs.Places.{Place, HeldKey, unrouted, queued, buffered, unshipped, exported, in_batch, handed, counted_under, is_waiting, held_at, buffered_spans, held_by_lanes, held_by_shards, held}
use Rattle.world_theory.specs.Headline.{TakenSpan, fate_of, is_where, ComesFirst, HoldsOf}
use Rattle.world_theory.proofs.Parts as SpanWorldParts
use Rattle.world_theory.proofs.Samples.{always, configured, plain, ids_of}
use Rattle.world_theory.proofs.Balance.{same_settings}
use Rattle.world_theory.proofs.OnePlace.{run_keeps}
use Rattle.world_theory.proofs.AllAnswered.{answered_new}
use Rattle.span_weave.specs.Threads.{Try, Threads, pushed, span_of, pushed_in, ExporterAct, pulled, handed_over, pulls, items_of, journal_of, ExporterMade, new_export, after_acts, AreNumbered}
use Rattle.span_weave.specs.Woven.{counted_in_all, Woven}
use Rattle.span_weave.proofs.Worlds.{entry_of}
use Rattle.span_weave.proofs.Counting.{none_counted}
use Rattle.span_weave.proofs.Numbering.{numbered_from}

-- ---- all promises but one

-- the promises that are broken here
pub data Promise : Type 0 where
  tries_in_order : Promise
  popped_in_order : Promise
  marks_that_apply : Promise
  answer_for_each_asking : Promise
  shipped_is_output : Promise
  batch_is_empty : Promise

abbrev pub is_same : (p q : Promise) → Bool
is_same tries_in_order tries_in_order = true
is_same popped_in_order popped_in_order = true
is_same marks_that_apply marks_that_apply = true
is_same answer_for_each_asking answer_for_each_asking = true
is_same shipped_is_output shipped_is_output = true
is_same batch_is_empty batch_is_empty = true
is_same _ _ = false

-- nothing where the promise is the one that is broken, else this
abbrev pub unless_same : Bool → Type 0 → Type 0
unless_same true T = Unit {0}
unless_same false T = T

abbrev pub Unless : (broken p : Promise) → Type 0 → Type 0
Unless broken p T = unless_same (is_same broken p) T

-- all of `Meets` but this promise
pub record MeetsBut (broken : Promise) (c : CoreConfig) (lanes shards : ℕ) (t : Threads) (end : ExporterMade) : Type 0 where
  pub numbered : (lane : ℕ) → lane < lanes → AreNumbered lane (t.received lane)
  pub tried : Unless broken tries_in_order ((lane shard : ℕ) → lane < lanes → shard < shards → map span_of (t.tries lane shard) ≡ filter (goes_to shards shard) (t.received lane))
  pub of_lane : Unless broken popped_in_order ((lane shard : ℕ) → lane < lanes → shard < shards → items_of lane (t.popped shard) ≡ map (λ a. Span a) (pushed_in (t.tries lane shard)) ++ End lane ∷ [])
  pub of_ticker : (shard : ℕ) → shard < shards → items_of lanes (t.popped shard) ≡ map (λ m. Tick m) (t.ticks shard) ++ End lanes ∷ []
  pub of_senders : (shard : ℕ) → shard < shards → AllByRecursion (λ (x : ℕ × Entry). x.0 ≤ lanes) (t.popped shard)
  pub marked : Unless broken marks_that_apply ((shard : ℕ) → shard < shards → MarksApply (settings_for c (lanes + 1)) (journal_of t shard))
  pub answered : Unless broken answer_for_each_asking ((shard : ℕ) → shard < shards → IsAnswered (settings_for c (lanes + 1)) (journal_of t shard))
  pub shipped : Unless broken shipped_is_output ((shard : ℕ) → shard < shards → of shard (pulls t.acts) ≡ output (settings_for c (lanes + 1)) (journal_of t shard))
  pub of_shards : AllByRecursion (λ (x : ℕ × Arrival). x.0 < shards) (pulls t.acts)
  pub exports : after_acts c new_export t.acts ≡ Some end
  pub flushed : Unless broken batch_is_empty (end.batch ≡ [])

-- ---- what holds of a woven run

abbrev config : CoreConfig
config = configured always (Some 1) 1 1

abbrev own : Settings
own = settings_for config 2

holds : (t : Threads) (end : ExporterMade) (w : Woven config 1 1 t end) → HoldsOf config w.after
holds t end w = SpanWorldParts.headline config 1 1 w.steps w.after (λ e. cc e) w.runs

own_settings : (t : Threads) (end : ExporterMade) (w : Woven config 1 1 t end) → settings config w.after ≡ own
own_settings t end w = (run_keeps config (λ (x : World). settings config x ≡ own) (λ e. cc e) (λ x next stepped e. same_settings config x next stepped ∙ e) w.steps (new_world 1 1) w.after refl (answered_new own 1 1) w.runs).0

-- spans of one connection and trace were handed over in received order
abbrev HandedInOrder : List (List Arrival) → Type 0
HandedInOrder batches = AllPairs ComesFirst (flat_map (λ batch. batch) batches)

-- its one shard, whose journal is this
pub record OneShard (w : World) (J : Journal) : Type 0 where
  pub shard : CoreShard
  pub there : slice_get w.shards 0 ≡ Some shard
  pub journal : shard.journal ≡ J

pub one_shard : (w : World) (J : Journal) → option_map (λ (sh : CoreShard). sh.journal) (slice_get w.shards 0) ≡ Some J → OneShard w J
one_shard w J e = go (slice_get w.shards 0) refl e
  where
    go : (o : Option CoreShard) → slice_get w.shards 0 ≡ o → option_map (λ (sh : CoreShard). sh.journal) o ≡ Some J → OneShard w J
    go None there h = absurd (cc h)
    go (Some sh) there h = record { shard = sh; there = there; journal = cc h }

-- ---- the threads

abbrev pub first : Arrival
first = record { key = record { conn = record { lane = 0; ordinal = 0 }; number = 0 }; moment = 0; rec = plain 1 }

abbrev second : Arrival
second = record { key = record { conn = record { lane = 0; ordinal = 0 }; number = 1 }; moment = 1; rec = plain 1 }

-- one lane and one shard
abbrev pub did : (received : List Arrival) → (tries : List Try) → (ticks : List ℕ) → (popped : List (ℕ × Entry)) → List ExporterAct → Threads
did received tries ticks popped acts = record { received = λ lane. received; tries = λ lane shard. tries; ticks = λ shard. ticks; popped = λ shard. popped; acts = acts }

abbrev pub made : List (List Arrival) → ExporterMade
made batches = record { batch = []; handed = batches; counted = []; down = false }

-- the ends of the lane and of the ticker
abbrev pub ends : List (ℕ × Entry)
ends = (0, entry_of (End 0) false false []) ∷ (1, entry_of (End 1) false false []) ∷ []

abbrev pub taken : Arrival → ℕ × Entry
taken a = (0, entry_of (Span a) false false [])

abbrev ticked : ℕ × Entry
ticked = (1, entry_of (Tick 11) false false ([] ∷ []))

-- what holds of the number 0 holds of each below 1
pub only_zero : (P : ℕ → Type 0) → P 0 → (k : ℕ) → k < 1 → P k
only_zero P h zero l = h
only_zero P h (suc k) l = absurd (omega (arith, l))

unless_more : (b : Bool) (S T : Type 0) → (S → T) → unless_same b S → unless_same b T
unless_more true S T f h = h
unless_more false S T f h = f h

-- what one lane, one shard, the ticker and the exporter did meets all promises but one
pub meets_but : (broken : Promise) (c : CoreConfig) (t : Threads) (end : ExporterMade) → AreNumbered 0 (t.received 0)
    → Unless broken tries_in_order (map span_of (t.tries 0 0) ≡ filter (goes_to 1 0) (t.received 0))
    → Unless broken popped_in_order (items_of 0 (t.popped 0) ≡ map (λ a. Span a) (pushed_in (t.tries 0 0)) ++ End 0 ∷ [])
    → items_of 1 (t.popped 0) ≡ map (λ m. Tick m) (t.ticks 0) ++ End 1 ∷ []
    → AllByRecursion (λ (x : ℕ × Entry). x.0 ≤ 1) (t.popped 0)
    → Unless broken marks_that_apply (MarksApply (settings_for c 2) (journal_of t 0))
    → Unless broken answer_for_each_asking (IsAnswered (settings_for c 2) (journal_of t 0))
    → Unless broken shipped_is_output (of 0 (pulls t.acts) ≡ output (settings_for c 2) (journal_of t 0))
    → AllByRecursion (λ (x : ℕ × Arrival). x.0 < 1) (pulls t.acts)
    → after_acts c new_export t.acts ≡ Some end
    → Unless broken batch_is_empty (end.batch ≡ [])
    → MeetsBut broken c 1 1 t end
meets_but broken c t end numbered tried of_lane of_ticker of_senders marked answered shipped of_shards exports flushed =
    let T = λ (lane shard : ℕ). map span_of (t.tries lane shard) ≡ filter (goes_to 1 shard) (t.received lane) in
    let L = λ (lane shard : ℕ). items_of lane (t.popped shard) ≡ map (λ a. Span a) (pushed_in (t.tries lane shard)) ++ End lane ∷ [] in
    record {
      numbered = only_zero (λ lane. AreNumbered lane (t.received lane)) numbered;
      tried = unless_more (is_same broken tries_in_order) (T 0 0) ((lane shard : ℕ) → lane < 1 → shard < 1 → T lane shard) (each_zero T) tried;
      of_lane = unless_more (is_same broken popped_in_order) (L 0 0) ((lane shard : ℕ) → lane < 1 → shard < 1 → L lane shard) (each_zero L) of_lane;
      of_ticker = only_zero (λ shard. items_of 1 (t.popped shard) ≡ map (λ m. Tick m) (t.ticks shard) ++ End 1 ∷ []) of_ticker;
      of_senders = only_zero (λ shard. AllByRecursion (λ (x : ℕ × Entry). x.0 ≤ 1) (t.popped shard)) of_senders;
      marked = unless_more (is_same broken marks_that_apply) (M 0) ((shard : ℕ) → shard < 1 → M shard) (only_zero M) marked;
      answered = unless_more (is_same broken answer_for_each_asking) (A 0) ((shard : ℕ) → shard < 1 → A shard) (only_zero A) answered;
      shipped = unless_more (is_same broken shipped_is_output) (O 0) ((shard : ℕ) → shard < 1 → O shard) (only_zero O) shipped;
      of_shards = of_shards;
      exports = exports;
      flushed = flushed;
    }
  where
    each_zero : (P : ℕ → ℕ → Type 0) → P 0 0 → (lane shard : ℕ) → lane < 1 → shard < 1 → P lane shard
    each_zero P h lane shard i j = only_zero (λ l. P l shard) (only_zero (λ k. P 0 k) h shard j) lane i

    M : ℕ → Type 0
    M shard = MarksApply (settings_for c 2) (journal_of t shard)

    A : ℕ → Type 0
    A shard = IsAnswered (settings_for c 2) (journal_of t shard)

    O : ℕ → Type 0
    O shard = of shard (pulls t.acts) ≡ output (settings_for c 2) (journal_of t shard)

two_numbered : AreNumbered 0 (first ∷ second ∷ [])
two_numbered = numbered_from 0 (first ∷ second ∷ []) (refl, refl, (refl, refl, tt))

pub one_numbered : AreNumbered 0 (first ∷ [])
one_numbered = numbered_from 0 (first ∷ []) (refl, refl, tt)

-- no run hands over the second of the two spans first
backwards : (t : Threads) → Woven config 1 1 t (made ((second ∷ []) ∷ (first ∷ []) ∷ [])) → ⊥
backwards t w =
    let h = subst (λ (z : List (List Arrival)). HandedInOrder z) w.handed (holds t (made ((second ∷ []) ∷ (first ∷ []) ∷ [])) w).order in
    let q : 1 < 0 = h 0 1 first (omega arith) (omega arith) refl in
    absurd (omega (arith, q))

-- what they handed over
abbrev turned : ExporterMade
turned = made ((second ∷ []) ∷ (first ∷ []) ∷ [])

-- by these tries, and by these items that the shard popped, the second span went to the exporter first
abbrev second_first : List Try → (popped : List (ℕ × Entry)) → Threads
second_first tries popped = did (first ∷ second ∷ []) tries (11 ∷ []) popped (pulled 0 second ∷ handed_over ∷ pulled 0 first ∷ handed_over ∷ [])

-- they meet all promises but this one, and are no run
abbrev pub BreaksAlone : Promise → Threads → Type 0
BreaksAlone broken t = MeetsBut broken config 1 1 t turned × (Woven config 1 1 t turned → ⊥)

-- ---- tries that are not in order

pub tried_backwards : BreaksAlone tries_in_order (second_first (pushed second ∷ pushed first ∷ []) (taken second ∷ taken first ∷ ticked ∷ ends))
unfolding notes
tried_backwards = (meets_but tries_in_order config _ turned two_numbered tt refl refl (omega arith, (omega arith, (omega arith, (omega arith, (omega arith, tt))))) (refl, (refl, (refl, (refl, (refl, tt))))) (refl, (refl, (refl, (refl, (refl, tt))))) refl (omega arith, (omega arith, tt)) refl refl, backwards _)

-- ---- items that are not popped in order

pub popped_backwards : BreaksAlone popped_in_order (second_first (pushed first ∷ pushed second ∷ []) (taken second ∷ taken first ∷ ticked ∷ ends))
unfolding notes
popped_backwards = (meets_but popped_in_order config _ turned two_numbered refl tt refl (omega arith, (omega arith, (omega arith, (omega arith, (omega arith, tt))))) (refl, (refl, (refl, (refl, (refl, tt))))) (refl, (refl, (refl, (refl, (refl, tt))))) refl (omega arith, (omega arith, tt)) refl refl, backwards _)

-- ---- spans that are not shipped in order

pub shipped_backwards : BreaksAlone shipped_is_output (second_first (pushed first ∷ pushed second ∷ []) (taken first ∷ taken second ∷ ticked ∷ ends))
unfolding notes
shipped_backwards = (meets_but shipped_is_output config _ turned two_numbered refl refl refl (omega arith, (omega arith, (omega arith, (omega arith, (omega arith, tt))))) (refl, (refl, (refl, (refl, (refl, tt))))) (refl, (refl, (refl, (refl, (refl, tt))))) tt (omega arith, (omega arith, tt)) refl refl, backwards _)

-- ---- a lane's End that is not its last item

abbrev ended_early : Threads
ended_early = did (first ∷ []) (pushed first ∷ []) [] (ends ++ taken first ∷ []) []

ended_early_meets : MeetsBut popped_in_order config 1 1 ended_early (made [])
unfolding notes
ended_early_meets = meets_but popped_in_order config ended_early (made []) one_numbered refl tt refl (omega arith, (omega arith, (omega arith, tt))) (refl, (refl, (refl, tt))) (refl, (refl, (refl, tt))) refl tt refl refl

-- the span that was taken behind the End
abbrev behind_end : (w : World) → OneShard w (journal_of ended_early 0) → TakenSpan w
behind_end w one = record { shard = 0; of = one.shard; in_world = one.there; arrival = first; ids = ids_of 1; valid = refl; refused = false; lost = false; answers = []; later = []; before = entry_of (End 1) false false [] ∷ entry_of (End 0) false false [] ∷ []; split = one.journal }

-- the fate of that span by a journal
abbrev fate_by : Settings → Journal → Fate
fate_by s past = fate s past (entry_of (End 1) false false [] ∷ entry_of (End 0) false false [] ∷ []) false (ids_of 1)

pub ended_early_is_no_run : Woven config 1 1 ended_early (made []) → ⊥
unfolding notes
ended_early_is_no_run w =
    let one = one_shard w.after (journal_of ended_early 0) (w.journals 0 (omega arith)) in
    let fits = (holds ended_early (made []) w).fits (behind_end w.after one) in
    buffered_waits fits.0 (has_due (settings config w.after) one.shard)
    (subst (λ (f : Fate). IsTrue (is_where 0 (has_due (settings config w.after) one.shard) f fits.0)) (fate_is one) fits.2)
    (not_waiting first.key fits.0 (held config w.after) w.closed.nothing_waits fits.1)
  where
    fate_is : (one : OneShard w.after (journal_of ended_early 0)) → fate_of config w.after (behind_end w.after one) ≡ waits
    fate_is one = ap (λ (s : Settings). fate_by s one.shard.journal) (own_settings ended_early (made []) w) ∙ ap (fate_by own) one.journal

-- ---- a mark that can't apply

-- a late span, marked as if memory had been refused to it
abbrev late_refused : ℕ × Entry
late_refused = (0, entry_of (Span second) true false [])

abbrev marked_late : Threads
marked_late = did (first ∷ second ∷ []) (pushed first ∷ pushed second ∷ []) (11 ∷ []) (taken first ∷ ticked ∷ late_refused ∷ ends) (pulled 0 first ∷ handed_over ∷ [])

marked_late_meets : MeetsBut marks_that_apply config 1 1 marked_late (made ((first ∷ []) ∷ []))
unfolding notes
marked_late_meets = meets_but marks_that_apply config marked_late (made ((first ∷ []) ∷ [])) two_numbered refl refl refl (omega arith, (omega arith, (omega arith, (omega arith, (omega arith, tt))))) tt (refl, (refl, (refl, (refl, (refl, tt))))) refl (omega arith, tt) refl refl

-- the journal before that span
abbrev before_late : Journal
before_late = entry_of (Tick 11) false false ([] ∷ []) ∷ entry_of (Span first) false false [] ∷ []

abbrev late_one : (w : World) → OneShard w (journal_of marked_late 0) → TakenSpan w
late_one w one = record { shard = 0; of = one.shard; in_world = one.there; arrival = second; ids = ids_of 1; valid = refl; refused = true; lost = false; answers = []; later = entry_of (End 1) false false [] ∷ entry_of (End 0) false false [] ∷ []; before = before_late; split = one.journal }

pub marked_late_is_no_run : Woven config 1 1 marked_late (made ((first ∷ []) ∷ [])) → ⊥
unfolding notes
marked_late_is_no_run w =
    let one = one_shard w.after (journal_of marked_late 0) (w.journals 0 (omega arith)) in
    let known : remembered (settings config w.after) (notes (settings config w.after) before_late) (ids_of 1).trace ≡ Some Sampled =
    ap (λ (s : Settings). remembered s (notes s before_late) (ids_of 1).trace) (own_settings marked_late (made ((first ∷ []) ∷ [])) w) in
    let q : true ≡ false = ((holds marked_late (made ((first ∷ []) ∷ [])) w).remembered (late_one w.after one) Sampled known).0 in
    cc q

-- ---- a span that is left in the batch

abbrev left_in_batch : Threads
left_in_batch = did (first ∷ []) (pushed first ∷ []) (11 ∷ []) (taken first ∷ ticked ∷ ends) (pulled 0 first ∷ [])

abbrev with_batch : ExporterMade
with_batch = record { batch = first ∷ []; handed = []; counted = []; down = false }

left_in_batch_meets : MeetsBut batch_is_empty config 1 1 left_in_batch with_batch
unfolding notes
left_in_batch_meets = meets_but batch_is_empty config left_in_batch with_batch one_numbered refl refl refl (omega arith, (omega arith, (omega arith, (omega arith, tt)))) (refl, (refl, (refl, (refl, tt)))) (refl, (refl, (refl, (refl, tt)))) refl (omega arith, tt) refl tt

abbrev waits_there : HeldKey → Bool
waits_there h = is_waiting h.place

abbrev AllWait : List HeldKey → Type 0
AllWait hs = filter waits_there hs ≡ hs

both_wait : (xs ys : List HeldKey) → AllWait xs → AllWait ys → AllWait (xs ++ ys)
both_wait xs ys e f = filter-append waits_there xs ys ∙ ap (λ (z : List HeldKey). z ++ filter waits_there ys) e ∙ ap (λ (z : List HeldKey). xs ++ z) f

held_waits : (place : Place) → is_waiting place ≡ true → (spans : List Arrival) → AllWait (held_at place spans)
held_waits place is [] = refl
held_waits place is (a ∷ spans) =
    ap (λ b. let h : HeldKey = record { place = place; key = a.key } in cond b (h ∷ filter waits_there (held_at place spans)) (filter waits_there (held_at place spans))) is
    ∙ ap (λ (z : List HeldKey). let h : HeldKey = record { place = place; key = a.key } in h ∷ z) (held_waits place is spans)

lanes_wait : (n : ℕ) (lanes : List CoreLane) → AllWait (held_by_lanes n lanes)
lanes_wait n [] = refl
lanes_wait n (l ∷ lanes) = both_wait (held_at (unrouted n) l.unrouted) (held_by_lanes (n + 1) lanes) (held_waits (unrouted n) refl l.unrouted) (lanes_wait (n + 1) lanes)

shards_wait : (s : Settings) (n : ℕ) (shards : List CoreShard) → AllWait (held_by_shards s n shards)
shards_wait s n [] = refl
shards_wait s n (sh ∷ shards) =
    let inside = held_at (buffered n) (buffered_spans s sh.journal sh.dealt) in
    let out = held_at (unshipped n) sh.unshipped in
    both_wait (held_at (queued n) sh.queue ++ inside ++ out) (held_by_shards s (n + 1) shards)
    (both_wait (held_at (queued n) sh.queue ++ inside) out
    (both_wait (held_at (queued n) sh.queue) inside (held_waits (queued n) refl sh.queue) (held_waits (buffered n) refl (buffered_spans s sh.journal sh.dealt))) (held_waits (unshipped n) refl sh.unshipped))
    (shards_wait s (n + 1) shards)

abbrev counted_key : DroppedSpan → HeldKey
counted_key n = record { place = counted_under n.reason; key = n.key }

-- where nothing was handed over or counted, all that the world holds waits
world_waits : (w : World) → w.handed ≡ [] → w.counted ≡ [] → AllWait (held config w)
world_waits w none nothing =
    let s = settings config w in
    let lanes = held_by_lanes 0 w.lanes in
    let shards = held_by_shards s 0 w.shards in
    let export = held_at exported w.exported in
    let batch = held_at in_batch w.batch in
    let over = flat_map (held_at handed) w.handed in
    let counted = map counted_key w.counted in
    let over_none : over ≡ [] = ap (flat_map (held_at handed)) none in
    let counted_none : counted ≡ [] = ap (map counted_key) nothing in
    both_wait (lanes ++ shards ++ export ++ batch ++ over) counted
    (both_wait (lanes ++ shards ++ export ++ batch) over
    (both_wait (lanes ++ shards ++ export) batch (both_wait (lanes ++ shards) export (both_wait lanes shards (lanes_wait 0 w.lanes) (shards_wait s 0 w.shards)) (held_waits exported refl w.exported)) (held_waits in_batch refl w.batch))
    (subst AllWait (sym over_none) refl))
    (subst AllWait (sym counted_none) refl)

first_received : (lanes : List CoreLane) → option_map (λ (l : CoreLane). l.received) (slice_get lanes 0) ≡ Some (first ∷ []) → list_any (λ (l : CoreLane). list_any (λ a. same_key a.key first.key) l.received) lanes ≡ true
first_received [] e = absurd (cc e)
first_received (l ∷ lanes) e = let q : l.received ≡ first ∷ [] = cc e in rw q refl

pub left_in_batch_is_no_run : Woven config 1 1 left_in_batch with_batch → ⊥
unfolding notes
left_in_batch_is_no_run w =
    let nothing : w.after.counted ≡ [] = none_counted w.after.counted (λ r. w.counted r ∙ nothing_counted r) in
    let none : held config w.after ≡ [] = sym (world_waits w.after w.handed nothing) ∙ w.closed.nothing_waits in
    let one = (holds left_in_batch with_batch w).one_place.received first.key (first_received w.after.lanes (w.received 0 (omega arith))) in
    let q : 0 ≡ 1 = sym (ap (λ (z : List HeldKey). length (map (λ (h : HeldKey). h.place) (filter (λ (h : HeldKey). same_key h.key first.key) z))) none) ∙ one in
    absurd (omega (arith, q))
  where
    nothing_counted : (r : Reason) → counted_in_all config 1 1 left_in_batch with_batch r ≡ 0
    nothing_counted InvalidId = refl
    nothing_counted QueueFull = refl
    nothing_counted NoMemory = refl
    nothing_counted Evicted = refl
    nothing_counted NotSampled = refl
    nothing_counted LateNotSampled = refl
    nothing_counted ExporterDown = refl
