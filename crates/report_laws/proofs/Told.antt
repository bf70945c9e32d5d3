-- The numbers of a report are those of a closed run of the core.
-- For the laws `reports_add_up` and `always_sample_reports_none`.
use Rattle.std.proofs.Common.{◌≡◌, ℕ, zero, suc, ◌+◌, ◌<◌, List, [], ◌∷◌, length, flat_map, length-append, slice_get, slice_index, Option, Some, option_map, refl, sym, ap, ◌∙◌, arith}
use Rattle.std.specs.List.{sum_by}
use Rattle.otlp_types.specs.declared.arrival.Arrival.{Arrival}
use Rattle.drop_ledger.specs.declared.count.Count.TheVariants.{Received, Handed, Dropped}
use Rattle.drop_ledger.specs.Places.{place_of}
use Rattle.span_ids.specs.declared.outcome.Reason.{Reason}
use Rattle.span_ids.specs.declared.outcome.Reason.TheVariants.{NotSampled, LateNotSampled}
use Rattle.journal_theory.specs.Fate.{under}
use Rattle.world_theory.specs.World.{CoreLane, World}
use Rattle.world_theory.specs.Headline.{handed_spans}
use Rattle.span_weave.specs.Woven.{sum_below}
use Rattle.script_run.specs.CoreRun.{core_config}
use Rattle.core_laws.specs.Sums.{reasons, received_spans, counted_under_reason}
use Rattle.core_laws.proofs.Extent.{lanes_of_run}
use Rattle.core_laws.proofs.Sums.{closed_adds_up_at}
use Rattle.core_laws.proofs.Against.{none_against}
use Rattle.report_laws.specs.Reports.{number_under, ReportAddsUp, HasNoneAgainst, ServeAddsUp, ServeDropsNone, ReplayAddsUp, ReplayDropsNone}

-- ---- sums below a number, and sums of a list

-- the sum from the other end
below_first : (n : ℕ) (f : ℕ → ℕ) → sum_below (suc n) f ≡ f 0 + sum_below n (λ i. f (suc i))
below_first zero f = omega arith
below_first (suc n) f = omega (arith, below_first n f)

given : {X : Type 0} (x : X) (o : Option X) → o ≡ Some x → Some x ≡ o
given x o e = sym e

-- what the lanes received is the sum of what each did
received_below : (lanes : List CoreLane) (n : ℕ) (received : ℕ → List Arrival) → length lanes ≡ n
    → ((lane : ℕ) → lane < n → option_map (λ (l : CoreLane). l.received) (slice_get lanes lane) ≡ Some (received lane))
    → length (flat_map (λ (l : CoreLane). l.received) lanes) ≡ sum_below n (λ lane. length (received lane))
received_below [] zero received e h = refl
received_below [] (suc n) received e h = absurd (omega (arith, e))
received_below (l ∷ lanes) zero received e h = absurd (omega (arith, e))
received_below (l ∷ lanes) (suc n) received e h =
    let first : Some l.received ≡ Some (received 0) = h 0 (omega arith) in
    let own : l.received ≡ received 0 = cc first in
    let others = received_below lanes n (λ i. received (suc i)) (omega (arith, e)) (λ i lt. h (suc i) (omega (arith, lt))) in
    omega (arith, length-append l.received (flat_map (λ (x : CoreLane). x.received) lanes), ap (λ (xs : List Arrival). length xs) own, others, below_first n (λ lane. length (received lane)))

-- sums of the same numbers are the same
same_sum : (f g : Reason → ℕ) (rs : List Reason) → ((r : Reason) → f r ≡ g r) → sum_by f rs ≡ sum_by g rs
same_sum f g rs e = ap (λ (h : Reason → ℕ). sum_by h rs) (λ i r. e r i)

-- ---- reports

-- a report with the numbers of a world whose counts add up
adds_up_by : (w : World) (report : List ℕ) → length (received_spans w) ≡ length (handed_spans w) + sum_by (counted_under_reason w) reasons
    → slice_index report (place_of Received) ≡ length (received_spans w) → slice_index report (place_of Handed) ≡ length (handed_spans w)
    → ((reason : Reason) → number_under report reason ≡ counted_under_reason w reason) → ReportAddsUp report
adds_up_by w report sum received handed each =
    let same = same_sum (number_under report) (counted_under_reason w) reasons each in
    received ∙ sum ∙ ap (λ n. n + sum_by (counted_under_reason w) reasons) (sym handed) ∙ ap (λ n. slice_index report (place_of Handed) + n) (sym same)

none_counted : (w : World) (report : List ℕ) → ((reason : Reason) → number_under report reason ≡ counted_under_reason w reason)
    → (under NotSampled w.counted ≡ []) × (under LateNotSampled w.counted ≡ []) → HasNoneAgainst report
none_counted w report each none = (each NotSampled ∙ ap (λ xs. length xs) none.0, each LateNotSampled ∙ ap (λ xs. length xs) none.1)

pub serve_adds_up : ServeAddsUp
serve_adds_up c lanes shards t end report h told =
    let v = h.woven in
    adds_up_by v.after report (closed_adds_up_at c v.after h.headline.one_place v.closed)
    (told Received ∙ sym (received_below v.after.lanes lanes t.received (lanes_of_run c lanes shards v.steps v.after v.runs) v.received))
    (told Handed ∙ ap (λ (batches : List (List Arrival)). length (flat_map (λ batch. batch) batches)) (sym v.handed))
    (λ reason. told (Dropped reason) ∙ sym (v.counted reason))

pub serve_drops_none : ServeDropsNone
serve_drops_none c lanes shards t end report room h told samples none =
    let v = h.woven in
    none_counted v.after report (λ reason. told (Dropped reason) ∙ sym (v.counted reason)) (none_against c lanes shards v.steps v.after room v.runs samples none)

pub replay_adds_up : ReplayAddsUp
replay_adds_up s sizes lanes shards w report h closed told =
    adds_up_by h.core report (closed_adds_up_at (core_config s sizes) h.core h.holds.one_place (h.closed closed))
    ((told.1 Received).0 ∙ sym (h.counts Received)) ((told.1 Handed).0 ∙ sym (h.counts Handed)) (λ reason. (told.1 (Dropped reason)).0 ∙ sym (h.counts (Dropped reason)))

pub replay_drops_none : ReplayDropsNone
replay_drops_none s sizes lanes shards w report room h told samples none =
    none_counted h.core report (λ reason. (told.1 (Dropped reason)).0 ∙ sym (h.counts (Dropped reason))) (none_against (core_config s sizes) lanes shards h.steps h.core room h.runs samples none)
