-- What is known where a step was enabled.
-- For proofs of `pipeline`.
use Rattle.std.proofs.Common.{◌≡◌, ◌∙◌, ◌+◌, ℕ, Bool, true, false, cond, not, ◌&&◌, ◌||◌, nat_lt, List, [], ◌∷◌, ◌++◌, length, slice_get, slice_set, count_by, Option, Some, None, option_map, option_and_then, refl, ap}
use Rattle.std.proofs.lemmas.Bool.{and_parts, not-true}
use Rattle.otlp_types.specs.declared.arrival.Record.{Record}
use Rattle.journal_theory.specs.Journal.{Opening, Decision, policies_for, decision, decisions_now, due_now, has_ended, answered, spans_since, IsAnsweredUpTo}
use Rattle.journal_theory.specs.Answered.{effect_answered, effect_answered_at}
use Rattle.policy_eval.specs.Given.{are_answered}
use Rattle.journal_theory.specs.Fate.{Effect, effect_of_decision, counts}
use Rattle.otlp_types.specs.declared.arrival.Arrival.{Arrival}
use Rattle.otlp_types.specs.declared.arrival.Item.TheVariants.{Span, Tick, End}
use Rattle.span_ids.specs.declared.outcome.Reason.{Reason}
use Rattle.span_ids.specs.declared.outcome.Reason.TheVariants.{QueueFull}
use Rattle.world_theory.specs.World.{CoreConfig, CoreLane, CoreShard, World, settings, ticker, has_due, goes_to}
use Rattle.world_theory.specs.Step.{Step, receive, route, refuse, take as take_step, tick, close, end, decide, ship, pull, hand, fail, drop_batch, is_of_conn, arrivals, with_lane, after_receive, take_first, next_for, after_taking, take_on, sender_is_done, after_decision, ship_on, pull_from, drop_batch_applies, is_empty, step}
use Rattle.journal_theory.specs.Marked.{marks_apply_to_ids}
use Rattle.journal_theory.proofs.ListFacts.{Each}

-- ---- options

pub and_then_some : {X Y : Type 0} (f : X → Option Y) (o : Option X) (y : Y) → option_and_then f o ≡ Some y → (x : X) × (o ≡ Some x) × (f x ≡ Some y)
and_then_some f None y e = absurd (cc e)
and_then_some f (Some x) y e = (x, refl, e)

pub map_some : {X Y : Type 0} (f : X → Y) (o : Option X) (y : Y) → option_map f o ≡ Some y → (x : X) × (o ≡ Some x) × (f x ≡ y)
map_some f None y e = absurd (cc e)
map_some f (Some x) y e = (x, refl, cc e)

pub some_if : {X : Type 0} (b : Bool) (x y : X) → cond b (Some x) None ≡ Some y → (b ≡ true) × (x ≡ y)
some_if true x y e = (refl, cc e)
some_if false x y e = absurd (cc e)

pub some_unless : {X : Type 0} (b : Bool) (x y : X) → cond b None (Some x) ≡ Some y → (b ≡ false) × (x ≡ y)
some_unless true x y e = absurd (cc e)
some_unless false x y e = (refl, cc e)

-- ---- the first that passes, taken out

pub record TakenOut (p : Arrival → Bool) (xs : List Arrival) (a : Arrival) (rest : List Arrival) : Type 0 where
  pub front : List Arrival
  pub back : List Arrival
  pub was : xs ≡ front ++ a ∷ back
  pub becomes : rest ≡ front ++ back
  pub passes : p a ≡ true
  pub before : Each (λ x. p x ≡ false) front

pub taken : (p : Arrival → Bool) (xs : List Arrival) (r : Arrival × List Arrival) → take_first p xs ≡ Some r → TakenOut p xs r.0 r.1
taken p [] r e = absurd (cc e)
taken p (x ∷ xs) r e = go (p x) refl e (taken p xs)
  where
    go : (b : Bool) → p x ≡ b → cond b (Some (x, xs)) (option_map (λ (r : Arrival × List Arrival). (r.0, x ∷ r.1)) (take_first p xs)) ≡ Some r → ((r : Arrival × List Arrival) → take_first p xs ≡ Some r → TakenOut p xs r.0 r.1) → TakenOut p (x ∷ xs) r.0 r.1
    go true q e f = let k : (x, xs) ≡ r = cc e in rw (← k) (record { front = []; back = xs; was = refl; becomes = refl; passes = q; before = tt })
    go false q e f =
        let m = map_some (λ (r : Arrival × List Arrival). (r.0, x ∷ r.1)) (take_first p xs) r e in
        let k = f m.0 m.1 in
        rw (← m.2) (record { front = x ∷ k.front; back = k.back; was = ap (λ (z : List Arrival). x ∷ z) k.was; becomes = ap (λ (z : List Arrival). x ∷ z) k.becomes; passes = k.passes; before = (q, k.before) })

-- ---- the steps

-- the world where a decision that stands in the journal was dealt with
abbrev pub after_dealing : World → (shard : ℕ) → CoreShard → Effect → World
after_dealing w shard sh did = record w {
  shards = slice_set w.shards shard (record sh { dealt = sh.dealt + 1; unshipped = sh.unshipped ++ did.released });
  counted = w.counted ++ did.counted;
}

pub data Stepped (c : CoreConfig) (w next : World) : Type 0 where
  received_by : (lane ordinal moment : ℕ) (records : List Record) (l : CoreLane) → slice_get w.lanes lane ≡ Some l → l.ended ≡ false
      → after_receive w lane l (arrivals (record { lane = lane; ordinal = ordinal }) (count_by (is_of_conn (record { lane = lane; ordinal = ordinal })) l.received) moment records) ≡ next → Stepped c w next
  routed : (lane shard : ℕ) (l : CoreLane) (sh : CoreShard) (a : Arrival) (rest : List Arrival) → slice_get w.lanes lane ≡ Some l → slice_get w.shards shard ≡ Some sh
      → TakenOut (goes_to (length w.shards) shard) l.unrouted a rest
      → record w { lanes = slice_set w.lanes lane (record l { unrouted = rest }); shards = slice_set w.shards shard (record sh { queue = sh.queue ++ a ∷ [] }) } ≡ next → Stepped c w next
  refused_by : (lane shard : ℕ) (l : CoreLane) (a : Arrival) (rest : List Arrival) → slice_get w.lanes lane ≡ Some l
      → TakenOut (goes_to (length w.shards) shard) l.unrouted a rest
      → record w { lanes = slice_set w.lanes lane (record l { unrouted = rest }); counted = w.counted ++ counts QueueFull (a ∷ []) } ≡ next → Stepped c w next
  took_span : (shard : ℕ) (refused lost : Bool) (sh : CoreShard) (a : Arrival) (rest : List Arrival) → slice_get w.shards shard ≡ Some sh → sh.queue ≡ a ∷ rest
      → has_due (settings c w) sh ≡ false → marks_apply_to_ids (settings c w) sh.journal refused lost a.rec.span.ids ≡ true
      → after_taking c w shard sh (record { item = Span a; refused = refused; lost = lost; answers = [] }) rest ≡ next → Stepped c w next
  took_tick : (shard moment : ℕ) (sh : CoreShard) → slice_get w.shards shard ≡ Some sh → has_due (settings c w) sh ≡ false → has_ended sh.journal (ticker w) ≡ false
      → after_taking c w shard sh (record { item = Tick moment; refused = false; lost = false; answers = [] }) sh.queue ≡ next → Stepped c w next
  closed_by : (lane : ℕ) (l : CoreLane) → slice_get w.lanes lane ≡ Some l → l.ended ≡ false → with_lane w lane (record l { ended = true }) ≡ next → Stepped c w next
  took_end : (shard sender : ℕ) (sh : CoreShard) → slice_get w.shards shard ≡ Some sh → has_due (settings c w) sh ≡ false → has_ended sh.journal sender ≡ false
      → sender_is_done w shard sh sender (slice_get w.lanes sender) ≡ true
      → after_taking c w shard sh (record { item = End sender; refused = false; lost = false; answers = [] }) sh.queue ≡ next → Stepped c w next
  -- a decision is taken in two: its answers go to the journal, and then it is dealt with
  answered_by : (shard : ℕ) (sh : CoreShard) (answers : List Bool) (o : Opening) → slice_get w.shards shard ≡ Some sh → slice_get (due_now (settings c w) sh.journal) sh.dealt ≡ Some o
      → IsAnsweredUpTo (settings c w) sh.journal sh.dealt → record w { shards = slice_set w.shards shard (record sh { journal = answered sh.journal answers }) } ≡ next → Stepped c w next
  decided_one : (shard : ℕ) (sh : CoreShard) (d : Decision) → slice_get w.shards shard ≡ Some sh → slice_get (decisions_now (settings c w) sh.journal) sh.dealt ≡ Some d
      → after_dealing w shard sh (effect_of_decision d) ≡ next → Stepped c w next
  shipped : (shard : ℕ) (sh : CoreShard) (a : Arrival) (rest : List Arrival) → slice_get w.shards shard ≡ Some sh → sh.unshipped ≡ a ∷ rest
      → record w { shards = slice_set w.shards shard (record sh { unshipped = rest }); exported = w.exported ++ a ∷ [] } ≡ next → Stepped c w next
  pulled : (a : Arrival) (rest : List Arrival) → w.exported ≡ a ∷ rest → record w { exported = rest; batch = w.batch ++ a ∷ [] } ≡ next → Stepped c w next
  handed_over : is_empty w.batch ≡ false → w.down ≡ false → record w { handed = w.handed ++ w.batch ∷ []; batch = [] } ≡ next → Stepped c w next
  failed : w.down ≡ false → record w { down = true } ≡ next → Stepped c w next
  batch_dropped : (reason : Reason) → is_empty w.batch ≡ false → drop_batch_applies c w reason ≡ true → record w { counted = w.counted ++ counts reason w.batch; batch = [] } ≡ next → Stepped c w next

pub or_both : (a b : Bool) → (a || b) ≡ false → (a ≡ false) × (b ≡ false)
or_both true b e = absurd (cc e)
or_both false b e = (refl, e)

not_not : (b : Bool) → not b ≡ false → b ≡ true
not_not true e = refl
not_not false e = absurd (cc e)

-- any step but a decision
abbrev pub is_plain : {c : CoreConfig} {w next : World} → Stepped c w next → Bool
is_plain (answered_by shard sh answers o g d i e) = false
is_plain (decided_one shard sh d g i e) = false
is_plain _ = true

pub data Steps (c : CoreConfig) (w next : World) : Type 0 where
  plain : (st : Stepped c w next) → is_plain st ≡ true → Steps c w next
  decided_by : (shard : ℕ) (sh : CoreShard) (answers : List Bool) (o : Opening) → slice_get w.shards shard ≡ Some sh → slice_get (due_now (settings c w) sh.journal) sh.dealt ≡ Some o
      → are_answered (policies_for (settings c w) (spans_since sh.journal o)) answers (spans_since sh.journal o) ≡ true → after_decision w shard sh answers (effect_of_decision (decision (settings c w) sh.journal o answers)) ≡ next → Steps c w next

pub stepped : (c : CoreConfig) (w next : World) (s : Step) → step c w s ≡ Some next → Steps c w next
stepped c w next (receive lane ordinal moment records) e =
    let k = and_then_some _ (slice_get w.lanes lane) next e in
    let m = some_unless k.0.ended _ next k.2 in
    plain (received_by lane ordinal moment records k.0 k.1 m.0 m.1) refl
stepped c w next (route lane shard) e =
    let k = and_then_some _ (slice_get w.lanes lane) next e in
    let m = and_then_some _ (slice_get w.shards shard) next k.2 in
    let n = map_some _ (next_for w k.0 shard) next m.2 in
    plain (routed lane shard k.0 m.0 n.0.0 n.0.1 k.1 m.1 (taken (goes_to (length w.shards) shard) k.0.unrouted n.0 n.1) n.2) refl
stepped c w next (refuse lane shard) e =
    let k = and_then_some _ (slice_get w.lanes lane) next e in
    let m = and_then_some _ (slice_get w.shards shard) next k.2 in
    let n = map_some _ (next_for w k.0 shard) next m.2 in
    plain (refused_by lane shard k.0 n.0.0 n.0.1 k.1 (taken (goes_to (length w.shards) shard) k.0.unrouted n.0 n.1) n.2) refl
stepped c w next (take_step shard refused lost) e =
    let k = and_then_some _ (slice_get w.shards shard) next e in go k.0 k.1 k.0.queue refl k.2
  where
    go : (sh : CoreShard) → slice_get w.shards shard ≡ Some sh → (q : List Arrival) → sh.queue ≡ q → take_on c w shard refused lost sh q ≡ Some next → Steps c w next
    go sh g [] q e = absurd (cc e)
    go sh g (a ∷ rest) q e =
        let m = some_if (not (has_due (settings c w) sh) && marks_apply_to_ids (settings c w) sh.journal refused lost a.rec.span.ids) _ next e in
        let b = and_parts (not (has_due (settings c w) sh)) (marks_apply_to_ids (settings c w) sh.journal refused lost a.rec.span.ids) m.0 in
        plain (took_span shard refused lost sh a rest g q (not-true (has_due (settings c w) sh) b.0) b.1 m.1) refl
stepped c w next (tick shard moment) e =
    let k = and_then_some _ (slice_get w.shards shard) next e in
    let m = some_if (not (has_due (settings c w) k.0) && not (has_ended k.0.journal (ticker w))) _ next k.2 in
    let b = and_parts (not (has_due (settings c w) k.0)) (not (has_ended k.0.journal (ticker w))) m.0 in
    plain (took_tick shard moment k.0 k.1 (not-true (has_due (settings c w) k.0) b.0) (not-true (has_ended k.0.journal (ticker w)) b.1) m.1) refl
stepped c w next (close lane) e =
    let k = and_then_some _ (slice_get w.lanes lane) next e in
    let m = some_unless k.0.ended _ next k.2 in
    plain (closed_by lane k.0 k.1 m.0 m.1) refl
stepped c w next (end shard sender) e =
    let k = and_then_some _ (slice_get w.shards shard) next e in
    let m = some_if _ _ next k.2 in
    let b = and_parts _ (sender_is_done w shard k.0 sender (slice_get w.lanes sender)) m.0 in
    let d = and_parts (not (has_due (settings c w) k.0)) (not (has_ended k.0.journal sender)) b.0 in
    plain (took_end shard sender k.0 k.1 (not-true (has_due (settings c w) k.0) d.0) (not-true (has_ended k.0.journal sender) d.1) b.1 m.1) refl
stepped c w next (decide shard answers) e =
    let k = and_then_some _ (slice_get w.shards shard) next e in
    let m = map_some _ (effect_answered_at (settings c w) k.0.journal k.0.dealt answers) next k.2 in
    let n = and_then_some (effect_answered (settings c w) k.0.journal answers) (slice_get (due_now (settings c w) k.0.journal) k.0.dealt) m.0 m.1 in
    let f = some_if (are_answered (policies_for (settings c w) (spans_since k.0.journal n.0)) answers (spans_since k.0.journal n.0)) _ m.0 n.2 in
    decided_by shard k.0 answers n.0 k.1 n.1 f.0 (ap (after_decision w shard k.0 answers) f.1 ∙ m.2)
stepped c w next (ship shard) e =
    let k = and_then_some _ (slice_get w.shards shard) next e in go k.0 k.1 k.0.unshipped refl k.2
  where
    go : (sh : CoreShard) → slice_get w.shards shard ≡ Some sh → (q : List Arrival) → sh.unshipped ≡ q → ship_on w shard sh q ≡ Some next → Steps c w next
    go sh g [] q e = absurd (cc e)
    go sh g (a ∷ rest) q e = plain (shipped shard sh a rest g q (cc e)) refl
stepped c w next pull e = go w.exported refl e
  where
    go : (q : List Arrival) → w.exported ≡ q → pull_from c w q ≡ Some next → Steps c w next
    go [] q e = absurd (cc e)
    go (a ∷ rest) q e = plain (pulled a rest q (some_if (nat_lt (length w.batch) c.batch_size) _ next e).1) refl
stepped c w next hand e =
    let m = some_unless (is_empty w.batch || w.down) _ next e in
    let b = or_both (is_empty w.batch) w.down m.0 in
    plain (handed_over b.0 b.1 m.1) refl
stepped c w next fail e = let m = some_unless w.down _ next e in plain (failed m.0 m.1) refl
stepped c w next (drop_batch reason) e =
    let m = some_unless (is_empty w.batch || not (drop_batch_applies c w reason)) _ next e in
    let b = or_both (is_empty w.batch) (not (drop_batch_applies c w reason)) m.0 in
    plain (batch_dropped reason b.0 (not_not (drop_batch_applies c w reason) b.1) m.1) refl
