-- From a closed world nothing but a failure of the sink is enabled.
-- For the contract of `nothing_after_close`.
use Rattle.std.proofs.Common.{◌≡◌, ℕ, zero, suc, ◌+◌, ◌<◌, Bool, true, false, cond, not, ◌&&◌, ◌||◌, ◌==◌, List, [], ◌∷◌, ◌++◌, length, filter, flat_map, slice_get, Option, Some, None, refl, ap, sym, subst, ◌∙◌, arith, length-append, eqb-true}
use Rattle.std.specs.List.{list_all}
use Rattle.std.proofs.lemmas.Bool.{and_parts, not-true, eqb-false}
use Rattle.span_ids.proofs.SameTraces.{same_trace-refl}
use Rattle.journal_theory.specs.Journal.{answered, decision, due_now, Settings, Journal, clock, Opening, Decision, Notes, finding, spans_since, due_at, after_finding, after_span, after_item, has_ended, have_ended, notes, decisions_now, notes_dealt}
use Rattle.otlp_types.specs.declared.span.Ids.{Ids}
use Rattle.otlp_types.specs.declared.arrival.Arrival.{Arrival}
use Rattle.otlp_types.specs.declared.arrival.Item.{Item}
use Rattle.otlp_types.specs.declared.arrival.Item.TheVariants.{Span, Tick, End}
use Rattle.world_theory.specs.World.{CoreConfig, CoreLane, CoreShard, World, settings, ticker, has_due, goes_to}
use Rattle.world_theory.specs.Step.{Step, receive, route, refuse, take as take_step, tick, close, end, decide, ship, pull, hand, fail, drop_batch, next_for, take_on, sender_is_done, ship_on, pull_from, drop_batch_applies, is_empty, step}
use Rattle.world_theory.specs.Places.{Place, HeldKey, unrouted, queued, buffered, unshipped, exported, in_batch, handed, is_waiting, held_at, buffered_spans, held_by_lanes, held_by_shard, held_by_shards, held, IsClosed}
use Rattle.journal_theory.proofs.Notes.{HasRoom, own_spans, spans_more, Sound, Meeting, it_joins, it_meets, it_opens, meeting}
use Rattle.world_theory.specs.Headline.{NothingAfterClose, OfEachRun}
use Rattle.journal_theory.specs.Answered.{effect_answered, effect_answered_at}
use Rattle.world_theory.proofs.Answered.{next_there, content_same}
use Rattle.world_theory.proofs.AllAnswered.{AllAnswered}
use Rattle.world_theory.proofs.OnePlace.{of_each_answered}
use Rattle.journal_theory.proofs.ListFacts.{Each, Each-left, Each-right, Each-both, Each-split}
use Rattle.journal_theory.proofs.Sound.{Each-buffer, Each-undecided, sound_item, sound_notes}
use Rattle.world_theory.proofs.Content.{content, content_is, one_more}
use Rattle.world_theory.proofs.Dealing.{Each-due, Pairs-due, InTurn, in_turn, IsEarlier, undecided_ascend, dealt_with}
use Rattle.world_theory.proofs.Steps.{and_then_some, map_some, some_if, some_unless, or_both, taken}

-- ---- each episode has a span

abbrev HasSpan : Journal → Opening → Type 0
HasSpan J o = 0 < length (spans_since J o)

grows : (item : Item) (refused lost : Bool) (given : List (List Bool)) (J : Journal) (os : List Opening) → Each (λ (o : Opening). o.at < length J) os → Each (HasSpan J) os → Each (HasSpan (record { item = item; refused = refused; lost = lost; answers = given } ∷ J)) os
grows item refused lost given J os l h = Each-both (λ (o : Opening). o.at < length J) (HasSpan J) (HasSpan (record { item = item; refused = refused; lost = lost; answers = given } ∷ J)) os
    (λ o x y. omega (arith, ap length (spans_more J o item refused lost given (omega arith)), length-append (spans_since J o) (own_spans o.trace refused item))) l h

module _ (s : Settings) (room : HasRoom s.num_traces) (J : Journal) (h : Each (HasSpan J) (notes s J).openings) where
  sound : Sound s J (notes s J)
  sound = sound_notes s room J

  old_grow : (item : Item) (refused lost : Bool) (given : List (List Bool)) → Each (HasSpan (record { item = item; refused = refused; lost = lost; answers = given } ∷ J)) (notes s J).openings
  old_grow item refused lost given = grows item refused lost given J (notes s J).openings sound.below h

  found_grow : (a : Arrival) (ids : Ids) (lost : Bool) (given : List (List Bool)) → a.rec.span.ids ≡ Some ids
      → Each (HasSpan (record { item = Span a; refused = false; lost = lost; answers = given } ∷ J)) (after_finding s ids.trace lost (length J) (clock (record { item = Span a; refused = false; lost = lost; answers = given } ∷ J)) (notes s J) (finding s (notes s J) ids.trace)).openings
  found_grow a ids lost given has = go (meeting s J (notes s J) ids.trace sound)
    where
      old : Each (HasSpan (record { item = Span a; refused = false; lost = lost; answers = given } ∷ J)) (notes s J).openings
      old = old_grow (Span a) false lost given

      new : Opening
      new = record { at = length J; trace = ids.trace; moment = clock (record { item = Span a; refused = false; lost = lost; answers = given } ∷ J) }

      go : Meeting s (notes s J) ids.trace → Each (HasSpan (record { item = Span a; refused = false; lost = lost; answers = given } ∷ J)) (after_finding s ids.trace lost (length J) (clock (record { item = Span a; refused = false; lost = lost; answers = given } ∷ J)) (notes s J) (finding s (notes s J) ids.trace)).openings
      go (it_joins o newer older e same d l n f fi) = rw fi old
      go (it_meets o v l d f fi) = rw fi old
      go (it_opens f fi) = rw fi ((omega (arith, ap length (one_more s room J (notes s J) sound a ids has lost given new (omega arith) (same_trace-refl ids.trace)), length-append (spans_since J new) (a ∷ [])), old))

  item_grow : (item : Item) (refused lost : Bool) (given : List (List Bool)) → Each (HasSpan (record { item = item; refused = refused; lost = lost; answers = given } ∷ J)) (after_item s (record { item = item; refused = refused; lost = lost; answers = given }) J item (notes s J)).openings
  item_grow (Tick m) refused lost given = old_grow (Tick m) refused lost given
  item_grow (End i) refused lost given = old_grow (End i) refused lost given
  item_grow (Span a) refused lost given = go a.rec.span.ids refl
    where
      marked : (ids : Ids) → a.rec.span.ids ≡ Some ids → (refused : Bool) → Each (HasSpan (record { item = Span a; refused = refused; lost = lost; answers = given } ∷ J)) (after_span s (Some ids) (record { item = Span a; refused = refused; lost = lost; answers = given }) J (notes s J)).openings
      marked ids e true = old_grow (Span a) true lost given
      marked ids e false = found_grow a ids lost given e

      go : (ids : Option Ids) → a.rec.span.ids ≡ ids → Each (HasSpan (record { item = Span a; refused = refused; lost = lost; answers = given } ∷ J)) (after_span s ids (record { item = Span a; refused = refused; lost = lost; answers = given }) J (notes s J)).openings
      go None e = old_grow (Span a) refused lost given
      go (Some ids) e = marked ids e refused

pub have_spans : (s : Settings) → HasRoom s.num_traces → (J : Journal) → Each (HasSpan J) (notes s J).openings
unfolding notes
have_spans s room [] = tt
have_spans s room (e ∷ J) = item_grow s room J (have_spans s room J) e.item e.refused e.lost e.answers

decided_spans : (s : Settings) → HasRoom s.num_traces → (J : Journal) (dealt : ℕ) (d : Decision) → slice_get (decisions_now s J) dealt ≡ Some d → 0 < length d.spans
decided_spans s room [] dealt d is = absurd (cc is)
decided_spans s room (e ∷ J) dealt d is = omega (arith, ap length turn.spans, Each-split (HasSpan (e ∷ J)) d.opening (due_at s e J e.item noted) turn.within all)
  where
    noted : Notes
    noted = after_item s e J e.item (notes s J)

    turn : InTurn s (e ∷ J) (due_at s e J e.item noted) e.answers dealt d
    turn = in_turn s (e ∷ J) (due_at s e J e.item noted) e.answers dealt d (Pairs-due IsEarlier s e J e.item noted (undecided_ascend s (e ∷ J) noted (sound_item s room J e.item e (notes s J) (sound_notes s room J)))) is

    all : Each (HasSpan (e ∷ J)) (due_at s e J e.item noted)
    all = Each-due (HasSpan (e ∷ J)) s e J e.item noted (Each-undecided (HasSpan (e ∷ J)) s noted (Each-buffer (HasSpan (e ∷ J)) s noted
        (item_grow s room J (have_spans s room J) e.item e.refused e.lost e.answers)))

-- ---- nothing waits

abbrev Still : HeldKey → Type 0
Still h = is_waiting h.place ≡ false

none_passes : {X : Type 0} (p : X → Bool) (xs : List X) → filter p xs ≡ [] → Each (λ x. p x ≡ false) xs
none_passes p [] e = tt
none_passes p (x ∷ xs) e = go (p x) refl e (none_passes p xs)
  where
    go : (b : Bool) → p x ≡ b → cond b (x ∷ filter p xs) (filter p xs) ≡ [] → (filter p xs ≡ [] → Each (λ x. p x ≡ false) xs) → Each (λ x. p x ≡ false) (x ∷ xs)
    go true q e f = absurd (cc e)
    go false q e f = (q, f e)

empty_at : (place : Place) (spans : List Arrival) → is_waiting place ≡ true → Each Still (held_at place spans) → spans ≡ []
empty_at place [] w h = refl
empty_at place (a ∷ spans) w h = absurd (go (is_waiting place) w h.0)
  where
    go : (b : Bool) → b ≡ true → b ≡ false → ⊥
    go b p q = cc (p, q)

lane_empty : (n : ℕ) (lanes : List CoreLane) (i : ℕ) (l : CoreLane) → slice_get lanes i ≡ Some l → Each Still (held_by_lanes n lanes) → l.unrouted ≡ []
lane_empty n [] i l e h = absurd (cc e)
lane_empty n (x ∷ rest) zero l e h = let k : x ≡ l = cc e in subst (λ (l : CoreLane). l.unrouted ≡ []) k (empty_at (unrouted n) x.unrouted refl (Each-left Still (held_at (unrouted n) x.unrouted) (held_by_lanes (n + 1) rest) h))
lane_empty n (x ∷ rest) (suc i) l e h = lane_empty (n + 1) rest i l e (Each-right Still (held_at (unrouted n) x.unrouted) (held_by_lanes (n + 1) rest) h)

record Idle (s : Settings) (sh : CoreShard) : Type 0 where
  queue : sh.queue ≡ []
  buffer : content s sh.journal (notes_dealt s sh.journal sh.dealt) ≡ []
  unsent : sh.unshipped ≡ []

idle : (s : Settings) (n : ℕ) (sh : CoreShard) → Each Still (held_by_shard s n sh) → Idle s sh
idle s n sh h =
    let front = held_at (queued n) sh.queue ++ held_at (buffered n) (buffered_spans s sh.journal sh.dealt) in
    let k = Each-left Still (held_at (queued n) sh.queue ++ held_at (buffered n) (buffered_spans s sh.journal sh.dealt)) (held_at (unshipped n) sh.unshipped) h in
    record {
      queue = empty_at (queued n) sh.queue refl (Each-left Still (held_at (queued n) sh.queue) (held_at (buffered n) (buffered_spans s sh.journal sh.dealt)) k);
      buffer = sym (content_is s sh.journal (notes_dealt s sh.journal sh.dealt)) ∙ empty_at (buffered n) (buffered_spans s sh.journal sh.dealt) refl (Each-right Still (held_at (queued n) sh.queue) (held_at (buffered n) (buffered_spans s sh.journal sh.dealt)) k);
      unsent = empty_at (unshipped n) sh.unshipped refl (Each-right Still (held_at (queued n) sh.queue ++ held_at (buffered n) (buffered_spans s sh.journal sh.dealt)) (held_at (unshipped n) sh.unshipped) h);
    }

shard_idle : (s : Settings) (n : ℕ) (shards : List CoreShard) (i : ℕ) (sh : CoreShard) → slice_get shards i ≡ Some sh → Each Still (held_by_shards s n shards) → Idle s sh
shard_idle s n [] i sh e h = absurd (cc e)
shard_idle s n (x ∷ rest) zero sh e h = let k : x ≡ sh = cc e in subst (Idle s) k (idle s n x (Each-left Still (held_by_shard s n x) (held_by_shards s (n + 1) rest) h))
shard_idle s n (x ∷ rest) (suc i) sh e h = shard_idle s (n + 1) rest i sh e (Each-right Still (held_by_shard s n x) (held_by_shards s (n + 1) rest) h)

-- ---- a closed world

all_get : {X : Type 0} (p : X → Bool) (xs : List X) (i : ℕ) (x : X) → list_all p xs ≡ true → slice_get xs i ≡ Some x → p x ≡ true
all_get p [] i x h e = absurd (cc e)
all_get p (y ∷ xs) zero x h e = let k : y ≡ x = cc e in subst (λ z. p z ≡ true) k (and_parts (p y) (list_all p xs) h).0
all_get p (y ∷ xs) (suc i) x h e = all_get p xs i x (and_parts (p y) (list_all p xs) h).1 e

ended_below : (J : Journal) (n m : ℕ) → have_ended J n ≡ true → m < n → has_ended J m ≡ true
ended_below J zero m h l = absurd (omega arith)
ended_below J (suc n) m h l = go (m == n) refl (ended_below J n m (and_parts (has_ended J n) (have_ended J n) h).1)
  where
    go : (b : Bool) → (m == n) ≡ b → (m < n → has_ended J m ≡ true) → has_ended J m ≡ true
    go true e f = let q : n ≡ m = sym (eqb-true m n e) in subst (λ i. has_ended J i ≡ true) q (and_parts (has_ended J n) (have_ended J n) h).0
    go false e f = f (omega (arith, eqb-false m n e))

no_middle : {X : Type 0} (front back : List X) (x : X) (xs : List X) → xs ≡ [] → xs ≡ front ++ x ∷ back → ⊥
no_middle [] back x xs e f = cc (e, f)
no_middle (y ∷ front) back x xs e f = cc (e, f)

get_below : {X : Type 0} (xs : List X) (i : ℕ) (x : X) → slice_get xs i ≡ Some x → i < length xs
get_below [] i x e = absurd (cc e)
get_below (y ∷ xs) zero x e = omega arith
get_below (y ∷ xs) (suc i) x e = omega (arith, get_below xs i x e)

module _ (c : CoreConfig) (room : HasRoom c.shard.num_traces) (w : World) (given : AllAnswered (settings c w) w.shards) (closed : IsClosed c w) where
  still : Each Still (held c w)
  still = none_passes (λ (h : HeldKey). is_waiting h.place) (held c w) closed.nothing_waits

  lanes_shards : Each Still (held_by_lanes 0 w.lanes ++ held_by_shards (settings c w) 0 w.shards)
  lanes_shards = Each-left Still _ (held_at exported w.exported) (Each-left Still _ (held_at in_batch w.batch) (Each-left Still _ (flat_map (held_at handed) w.handed) (Each-left Still _ _ still)))

  no_unrouted : (lane : ℕ) (l : CoreLane) → slice_get w.lanes lane ≡ Some l → l.unrouted ≡ []
  no_unrouted lane l g = lane_empty 0 w.lanes lane l g (Each-left Still (held_by_lanes 0 w.lanes) (held_by_shards (settings c w) 0 w.shards) lanes_shards)

  at_shard : (shard : ℕ) (sh : CoreShard) → slice_get w.shards shard ≡ Some sh → Idle (settings c w) sh
  at_shard shard sh g = shard_idle (settings c w) 0 w.shards shard sh g (Each-right Still (held_by_lanes 0 w.lanes) (held_by_shards (settings c w) 0 w.shards) lanes_shards)

  no_exported : w.exported ≡ []
  no_exported = empty_at exported w.exported refl (Each-right Still (held_by_lanes 0 w.lanes ++ held_by_shards (settings c w) 0 w.shards) (held_at exported w.exported) (Each-left Still _ (held_at in_batch w.batch) (Each-left Still _ (flat_map (held_at handed) w.handed) (Each-left Still _ _ still))))

  no_batch : w.batch ≡ []
  no_batch = empty_at in_batch w.batch refl (Each-right Still (held_by_lanes 0 w.lanes ++ held_by_shards (settings c w) 0 w.shards ++ held_at exported w.exported) (held_at in_batch w.batch) (Each-left Still _ (flat_map (held_at handed) w.handed) (Each-left Still _ _ still)))

  lane_ended : (lane : ℕ) (l : CoreLane) → slice_get w.lanes lane ≡ Some l → l.ended ≡ true
  lane_ended lane l g = all_get (λ (l : CoreLane). l.ended) w.lanes lane l closed.lanes_ended g

  sender_ended : (shard : ℕ) (sh : CoreShard) (sender : ℕ) → slice_get w.shards shard ≡ Some sh → sender < length w.lanes + 1 → has_ended sh.journal sender ≡ true
  sender_ended shard sh sender g l = ended_below sh.journal (length w.lanes + 1) sender (all_get (λ (sh : CoreShard). have_ended sh.journal (settings c w).senders) w.shards shard sh closed.ends_taken g) l

  both : (b : Bool) → b ≡ true → b ≡ false → ⊥
  both b p q = cc (p, q)

  is_sender : (shard : ℕ) (sh : CoreShard) (sender : ℕ) (l : Option CoreLane) → slice_get w.lanes sender ≡ l → sender_is_done w shard sh sender l ≡ true → sender < length w.lanes + 1
  is_sender shard sh sender None g e = omega (arith, eqb-true sender (length w.lanes) e)
  is_sender shard sh sender (Some l) g e = omega (arith, get_below w.lanes sender l g)

  -- no span is left to be routed
  none_next : (lane shard : ℕ) (l : CoreLane) → slice_get w.lanes lane ≡ Some l → (n : Arrival × List Arrival) → next_for w l shard ≡ Some n → ⊥
  none_next lane shard l at n is =
      let t = taken (goes_to (length w.shards) shard) l.unrouted n is in
      no_middle t.front t.back n.0 l.unrouted (no_unrouted lane l at) t.was

  -- no other step is enabled
  not_enabled : (s : Step) (next : World) → step c w s ≡ Some next → (s ≡ fail) × (next.handed ≡ w.handed) × (next.counted ≡ w.counted)
  not_enabled (receive lane ordinal moment records) next e =
      let k = and_then_some _ (slice_get w.lanes lane) next e in
      let m = some_unless k.0.ended _ next k.2 in
      absurd (both k.0.ended (lane_ended lane k.0 k.1) m.0)
  not_enabled (route lane shard) next e =
      let k = and_then_some _ (slice_get w.lanes lane) next e in
      let m = and_then_some _ (slice_get w.shards shard) next k.2 in
      let n = map_some _ (next_for w k.0 shard) next m.2 in
      absurd (none_next lane shard k.0 k.1 n.0 n.1)
  not_enabled (refuse lane shard) next e =
      let k = and_then_some _ (slice_get w.lanes lane) next e in
      let m = and_then_some _ (slice_get w.shards shard) next k.2 in
      let n = map_some _ (next_for w k.0 shard) next m.2 in
      absurd (none_next lane shard k.0 k.1 n.0 n.1)
  not_enabled (take_step shard refused lost) next e =
      let k = and_then_some _ (slice_get w.shards shard) next e in
      let f : take_on c w shard refused lost k.0 [] ≡ Some next = subst (λ (q : List Arrival). take_on c w shard refused lost k.0 q ≡ Some next) (at_shard shard k.0 k.1).queue k.2 in
      absurd (cc f)
  not_enabled (tick shard moment) next e =
      let k = and_then_some _ (slice_get w.shards shard) next e in
      let m = some_if (not (has_due (settings c w) k.0) && not (has_ended k.0.journal (ticker w))) _ next k.2 in
      let b = and_parts (not (has_due (settings c w) k.0)) (not (has_ended k.0.journal (ticker w))) m.0 in
      absurd (both (has_ended k.0.journal (ticker w)) (sender_ended shard k.0 (ticker w) k.1 (omega arith)) (not-true (has_ended k.0.journal (ticker w)) b.1))
  not_enabled (close lane) next e =
      let k = and_then_some _ (slice_get w.lanes lane) next e in
      let m = some_unless k.0.ended _ next k.2 in
      absurd (both k.0.ended (lane_ended lane k.0 k.1) m.0)
  not_enabled (end shard sender) next e =
      let k = and_then_some _ (slice_get w.shards shard) next e in
      let m = some_if _ _ next k.2 in
      let b = and_parts _ (sender_is_done w shard k.0 sender (slice_get w.lanes sender)) m.0 in
      let d = and_parts (not (has_due (settings c w) k.0)) (not (has_ended k.0.journal sender)) b.0 in
      absurd (both (has_ended k.0.journal sender) (sender_ended shard k.0 sender k.1 (is_sender shard k.0 sender (slice_get w.lanes sender) refl b.1)) (not-true (has_ended k.0.journal sender) d.1))
  not_enabled (decide shard answers) next e =
      let s = settings c w in
      let k = and_then_some _ (slice_get w.shards shard) next e in
      let m = map_some _ (effect_answered_at s k.0.journal k.0.dealt answers) next k.2 in
      let n = and_then_some (effect_answered s k.0.journal answers) (slice_get (due_now s k.0.journal) k.0.dealt) m.0 m.1 in
      let up = given shard k.0 k.1 in
      let J = answered k.0.journal answers in
      let there = next_there s room k.0.journal k.0.dealt answers n.0 n.1 up in
      let d = dealt_with s room J k.0.dealt (decision s k.0.journal n.0 answers) there in
      let same = ap length (content_same s room k.0.journal k.0.dealt answers n.0 n.1 up) in
      let z : length (content s k.0.journal (notes_dealt s k.0.journal k.0.dealt)) ≡ 0 = ap length (at_shard shard k.0 k.1).buffer in
      absurd (omega (arith, ap length d.was, same, length-append d.older (spans_since k.0.journal n.0 ++ d.newer), length-append (spans_since k.0.journal n.0) d.newer, z, decided_spans s room J k.0.dealt (decision s k.0.journal n.0 answers) there))
  not_enabled (ship shard) next e =
      let k = and_then_some _ (slice_get w.shards shard) next e in
      let f : ship_on w shard k.0 [] ≡ Some next = subst (λ (q : List Arrival). ship_on w shard k.0 q ≡ Some next) (at_shard shard k.0 k.1).unsent k.2 in
      absurd (cc f)
  not_enabled pull next e = let f : pull_from c w [] ≡ Some next = subst (λ (q : List Arrival). pull_from c w q ≡ Some next) no_exported e in absurd (cc f)
  not_enabled hand next e =
      let m = some_unless (is_empty w.batch || w.down) _ next e in
      absurd (both (is_empty w.batch) (ap is_empty no_batch) (or_both (is_empty w.batch) w.down m.0).0)
  not_enabled fail next e = let m = some_unless w.down _ next e in (refl, ap (λ (w : World). w.handed) (sym m.1), ap (λ (w : World). w.counted) (sym m.1))
  not_enabled (drop_batch reason) next e =
      let m = some_unless (is_empty w.batch || not (drop_batch_applies c w reason)) _ next e in
      absurd (both (is_empty w.batch) (ap is_empty no_batch) (or_both (is_empty w.batch) (not (drop_batch_applies c w reason)) m.0).0)

pub nothing_after_close : OfEachRun NothingAfterClose
nothing_after_close = of_each_answered (λ c w. Unit {0}) NothingAfterClose (λ c room lanes shards. tt) (λ c room w next st h. tt) (λ c room w h given closed s next f. not_enabled c room w given closed s next f)
