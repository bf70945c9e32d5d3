-- Spans of one connection and trace are handed over in received order.
-- For the contract of `in_received_order`.
use Rattle.std.proofs.Common.{◌≡◌, ℕ, zero, suc, ◌+◌, ◌<◌, ◌≤◌, Bool, true, false, cond, ◌&&◌, ◌==◌, nat_lt, List, [], ◌∷◌, ◌++◌, length, filter, flat_map, replicate, slice_get, count_by, Some, refl, ap, sym, subst, ◌∙◌, arith, append_assoc, eqb-true, ltb-true}
use Rattle.std.proofs.lemmas.List.{append-nil}
use Rattle.std.proofs.lemmas.Bool.{and_parts}
use Rattle.std.proofs.Math.Numerals.{add-one}
use Rattle.span_ids.proofs.SameTraces.{same_trace-refl}
use Rattle.otlp_types.specs.declared.arrival.Record.{Record}
use Rattle.journal_theory.specs.Journal.{Settings, ids_have_trace, notes, notes_dealt}
use Rattle.journal_theory.specs.Fate.{Effect, effect_of_decision, effect_of_span}
use Rattle.span_ids.specs.declared.keys.ArrivalKey.{ArrivalKey}
use Rattle.span_ids.specs.declared.keys.ConnKey.{ConnKey}
use Rattle.otlp_types.specs.declared.arrival.Arrival.{Arrival}
use Rattle.otlp_types.specs.declared.arrival.Item.TheVariants.{Span, Tick, End}
use Rattle.world_theory.specs.World.{CoreConfig, CoreLane, CoreShard, World, new_world, new_lane, new_shard, settings, has_due, same_key, is_same_conn}
use Rattle.world_theory.specs.Step.{is_of_conn, arrivals, has_ids}
use Rattle.world_theory.specs.Headline.{ComesFirst, have_same_trace, handed_spans, InReceivedOrder, OfEachRun}
use Rattle.journal_theory.proofs.Notes.{HasRoom}
use Rattle.journal_theory.proofs.ListFacts.{Each, Each-weaker, Each-filter, Pairs, Pairs-left, Pairs-filter, AllPairs-from, total, length-slice_set, flat_map-append'}
use Rattle.journal_theory.proofs.Sound.{last_of_nil}
use Rattle.world_theory.proofs.Content.{content, took_span as span_taken, stays_by_tick, stays_by_end, all_dealt}
use Rattle.world_theory.proofs.Answered.{content_same}
use Rattle.journal_theory.specs.Journal.{answered}
use Rattle.world_theory.proofs.Dealing.{dealt_with}
use Rattle.world_theory.proofs.Single.{key_self, total-at}
use Rattle.world_theory.proofs.Steps.{Stepped, received_by, routed, refused_by, took_span, took_tick, closed_by, took_end, answered_by, decided_one, shipped, pulled, handed_over, failed, batch_dropped}
use Rattle.world_theory.proofs.Balance.{occ, occ-append, weigh, amount, same_settings, has_valid}
use Rattle.world_theory.proofs.Received.{on_conn, count_is, AllNumbered, none_below, own_lane}
use Rattle.world_theory.proofs.OnePlace.{of_each_run, Accounted, accounted_new, accounted_step}
use Rattle.world_theory.proofs.Keeps.{Keeps, keeps_same, keeps_then, keeps_after, keeps_back, Across-both}
use Rattle.world_theory.proofs.Lined.{line_of, line_taken, line_dealt, line, IsOnLane, Lined, back_keeps, line_keeps, lane_keeps, lane_grows, ships, routes_one}

-- ---- what is on its way has a number below the next

abbrev IsKnown : ℕ → List Arrival → Arrival → Type 0
IsKnown lane received a = a.key.conn.lane ≡ lane → a.key.number < on_conn a.key.conn received

known_at : (k : ArrivalKey) (n : ℕ) (lanes : List CoreLane) (i : ℕ) (l : CoreLane) → slice_get lanes i ≡ Some l → AllNumbered n lanes → k.conn.lane ≡ n + i → 0 < total (λ (l : CoreLane). occ k l.received) lanes → k.number < on_conn k.conn l.received
known_at k n [] i l e h q p = absurd (cc e)
known_at k n (x ∷ rest) zero l e h q p =
    let j : x ≡ l = cc e in
    let z = none_below k (suc n) rest h.1 (omega arith) in
    subst (λ (l : CoreLane). k.number < on_conn k.conn l.received) j (go ((k.conn.lane == n) && nat_lt k.number (on_conn k.conn x.received)) refl (h.0 k) (omega (arith, z)))
  where
    go : (b : Bool) → ((k.conn.lane == n) && nat_lt k.number (on_conn k.conn x.received)) ≡ b → occ k x.received ≡ cond b 1 0 → 0 < occ k x.received → k.number < on_conn k.conn x.received
    go true e f g = ltb-true k.number (on_conn k.conn x.received) (and_parts (k.conn.lane == n) (nat_lt k.number (on_conn k.conn x.received)) e).1
    go false e f g = absurd (omega arith)
known_at k n (x ∷ rest) (suc i) l e h q p = known_at k (suc n) rest i l e h.1 (omega arith) (omega (arith, own_lane n x.received k h.0 (λ r. omega arith)))

occurs : (xs : List Arrival) → Each (λ (a : Arrival). 0 < occ a.key xs) xs
occurs [] = tt
occurs (x ∷ xs) =
    let q : cond {A = ℕ} (same_key x.key x.key) 1 0 ≡ 1 = ap (λ (b : Bool). cond {A = ℕ} b 1 0) (key_self x.key) in
    (omega (arith, q), Each-weaker (λ (a : Arrival). 0 < occ a.key xs) (λ (a : Arrival). 0 < occ a.key (x ∷ xs)) xs (λ a p. omega arith) (occurs xs))

abbrev pub behind : World → List Arrival
behind w = flat_map (λ (b : List Arrival). b) w.handed ++ (w.batch ++ w.exported)

module _ (c : CoreConfig) (w : World) (acc : Accounted c w) (lane : ℕ) (l : CoreLane) (g : slice_get w.lanes lane ≡ Some l) where
  known : (spans : List Arrival) → ((k : ArrivalKey) → occ k spans ≤ amount k (settings c w) w) → Each (IsKnown lane l.received) spans
  known spans f = Each-weaker (λ (a : Arrival). 0 < occ a.key spans) (IsKnown lane l.received) spans
      (λ a p q. known_at a.key 0 w.lanes lane l g acc.numbered (omega arith) (omega (arith, f a.key, acc.balanced a.key))) (occurs spans)

  known_behind : Each (IsKnown lane l.received) (behind w)
  known_behind = known (behind w) (λ k. omega (arith, occ-append k (flat_map (λ (b : List Arrival). b) w.handed) (w.batch ++ w.exported), occ-append k w.batch w.exported))

  known_unrouted : Each (IsKnown lane l.received) l.unrouted
  known_unrouted = known l.unrouted (λ k. omega (arith, total-at (λ (l : CoreLane). occ k l.unrouted) w.lanes lane l g))

  known_line : (i : ℕ) (sh : CoreShard) → slice_get w.shards i ≡ Some sh → Each (IsKnown lane l.received) (line (settings c w) sh)
  known_line i sh e = known (line (settings c w) sh) (λ k.
      let s = settings c w in
      omega (arith, occ-append k sh.unshipped (content (settings c w) sh.journal (notes_dealt (settings c w) sh.journal sh.dealt) ++ sh.queue), occ-append k (content (settings c w) sh.journal (notes_dealt (settings c w) sh.journal sh.dealt)) sh.queue, total-at (weigh k (settings c w)) w.shards i sh e))

-- ---- new arrivals

abbrev IsNew : ConnKey → ℕ → Arrival → Type 0
IsNew conn next a = (a.key.conn ≡ conn) × (next ≤ a.key.number)

new_are : (conn : ConnKey) (next least moment : ℕ) (rs : List Record) → least ≤ next → Each (IsNew conn least) (arrivals conn next moment rs)
new_are conn next least moment [] l = tt
new_are conn next least moment (r ∷ rs) l = ((refl, l), new_are conn (next + 1) least moment rs (omega arith))

new_in_order : (conn : ConnKey) (next moment : ℕ) (rs : List Record) → Pairs ComesFirst (arrivals conn next moment rs)
new_in_order conn next moment [] = tt
new_in_order conn next moment (r ∷ rs) =
    let a : Arrival = record { key = record { conn = conn; number = next }; moment = moment; rec = r } in (
      Each-weaker (IsNew conn (next + 1)) (ComesFirst (record { key = record { conn = conn; number = next }; moment = moment; rec = r })) (arrivals conn (next + 1) moment rs) (λ b p q. let z = p.1 in omega arith) (new_are conn (next + 1) (next + 1) moment rs (omega arith)),
      new_in_order conn (next + 1) moment rs,
    )

-- a known span comes before the new ones
before_new : (lane ordinal : ℕ) (received : List Arrival) (x y : Arrival) → IsKnown lane received x → IsNew (record { lane = lane; ordinal = ordinal }) (count_by (is_of_conn (record { lane = lane; ordinal = ordinal })) received) y → ComesFirst x y
before_new lane ordinal received x y k p q =
    let conn : ConnKey = record { lane = lane; ordinal = ordinal } in
    let b = (and_parts (is_same_conn x.key.conn y.key.conn) (have_same_trace x.rec.span.ids y.rec.span.ids) q).0 in
    let e = and_parts (x.key.conn.lane == y.key.conn.lane) (x.key.conn.ordinal == y.key.conn.ordinal) b in
    let el : x.key.conn.lane ≡ lane = eqb-true x.key.conn.lane y.key.conn.lane e.0 ∙ ap (λ (z : ConnKey). z.lane) p.0 in
    let eo : x.key.conn.ordinal ≡ ordinal = eqb-true x.key.conn.ordinal y.key.conn.ordinal e.1 ∙ ap (λ (z : ConnKey). z.ordinal) p.0 in
    let same : x.key.conn ≡ record { lane = lane; ordinal = ordinal } = (λ i. record { lane = el i; ordinal = eo i }) in
    let n : on_conn x.key.conn received ≡ count_by (is_of_conn (record { lane = lane; ordinal = ordinal })) received = ap (λ (z : ConnKey). on_conn z received) same ∙ count_is (record { lane = lane; ordinal = ordinal }) received in
    let m = k el in
    let z = p.1 in
    omega arith

pub behind_pulled : (w : World) (a : Arrival) (rest : List Arrival) → w.exported ≡ a ∷ rest → behind w ≡ flat_map (λ (b : List Arrival). b) w.handed ++ ((w.batch ++ a ∷ []) ++ rest)
behind_pulled w a rest u = ap (λ z. flat_map (λ (b : List Arrival). b) w.handed ++ (w.batch ++ z)) u ∙ ap (λ z. flat_map (λ (b : List Arrival). b) w.handed ++ z) (sym (append_assoc w.batch (a ∷ []) rest))

pub behind_handed : (w : World) → behind w ≡ flat_map (λ (b : List Arrival). b) (w.handed ++ w.batch ∷ []) ++ ([] ++ w.exported)
behind_handed w = sym (ap (λ z. z ++ w.exported) (flat_map-append' (λ (b : List Arrival). b) w.handed (w.batch ∷ [])) ∙ ap (λ z. (flat_map (λ (b : List Arrival). b) w.handed ++ z) ++ w.exported) (append-nil w.batch) ∙ append_assoc (flat_map (λ (b : List Arrival). b) w.handed) w.batch w.exported)

pub replicated : {X : Type 0} (n i : ℕ) (x y : X) → slice_get (replicate n x) i ≡ Some y → x ≡ y
replicated zero i x y e = absurd (cc e)
replicated (suc n) zero x y e = cc e
replicated (suc n) (suc i) x y e = replicated n i x y e

-- ---- a step

pub record Ordered (c : CoreConfig) (w : World) : Type 0 where
  pub accounted : Accounted c w
  pub lined : Lined (settings c w) (length w.shards) (behind w) w.lanes w.shards

module _ (c : CoreConfig) (room : HasRoom c.shard.num_traces) (w : World) (h : Ordered c w) where
  abbrev s : Settings
  s = settings c w

  abbrev n : ℕ
  n = length w.shards

  now_noted : (sh : CoreShard) → has_due s sh ≡ false → line s sh ≡ line_of sh.unshipped (content s sh.journal (notes s sh.journal)) sh.queue
  now_noted sh e = ap (λ z. line_of sh.unshipped (content s sh.journal z) sh.queue) (all_dealt s sh.journal sh.dealt e)

  still_line : (sh : CoreShard) (after : List Arrival) → has_due s sh ≡ false → after ≡ content s sh.journal (notes s sh.journal) → Keeps ComesFirst (line s sh) (line_of (sh.unshipped ++ []) after sh.queue)
  still_line sh after e q = keeps_same ComesFirst (line s sh) (line_of (sh.unshipped ++ []) after sh.queue)
      (now_noted sh e ∙ ap (λ z. line_of sh.unshipped z sh.queue) (sym q) ∙ ap (λ z. line_of z after sh.queue) (sym (append-nil sh.unshipped)))

  lined_step : (next : World) → Stepped c w next → Lined s n (behind next) next.lanes next.shards
  lined_step next (received_by lane ordinal moment records l g p e) = subst (λ (next : World). Lined s n (behind next) next.lanes next.shards) e (
      let conn : ConnKey = record { lane = lane; ordinal = ordinal } in
      let first = count_by (is_of_conn (record { lane = lane; ordinal = ordinal })) l.received in
      let new = arrivals (record { lane = lane; ordinal = ordinal }) first moment records in
      let are = Each-filter (IsNew (record { lane = lane; ordinal = ordinal }) first) has_ids new (new_are (record { lane = lane; ordinal = ordinal }) first first moment records (omega arith)) in
      let after = λ (xs : List Arrival) (k : Each (IsKnown lane l.received) xs). Across-both ComesFirst (IsKnown lane l.received) (IsNew (record { lane = lane; ordinal = ordinal }) first) xs (filter has_ids new) (λ x y a b. before_new lane ordinal l.received x y a b) k are in
      lane_grows s n (behind w) w.lanes w.shards h.lined lane l (record { received = l.received ++ new; unrouted = l.unrouted ++ filter has_ids new; ended = l.ended }) (filter has_ids new) g refl
      (Pairs-filter ComesFirst has_ids new (new_in_order (record { lane = lane; ordinal = ordinal }) first moment records))
      (Each-weaker (IsNew (record { lane = lane; ordinal = ordinal }) first) (IsOnLane lane) (filter has_ids new) (λ a p. ap (λ (z : ConnKey). z.lane) p.0) are)
      (after (behind w) (known_behind c w h.accounted lane l g)) (after l.unrouted (known_unrouted c w h.accounted lane l g)) (λ i sh e. after (line s sh) (known_line c w h.accounted lane l g i sh e)))
  lined_step next (routed lane shard l sh a rest gl gs t e) = subst (λ (next : World). Lined s n (behind next) next.lanes next.shards) e (
      routes_one s n (behind w) w.lanes w.shards h.lined lane shard l (record l { unrouted = rest }) sh (record sh { queue = sh.queue ++ a ∷ [] }) a t.front t.back gl gs t.was t.becomes
      (simp append_assoc) t.passes t.before)
  lined_step next (refused_by lane shard l a rest gl t e) = subst (λ (next : World). Lined s n (behind next) next.lanes next.shards) e (
      lane_keeps s n (behind w) w.lanes w.shards h.lined lane l (record l { unrouted = rest }) gl
      (keeps_then ComesFirst l.unrouted (t.front ++ a ∷ t.back) rest (keeps_same ComesFirst l.unrouted (t.front ++ a ∷ t.back) t.was)
      (keeps_then ComesFirst (t.front ++ a ∷ t.back) (t.front ++ t.back) rest (keeps_after ComesFirst t.front (a ∷ t.back) t.back (keeps_back ComesFirst (a ∷ []) t.back)) (keeps_same ComesFirst (t.front ++ t.back) rest (sym t.becomes)))))
  lined_step next (took_span shard refused lost sh a rest g q d m e) = subst (λ (next : World). Lined s n (behind next) next.lanes next.shards) e (
      let v = has_valid a.key c room w sh.journal refused lost a.rec.span.ids m in
      let did : Effect = effect_of_span s sh.journal refused a a.rec.span.ids in
      let sh' : CoreShard = record { queue = rest; journal = record { item = Span a; refused = refused; lost = lost; answers = [] } ∷ sh.journal; dealt = 0; unshipped = sh.unshipped ++ did.released } in
      line_keeps s n (behind w) w.lanes w.shards h.lined shard sh (record { queue = rest; journal = record { item = Span a; refused = refused; lost = lost; answers = [] } ∷ sh.journal; dealt = 0; unshipped = sh.unshipped ++ did.released }) g
      (keeps_then ComesFirst (line s sh) (line_of sh.unshipped (content s sh.journal (notes s sh.journal)) (a ∷ rest)) (line s sh')
      (keeps_same ComesFirst (line s sh) (line_of sh.unshipped (content s sh.journal (notes s sh.journal)) (a ∷ rest)) (now_noted sh d ∙ ap (λ z. line_of sh.unshipped (content s sh.journal (notes s sh.journal)) z) q))
      (line_taken a v.0.trace sh.unshipped (content s sh.journal (notes s sh.journal)) _ did.released rest did.counted (ap (ids_have_trace v.0.trace) v.1 ∙ same_trace-refl v.0.trace) (span_taken s room sh.journal a v.0 v.1 refused lost))))
  lined_step next (took_tick shard moment sh g d m e) = subst (λ (next : World). Lined s n (behind next) next.lanes next.shards) e (
      line_keeps s n (behind w) w.lanes w.shards h.lined shard sh (record { queue = sh.queue; journal = record { item = Tick moment; refused = false; lost = false; answers = [] } ∷ sh.journal; dealt = 0; unshipped = sh.unshipped ++ [] }) g
      (still_line sh _ d (stays_by_tick s room sh.journal moment)))
  lined_step next (closed_by lane l g p e) = subst (λ (next : World). Lined s n (behind next) next.lanes next.shards) e (
      lane_keeps s n (behind w) w.lanes w.shards h.lined lane l (record l { ended = true }) g (keeps_same ComesFirst l.unrouted l.unrouted refl))
  lined_step next (took_end shard sender sh g d m p e) = subst (λ (next : World). Lined s n (behind next) next.lanes next.shards) e (
      line_keeps s n (behind w) w.lanes w.shards h.lined shard sh (record { queue = sh.queue; journal = record { item = End sender; refused = false; lost = false; answers = [] } ∷ sh.journal; dealt = 0; unshipped = sh.unshipped ++ [] }) g
      (still_line sh _ d (stays_by_end s room sh.journal sender)))
  lined_step next (answered_by shard sh answers o g d i e) = subst (λ (next : World). Lined s n (behind next) next.lanes next.shards) e (
      let sh' : CoreShard = record sh { journal = answered sh.journal answers } in
      line_keeps s n (behind w) w.lanes w.shards h.lined shard sh (record sh { journal = answered sh.journal answers }) g
      (keeps_same ComesFirst (line s sh) (line s sh') (ap (λ z. line_of sh.unshipped z sh.queue) (sym (content_same s room sh.journal sh.dealt answers o d i)))))
  lined_step next (decided_one shard sh d g i e) = subst (λ (next : World). Lined s n (behind next) next.lanes next.shards) e (
      let after = content s sh.journal (notes_dealt s sh.journal (suc sh.dealt)) in
      let sent = sh.unshipped ++ (effect_of_decision d).released in
      line_keeps s n (behind w) w.lanes w.shards h.lined shard sh (record sh { dealt = sh.dealt + 1; unshipped = sh.unshipped ++ (effect_of_decision d).released }) g
      (keeps_then ComesFirst (line s sh) (line_of sent after sh.queue) (line_of sent (content s sh.journal (notes_dealt s sh.journal (sh.dealt + 1))) sh.queue)
      (line_dealt d sh.unshipped (content s sh.journal (notes_dealt s sh.journal sh.dealt)) after sh.queue (dealt_with s room sh.journal sh.dealt d i))
      (keeps_same ComesFirst (line_of sent after sh.queue) (line_of sent (content s sh.journal (notes_dealt s sh.journal (sh.dealt + 1))) sh.queue) (ap (λ z. line_of sent (content s sh.journal (notes_dealt s sh.journal z)) sh.queue) (sym (add-one sh.dealt))))))
  lined_step next (shipped shard sh a rest g u e) = subst (λ (next : World). Lined s n (behind next) next.lanes next.shards) e (
      ships s n (behind w) w.lanes w.shards h.lined shard sh (record sh { unshipped = rest }) a _ g (ap (λ z. line_of z (content s sh.journal (notes_dealt s sh.journal sh.dealt)) sh.queue) u) (simp append_assoc))
  lined_step next (pulled a rest u e) = subst (λ (next : World). Lined s n (behind next) next.lanes next.shards) e (
      back_keeps s n (behind w) w.lanes w.shards h.lined (flat_map (λ (b : List Arrival). b) w.handed ++ ((w.batch ++ a ∷ []) ++ rest)) (keeps_same ComesFirst (behind w) (flat_map (λ (b : List Arrival). b) w.handed ++ ((w.batch ++ a ∷ []) ++ rest))
      (behind_pulled w a rest u)))
  lined_step next (handed_over b d e) = subst (λ (next : World). Lined s n (behind next) next.lanes next.shards) e (
      back_keeps s n (behind w) w.lanes w.shards h.lined (flat_map (λ (b : List Arrival). b) (w.handed ++ w.batch ∷ []) ++ ([] ++ w.exported)) (keeps_same ComesFirst (behind w) (flat_map (λ (b : List Arrival). b) (w.handed ++ w.batch ∷ []) ++ ([] ++ w.exported))
      (behind_handed w)))
  lined_step next (failed d e) = subst (λ (next : World). Lined s n (behind next) next.lanes next.shards) e h.lined
  lined_step next (batch_dropped r b a e) = subst (λ (next : World). Lined s n (behind next) next.lanes next.shards) e (
      back_keeps s n (behind w) w.lanes w.shards h.lined (flat_map (λ (b : List Arrival). b) w.handed ++ ([] ++ w.exported)) (keeps_after ComesFirst (flat_map (λ (b : List Arrival). b) w.handed) (w.batch ++ w.exported) w.exported (keeps_back ComesFirst w.batch w.exported)))

-- the number of shards stays
pub same_shards : (c : CoreConfig) (w next : World) → Stepped c w next → length next.shards ≡ length w.shards
same_shards c w next (received_by lane ordinal moment records l g n e) = ap (λ (w : World). length w.shards) (sym e)
same_shards c w next (routed lane shard l sh a rest g m t e) = ap (λ (w : World). length w.shards) (sym e) ∙ length-slice_set w.shards shard _
same_shards c w next (refused_by lane shard l a rest g t e) = ap (λ (w : World). length w.shards) (sym e)
same_shards c w next (took_span shard refused lost sh a rest g q n m e) = ap (λ (w : World). length w.shards) (sym e) ∙ length-slice_set w.shards shard _
same_shards c w next (took_tick shard moment sh g n m e) = ap (λ (w : World). length w.shards) (sym e) ∙ length-slice_set w.shards shard _
same_shards c w next (closed_by lane l g n e) = ap (λ (w : World). length w.shards) (sym e)
same_shards c w next (took_end shard sender sh g n m d e) = ap (λ (w : World). length w.shards) (sym e) ∙ length-slice_set w.shards shard _
same_shards c w next (answered_by shard sh answers o g d i e) = ap (λ (w : World). length w.shards) (sym e) ∙ length-slice_set w.shards shard _
same_shards c w next (decided_one shard sh d g i e) = ap (λ (w : World). length w.shards) (sym e) ∙ length-slice_set w.shards shard _
same_shards c w next (shipped shard sh a rest g u e) = ap (λ (w : World). length w.shards) (sym e) ∙ length-slice_set w.shards shard _
same_shards c w next (pulled a rest u e) = ap (λ (w : World). length w.shards) (sym e)
same_shards c w next (handed_over b d e) = ap (λ (w : World). length w.shards) (sym e)
same_shards c w next (failed d e) = ap (λ (w : World). length w.shards) (sym e)
same_shards c w next (batch_dropped r b a e) = ap (λ (w : World). length w.shards) (sym e)

pub ordered_step : (c : CoreConfig) → HasRoom c.shard.num_traces → (w next : World) → Stepped c w next → Ordered c w → Ordered c next
ordered_step c room w next st h = record {
  accounted = accounted_step c room w next st h.accounted;
  lined = subst (λ (s : Settings). Lined s (length next.shards) (behind next) next.lanes next.shards) (sym (same_settings c w next st))
      (subst (λ (n : ℕ). Lined (settings c w) n (behind next) next.lanes next.shards) (sym (same_shards c w next st)) (lined_step c room w h next st));
}

pub ordered_new : (c : CoreConfig) → HasRoom c.shard.num_traces → (lanes shards : ℕ) → Ordered c (new_world lanes shards)
ordered_new c room lanes shards = record {
  accounted = accounted_new c room lanes shards;
  lined = record {
    back = tt;
    in_line = λ i sh e. rw (no_line i sh e) tt;
    back_line = λ i sh e. tt;
    routes = λ i sh e. rw (no_line i sh e) tt;
    in_lane = λ j l e. rw (no_lane j l e) tt;
    back_lane = λ j l e. tt;
    own = λ j l e. rw (no_lane j l e) tt;
    between = λ i sh j l e f. rw (no_line i sh e) tt;
  };
}
  where
    no_line : (i : ℕ) (sh : CoreShard) → slice_get (replicate shards new_shard) i ≡ Some sh → line (settings c (new_world lanes shards)) sh ≡ []
    no_line i sh e = let k : new_shard ≡ sh = replicated shards i new_shard sh e in subst (λ (sh : CoreShard). line (settings c (new_world lanes shards)) sh ≡ []) k (rw (last_of_nil c.shard.num_traces) refl)

    no_lane : (j : ℕ) (l : CoreLane) → slice_get (replicate lanes new_lane) j ≡ Some l → l.unrouted ≡ []
    no_lane j l e = let k : new_lane ≡ l = replicated lanes j new_lane l e in subst (λ (l : CoreLane). l.unrouted ≡ []) k refl

pub in_received_order : OfEachRun (λ c w. InReceivedOrder w)
in_received_order = of_each_run Ordered (λ c w. InReceivedOrder w) ordered_new ordered_step gives
  where
    gives : (c : CoreConfig) → HasRoom c.shard.num_traces → (w : World) → Ordered c w → InReceivedOrder w
    gives c room w h = AllPairs-from ComesFirst (handed_spans w) (Pairs-left ComesFirst (handed_spans w) (w.batch ++ w.exported) h.lined.back)
