-- Each step keeps, for each key, how often it stands somewhere beside how often it was received.
-- For the laws of the headline, `headline` and each of its parts.
use Rattle.std.proofs.Common.{◌≡◌, ℕ, suc, ◌+◌, Bool, true, false, not, List, [], ◌∷◌, ◌++◌, length, map, filter, flat_map, count_by, Option, Some, None, refl, ap, ◌∙◌, arith}
use Rattle.std.proofs.Math.Numerals.{add-one}
use Rattle.journal_theory.specs.Journal.{Settings, Journal, Decision, notes, notes_dealt, Entry, answered}
use Rattle.journal_theory.specs.Fate.{DroppedSpan, Effect, counts, effect_of_verdict, effect_of_decision, effect_of_span}
use Rattle.otlp_types.specs.declared.span.Ids.{Ids}
use Rattle.span_ids.specs.declared.ids.TraceId.{TraceId}
use Rattle.span_ids.specs.declared.keys.ArrivalKey.{ArrivalKey}
use Rattle.otlp_types.specs.declared.arrival.Arrival.{Arrival}
use Rattle.otlp_types.specs.declared.arrival.Item.TheVariants.{Span, Tick, End}
use Rattle.span_ids.specs.declared.outcome.Verdict.{Verdict}
use Rattle.span_ids.specs.declared.outcome.Verdict.TheVariants.{Sampled, NotSampled}
use Rattle.span_ids.specs.declared.outcome.Reason.{Reason}
use Rattle.span_ids.specs.declared.outcome.Reason.TheVariants.{InvalidId, QueueFull, Evicted, NotSampled as DecidedAgainst}
use Rattle.world_theory.specs.World.{CoreConfig, CoreLane, CoreShard, World, settings, settings_for, has_due, same_key}
use Rattle.world_theory.specs.Step.{is_of_conn, arrivals, has_ids}
use Rattle.journal_theory.specs.Marked.{marks_apply_to_ids}
use Rattle.world_theory.specs.Places.{HeldKey, unrouted, queued, buffered, unshipped, exported, in_batch, handed, counted_under, held_at, buffered_spans, held_by_lanes, held_by_shard, held_by_shards, held, places}
use Rattle.journal_theory.proofs.Notes.{HasRoom}
use Rattle.journal_theory.proofs.ListFacts.{tally, tally-append, tally-map, tally-flat_map_map, tally-halves, total, total-set, length_filter, length-slice_set, flat_map-append'}
use Rattle.world_theory.proofs.Content.{content, content_is, Taking, kept, late, dropped, took_span as span_taken, stays_by_tick, stays_by_end, all_dealt}
use Rattle.world_theory.proofs.Dealing.{Dealing, dealt_with}
use Rattle.world_theory.proofs.Answered.{content_same}
use Rattle.world_theory.proofs.Steps.{Stepped, received_by, routed, refused_by, took_span, took_tick, closed_by, took_end, answered_by, decided_one, shipped, pulled, handed_over, failed, batch_dropped}

abbrev pub occ : ArrivalKey → List Arrival → ℕ
occ k spans = tally (λ (a : Arrival). same_key a.key k) spans

abbrev pub occ_counted : ArrivalKey → List DroppedSpan → ℕ
occ_counted k counted = tally (λ (n : DroppedSpan). same_key n.key k) counted

abbrev pub weigh : ArrivalKey → Settings → CoreShard → ℕ
weigh k s sh = occ k sh.queue + (occ k (content s sh.journal (notes_dealt s sh.journal sh.dealt)) + occ k sh.unshipped)

-- how often the key stands somewhere
abbrev pub amount : ArrivalKey → Settings → World → ℕ
amount k s w = total (λ (l : CoreLane). occ k l.unrouted) w.lanes + (total (weigh k s) w.shards + (occ k w.exported + (occ k w.batch + (occ k (flat_map (λ (b : List Arrival). b) w.handed) + occ_counted k w.counted))))

-- how often it was received
abbrev pub got : ArrivalKey → World → ℕ
got k w = total (λ (l : CoreLane). occ k l.received) w.lanes

-- ---- the places' count is the amount

module _ (k : ArrivalKey) where
  at_lanes : (n : ℕ) (lanes : List CoreLane) → tally (λ (h : HeldKey). same_key h.key k) (held_by_lanes n lanes) ≡ total (λ (l : CoreLane). occ k l.unrouted) lanes
  at_lanes n [] = refl
  at_lanes n (l ∷ rest) = omega (arith, tally-append (λ (h : HeldKey). same_key h.key k) (held_at (unrouted n) l.unrouted) (held_by_lanes (n + 1) rest), tally-map (λ (h : HeldKey). same_key h.key k) (λ (a : Arrival). record { place = unrouted n; key = a.key }) l.unrouted, at_lanes (n + 1) rest)

  at_shards : (s : Settings) (n : ℕ) (shards : List CoreShard) → tally (λ (h : HeldKey). same_key h.key k) (held_by_shards s n shards) ≡ total (weigh k s) shards
  at_shards s n [] = refl
  at_shards s n (sh ∷ rest) =
      let p : HeldKey → Bool = λ (h : HeldKey). same_key h.key k in
      let q = held_at (queued n) sh.queue in
      let b = held_at (buffered n) (buffered_spans s sh.journal sh.dealt) in
      let u = held_at (unshipped n) sh.unshipped in
      let e1 = tally-append (λ (h : HeldKey). same_key h.key k) (held_by_shard s n sh) (held_by_shards s (n + 1) rest) in
      let e2 : tally (λ (h : HeldKey). same_key h.key k) (held_by_shard s n sh) ≡ tally (λ (h : HeldKey). same_key h.key k) q + (tally (λ (h : HeldKey). same_key h.key k) b + tally (λ (h : HeldKey). same_key h.key k) u) = simp (tally-append) (omega arith) in
      let e3 = tally-map (λ (h : HeldKey). same_key h.key k) (λ (a : Arrival). record { place = queued n; key = a.key }) sh.queue in
      let e4 = tally-map (λ (h : HeldKey). same_key h.key k) (λ (a : Arrival). record { place = buffered n; key = a.key }) (buffered_spans s sh.journal sh.dealt) in
      let e5 = tally-map (λ (h : HeldKey). same_key h.key k) (λ (a : Arrival). record { place = unshipped n; key = a.key }) sh.unshipped in
      let e6 : occ k (buffered_spans s sh.journal sh.dealt) ≡ occ k (content s sh.journal (notes_dealt s sh.journal sh.dealt)) = ap (occ k) (content_is s sh.journal (notes_dealt s sh.journal sh.dealt)) in
      let e7 = at_shards s (n + 1) rest in
      omega (arith, e1, e2, e3, e4, e5, e6, e7)

  pub held_amount : (c : CoreConfig) (w : World) → tally (λ (h : HeldKey). same_key h.key k) (held c w) ≡ amount k (settings c w) w
  held_amount c w =
      let e1 = at_lanes 0 w.lanes in
      let e2 = at_shards (settings c w) 0 w.shards in
      let e3 = tally-map (λ (h : HeldKey). same_key h.key k) (λ (a : Arrival). record { place = exported; key = a.key }) w.exported in
      let e4 = tally-map (λ (h : HeldKey). same_key h.key k) (λ (a : Arrival). record { place = in_batch; key = a.key }) w.batch in
      let e5 = tally-flat_map_map (λ (h : HeldKey). same_key h.key k) (λ (a : Arrival). record { place = handed; key = a.key }) w.handed in
      let e6 = tally-map (λ (h : HeldKey). same_key h.key k) (λ (n : DroppedSpan). record { place = counted_under n.reason; key = n.key }) w.counted in
      simp (tally-append) (omega (arith, e1, e2, e3, e4, e5, e6))

  pub length_places : (c : CoreConfig) (w : World) → length (places c w k) ≡ amount k (settings c w) w
  length_places c w = length_mapped (filter (λ (h : HeldKey). same_key h.key k) (held c w)) ∙ length_filter (λ (h : HeldKey). same_key h.key k) (held c w) ∙ held_amount c w
    where
      length_mapped : (hs : List HeldKey) → length (map (λ (h : HeldKey). h.place) hs) ≡ length hs
      length_mapped [] = refl
      length_mapped (h ∷ hs) = ap suc (length_mapped hs)

  -- ---- what each kind of step does to the counts

  occ_counts : (r : Reason) (spans : List Arrival) → occ_counted k (counts r spans) ≡ occ k spans
  occ_counts r spans = tally-map (λ (n : DroppedSpan). same_key n.key k) (λ (a : Arrival). record { reason = r; key = a.key }) spans

  pub occ-append : (xs ys : List Arrival) → occ k (xs ++ ys) ≡ occ k xs + occ k ys
  occ-append xs ys = tally-append (λ (a : Arrival). same_key a.key k) xs ys

  counted-append : (xs ys : List DroppedSpan) → occ_counted k (xs ++ ys) ≡ occ_counted k xs + occ_counted k ys
  counted-append xs ys = tally-append (λ (n : DroppedSpan). same_key n.key k) xs ys

  taking_balance : {a : Arrival} {t : TraceId} {before after released : List Arrival} {counted : List DroppedSpan} → Taking a t before after released counted
      → occ k after + (occ k released + occ_counted k counted) ≡ occ k before + occ k (a ∷ [])
  taking_balance {a} (kept gone x y b f r n o) = rw (b, f, r, n) (omega (arith, occ_counts Evicted gone, occ-append gone (x ++ y), occ-append x y, occ-append x (a ∷ y)))
  taking_balance {a} (late f r n o) = rw (f, r, n) (omega arith)
  taking_balance {a} (dropped reason f r n) = rw (f, r, n) (omega (arith, occ_counts reason (a ∷ [])))

  dealing_balance : {d : Decision} {before after : List Arrival} → Dealing d before after
      → occ k after + (occ k (effect_of_decision d).released + occ_counted k (effect_of_decision d).counted) ≡ occ k before
  dealing_balance {d} h = rw (h.was, h.becomes) (omega (arith, by_verdict d.verdict, occ-append h.older (d.spans ++ h.newer), occ-append d.spans h.newer, occ-append h.older h.newer))
    where
      by_verdict : (v : Verdict) → occ k (effect_of_verdict DecidedAgainst d.spans v).released + occ_counted k (effect_of_verdict DecidedAgainst d.spans v).counted ≡ occ k d.spans
      by_verdict Sampled = omega arith
      by_verdict NotSampled = omega (arith, occ_counts DecidedAgainst d.spans)

-- ---- a step

-- an item that is no span keeps what the shard weighs
module _ (k : ArrivalKey) (c : CoreConfig) (room : HasRoom c.shard.num_traces) (w : World) where
  abbrev s : Settings
  s = settings c w

  nothing_due : (sh : CoreShard) → has_due s sh ≡ false → notes_dealt s sh.journal sh.dealt ≡ notes s sh.journal
  nothing_due sh e = all_dealt s sh.journal sh.dealt e

  weighs : (sh : CoreShard) → has_due s sh ≡ false → weigh k s sh ≡ occ k sh.queue + (occ k (content s sh.journal (notes s sh.journal)) + occ k sh.unshipped)
  weighs sh e = ap (λ n. occ k sh.queue + (occ k (content s sh.journal n) + occ k sh.unshipped)) (nothing_due sh e)

  queue_is : (sh : CoreShard) (a : Arrival) (rest : List Arrival) → sh.queue ≡ a ∷ rest → occ k sh.queue ≡ occ k (a ∷ []) + occ k rest
  queue_is sh a rest e = ap (occ k) e ∙ omega arith

  pub has_valid : (J : Journal) (refused lost : Bool) (ids : Option Ids) → marks_apply_to_ids s J refused lost ids ≡ true → (i : Ids) × (ids ≡ Some i)
  has_valid J refused lost None e = absurd (cc e)
  has_valid J refused lost (Some i) e = (i, refl)

  pub balance : (next : World) → Stepped c w next → amount k s next + got k w ≡ amount k s w + got k next
  balance next (received_by lane ordinal moment records l g n e) = rw (← e) (
      let new = arrivals (record { lane = lane; ordinal = ordinal }) (count_by (is_of_conn (record { lane = lane; ordinal = ordinal })) l.received) moment records in
      let l' : CoreLane = record { received = l.received ++ new; unrouted = l.unrouted ++ filter has_ids new; ended = l.ended } in
      let u = total-set (λ (l : CoreLane). occ k l.unrouted) w.lanes lane l l' g in
      let r = total-set (λ (l : CoreLane). occ k l.received) w.lanes lane l l' g in
      let h = tally-halves (λ (a : Arrival). same_key a.key k) has_ids new in
      omega (arith, u, r, h, occ-append k l.unrouted (filter has_ids new), occ-append k l.received new, counted-append k w.counted (counts InvalidId (filter (λ (a : Arrival). not (has_ids a)) new)), occ_counts k InvalidId (filter (λ (a : Arrival). not (has_ids a)) new)))
  balance next (routed lane shard l sh a rest g m t e) = rw (← e) (
      let u = total-set (λ (l : CoreLane). occ k l.unrouted) w.lanes lane l (record l { unrouted = rest }) g in
      let r = total-set (λ (l : CoreLane). occ k l.received) w.lanes lane l (record l { unrouted = rest }) g in
      let q = total-set (weigh k s) w.shards shard sh (record sh { queue = sh.queue ++ a ∷ [] }) m in
      let x = ap (occ k) t.was ∙ occ-append k t.front (a ∷ t.back) in
      let y = ap (occ k) t.becomes ∙ occ-append k t.front t.back in
      omega (arith, u, r, q, x, y, occ-append k sh.queue (a ∷ [])))
  balance next (refused_by lane shard l a rest g t e) = rw (← e) (
      let u = total-set (λ (l : CoreLane). occ k l.unrouted) w.lanes lane l (record l { unrouted = rest }) g in
      let r = total-set (λ (l : CoreLane). occ k l.received) w.lanes lane l (record l { unrouted = rest }) g in
      let x = ap (occ k) t.was ∙ occ-append k t.front (a ∷ t.back) in
      let y = ap (occ k) t.becomes ∙ occ-append k t.front t.back in
      omega (arith, u, r, x, y, counted-append k w.counted (counts QueueFull (a ∷ [])), occ_counts k QueueFull (a ∷ [])))
  balance next (took_span shard refused lost sh a rest g q n m e) = rw (← e) (
      let v = has_valid sh.journal refused lost a.rec.span.ids m in
      let entry : Entry = record { item = Span a; refused = refused; lost = lost; answers = [] } in
      let did : Effect = effect_of_span s sh.journal refused a a.rec.span.ids in
      let t = total-set (weigh k s) w.shards shard sh (record { queue = rest; journal = record { item = Span a; refused = refused; lost = lost; answers = [] } ∷ sh.journal; dealt = 0; unshipped = sh.unshipped ++ did.released }) g in
      let b = taking_balance k (span_taken s room sh.journal a v.0 v.1 refused lost) in
      omega (arith, t, b, weighs sh n, queue_is sh a rest q, occ-append k sh.unshipped did.released, counted-append k w.counted did.counted))
  balance next (took_tick shard moment sh g n m e) = rw (← e) (
      let t = total-set (weigh k s) w.shards shard sh (record { queue = sh.queue; journal = record { item = Tick moment; refused = false; lost = false; answers = [] } ∷ sh.journal; dealt = 0; unshipped = sh.unshipped ++ [] }) g in
      omega (arith, t, ap (occ k) (stays_by_tick s room sh.journal moment), weighs sh n, occ-append k sh.unshipped [], counted-append k w.counted []))
  balance next (closed_by lane l g n e) = rw (← e) (
      let u = total-set (λ (l : CoreLane). occ k l.unrouted) w.lanes lane l (record l { ended = true }) g in
      let r = total-set (λ (l : CoreLane). occ k l.received) w.lanes lane l (record l { ended = true }) g in
      omega (arith, u, r))
  balance next (took_end shard sender sh g n m d e) = rw (← e) (
      let t = total-set (weigh k s) w.shards shard sh (record { queue = sh.queue; journal = record { item = End sender; refused = false; lost = false; answers = [] } ∷ sh.journal; dealt = 0; unshipped = sh.unshipped ++ [] }) g in
      omega (arith, t, ap (occ k) (stays_by_end s room sh.journal sender), weighs sh n, occ-append k sh.unshipped [], counted-append k w.counted []))
  balance next (answered_by shard sh answers o g d i e) = rw (← e) (
      let t = total-set (weigh k s) w.shards shard sh (record sh { journal = answered sh.journal answers }) g in
      omega (arith, t, ap (occ k) (content_same s room sh.journal sh.dealt answers o d i)))
  balance next (decided_one shard sh d g i e) = rw (← e) (
      let did = effect_of_decision d in
      let t = total-set (weigh k s) w.shards shard sh (record sh { dealt = sh.dealt + 1; unshipped = sh.unshipped ++ did.released }) g in
      let b = dealing_balance k (dealt_with s room sh.journal sh.dealt d i) in
      let j : occ k (content s sh.journal (notes_dealt s sh.journal (sh.dealt + 1))) ≡ occ k (content s sh.journal (notes_dealt s sh.journal (suc sh.dealt))) = ap (λ n. occ k (content s sh.journal (notes_dealt s sh.journal n))) (add-one sh.dealt) in
      omega (arith, t, b, j, occ-append k sh.unshipped did.released, counted-append k w.counted did.counted))
  balance next (shipped shard sh a rest g u e) = rw (← e) (
      let t = total-set (weigh k s) w.shards shard sh (record sh { unshipped = rest }) g in
      let x : occ k sh.unshipped ≡ occ k (a ∷ []) + occ k rest = ap (occ k) u ∙ omega arith in
      omega (arith, t, x, occ-append k w.exported (a ∷ [])))
  balance next (pulled a rest u e) = rw (← e) (
      let x : occ k w.exported ≡ occ k (a ∷ []) + occ k rest = ap (occ k) u ∙ omega arith in
      omega (arith, x, occ-append k w.batch (a ∷ [])))
  balance next (handed_over b d e) = rw (← e) (
      let x = ap (occ k) (flat_map-append' (λ (b : List Arrival). b) w.handed (w.batch ∷ [])) in
      omega (arith, x, occ-append k (flat_map (λ (b : List Arrival). b) w.handed) (w.batch ++ []), occ-append k w.batch []))
  balance next (failed d e) = rw (← e) refl
  balance next (batch_dropped r b a e) = rw (← e) (omega (arith, counted-append k w.counted (counts r w.batch), occ_counts k r w.batch))

-- the settings stay
pub same_settings : (c : CoreConfig) (w next : World) → Stepped c w next → settings c next ≡ settings c w
same_settings c w next st = ap (λ n. settings_for c (n + 1)) (same_length next st)
  where
    same_length : (next : World) → Stepped c w next → length next.lanes ≡ length w.lanes
    same_length next (received_by lane ordinal moment records l g n e) = rw (← e) (length-slice_set w.lanes lane _)
    same_length next (routed lane shard l sh a rest g m t e) = rw (← e) (length-slice_set w.lanes lane _)
    same_length next (refused_by lane shard l a rest g t e) = rw (← e) (length-slice_set w.lanes lane _)
    same_length next (took_span shard refused lost sh a rest g q n m e) = rw (← e) refl
    same_length next (took_tick shard moment sh g n m e) = rw (← e) refl
    same_length next (closed_by lane l g n e) = rw (← e) (length-slice_set w.lanes lane _)
    same_length next (took_end shard sender sh g n m d e) = rw (← e) refl
    same_length next (answered_by shard sh answers o g d i e) = rw (← e) refl
    same_length next (decided_one shard sh d g i e) = rw (← e) refl
    same_length next (shipped shard sh a rest g u e) = rw (← e) refl
    same_length next (pulled a rest u e) = rw (← e) refl
    same_length next (handed_over b d e) = rw (← e) refl
    same_length next (failed d e) = rw (← e) refl
    same_length next (batch_dropped r b a e) = rw (← e) refl
