-- What is counted has its cause.
-- For the laws of the headline, `headline` and each of its parts.
use Rattle.std.proofs.Common.{◌≡◌, ℕ, suc, ◌+◌, Bool, true, false, cond, not, ◌||◌, ◌||◌, List, [], ◌∷◌, ◌++◌, length, filter, flat_map, slice_get, slice_set, count_by, is_some, Option, Some, None, is_none, option_to_list, IsSome, ◌⊎◌, inl, inr, refl, ap, sym, subst, ◌∙◌, append_assoc}
use Rattle.std.proofs.lemmas.List.{append-nil}
use Rattle.std.proofs.lemmas.Bool.{cases_eq}
use Rattle.std.proofs.Math.Numerals.{add-one}
use Rattle.span_ids.proofs.SameTraces.{same_trace-refl}
use Rattle.journal_theory.specs.Journal.{Settings, Journal, ids_have_trace, Opening, Decision, in_buffer, leaving, decided_as, Finding, joins, meets, opens, finding, spans_since, notes, notes_dealt, decisions_now, Entry}
use Rattle.journal_theory.specs.Fate.{Fate, is_released, is_counted, DroppedSpan, Effect, counts, effect_of_verdict, effect_of_leaving, effect_of_leaving_decided, effect_of_finding, effect_of_span, effect_of_decision}
use Rattle.otlp_types.specs.declared.span.Ids.{Ids}
use Rattle.otlp_types.specs.declared.arrival.Arrival.{Arrival}
use Rattle.otlp_types.specs.declared.arrival.Item.TheVariants.{Span, Tick, End}
use Rattle.span_ids.specs.declared.outcome.Verdict.{Verdict}
use Rattle.span_ids.specs.declared.outcome.Verdict.TheVariants.{Sampled, NotSampled}
use Rattle.span_ids.specs.declared.outcome.Reason.{Reason}
use Rattle.span_ids.specs.declared.outcome.Reason.TheVariants.{InvalidId, QueueFull, NoMemory, Evicted, LateNotSampled, ExporterDown, NotSampled as DecidedAgainst}
use Rattle.span_sink.specs.Manners.{refuses}
use Rattle.world_theory.specs.World.{may_give_up, CoreConfig, CoreLane, CoreShard, World, new_world, new_lane, new_shard, settings, has_due, ids_go_to}
use Rattle.world_theory.specs.Step.{has_ids, arrivals, is_of_conn, drop_batch_applies}
use Rattle.journal_theory.proofs.Notes.{HasRoom, is_open}
use Rattle.journal_theory.proofs.ListFacts.{Each, Each-append, Each-left, Each-right, Each-weaker, Each-both, Each-filter, Each-passes, Split, Split-more, Split-behind, spill, spill-append}
use Rattle.journal_theory.proofs.Sound.{makes_room, last_of_nil}
use Rattle.world_theory.proofs.Content.{content, took_span as span_taken, stays_by_tick, stays_by_end, all_dealt}
use Rattle.world_theory.proofs.Answered.{content_same}
use Rattle.journal_theory.specs.Journal.{due_now, answered, IsAnsweredUpTo}
use Rattle.world_theory.proofs.Dealing.{dealt_with, Split-each}
use Rattle.world_theory.proofs.Steps.{Stepped, received_by, routed, refused_by, took_span, took_tick, closed_by, took_end, answered_by, decided_one, shipped, pulled, handed_over, failed, batch_dropped}
use Rattle.world_theory.proofs.Balance.{same_settings, has_valid}
use Rattle.world_theory.proofs.Lined.{line_of, line_taken, line_dealt, line, at_each}
use Rattle.world_theory.proofs.Order.{behind, behind_pulled, behind_handed, replicated}
use Rattle.world_theory.proofs.Released.{HasReleased, get_set, get_set_other, ReleasingAt}
use Rattle.world_theory.proofs.Settled.{fate_is_answered, FateIs, fate_settles, released_keeps, counted_by_decision, refused_fate, late_fate, evicted_fate}

-- ---- received, and with a fate

pub record IsReceived (lanes : List CoreLane) (b : Arrival) : Type 0 where
  pub lane : ℕ
  pub l : CoreLane
  pub at : slice_get lanes lane ≡ Some l
  pub within : Split b l.received

pub record HasF (s : Settings) (shards : List CoreShard) (b : Arrival) (became : Fate) : Type 0 where
  pub shard : ℕ
  pub sh : CoreShard
  pub at : slice_get shards shard ≡ Some sh
  pub fate : FateIs s sh.journal b became

abbrev pub Cause : Settings → List CoreShard → Bool → Arrival → Reason → Type 0
Cause s shards down b InvalidId = b.rec.span.ids ≡ None
Cause s shards down b QueueFull = IsSome b.rec.span.ids
Cause s shards down b NoMemory = HasF s shards b (is_counted NoMemory) ⊎ HasF s shards b is_released
Cause s shards down b Evicted = HasF s shards b (is_counted Evicted)
Cause s shards down b DecidedAgainst = HasF s shards b (is_counted DecidedAgainst)
Cause s shards down b LateNotSampled = HasF s shards b (is_counted LateNotSampled)
Cause s shards down b ExporterDown = (down ≡ true) × HasF s shards b is_released

pub record Caused (s : Settings) (lanes : List CoreLane) (shards : List CoreShard) (down : Bool) (n : DroppedSpan) : Type 0 where
  pub b : Arrival
  pub same : b.key ≡ n.key
  pub received : IsReceived lanes b
  pub cause : Cause s shards down b n.reason

counts_caused : (s : Settings) (lanes : List CoreLane) (shards : List CoreShard) (down : Bool) (r : Reason) (spans : List Arrival) → Each (λ (b : Arrival). IsReceived lanes b × Cause s shards down b r) spans → Each (Caused s lanes shards down) (counts r spans)
counts_caused s lanes shards down r [] h = tt
counts_caused s lanes shards down r (b ∷ spans) h = (record { b = b; same = refl; received = h.0.0; cause = h.0.1 }, counts_caused s lanes shards down r spans h.1)

received_set : (lanes : List CoreLane) (i : ℕ) (l l' : CoreLane) → slice_get lanes i ≡ Some l → ((b : Arrival) → Split b l.received → Split b l'.received) → (b : Arrival) → IsReceived lanes b → IsReceived (slice_set lanes i l') b
received_set lanes i l l' g f b h = go (cases_eq h.lane i)
  where
    go : (h.lane ≡ i) ⊎ (h.lane ≡ i → ⊥) → IsReceived (slice_set lanes i l') b
    go (inl e) = let q : Some h.l ≡ Some l = sym h.at ∙ ap (slice_get lanes) e ∙ g in let j : h.l ≡ l = cc q in
        record { lane = i; l = l'; at = get_set lanes i l l' g; within = f b (subst (λ (l : CoreLane). Split b l.received) j h.within) }
    go (inr d) = record { lane = h.lane; l = h.l; at = get_set_other lanes i h.lane l' d ∙ h.at; within = h.within }

hasf_set : (s : Settings) (shards : List CoreShard) (i : ℕ) (sh sh' : CoreShard) (became : Fate) → slice_get shards i ≡ Some sh → (b : Arrival) → (FateIs s sh.journal b became → FateIs s sh'.journal b became) → HasF s shards b became → HasF s (slice_set shards i sh') b became
hasf_set s shards i sh sh' became g b f h = go (cases_eq h.shard i)
  where
    go : (h.shard ≡ i) ⊎ (h.shard ≡ i → ⊥) → HasF s (slice_set shards i sh') b became
    go (inl e) = let q : Some h.sh ≡ Some sh = sym h.at ∙ ap (slice_get shards) e ∙ g in let j : h.sh ≡ sh = cc q in
        record { shard = i; sh = sh'; at = get_set shards i sh sh' g; fate = f (subst (λ (sh : CoreShard). FateIs s sh.journal b became) j h.fate) }
    go (inr d) = record { shard = h.shard; sh = h.sh; at = get_set_other shards i h.shard sh' d ∙ h.at; fate = h.fate }

-- a journal that keeps what is settled
record Settles (s : Settings) (J J' : Journal) : Type 0 where
  counted : (a : Arrival) (r : Reason) → FateIs s J a (is_counted r) → FateIs s J' a (is_counted r)
  released : (a : Arrival) → FateIs s J a is_released → FateIs s J' a is_released

cause_set : (s : Settings) (shards : List CoreShard) (down : Bool) (i : ℕ) (sh sh' : CoreShard) → slice_get shards i ≡ Some sh → Settles s sh.journal sh'.journal → (b : Arrival) (r : Reason) → Cause s shards down b r → Cause s (slice_set shards i sh') down b r
cause_set s shards down i sh sh' g f b InvalidId h = h
cause_set s shards down i sh sh' g f b QueueFull h = h
cause_set s shards down i sh sh' g f b NoMemory (inl h) = inl (hasf_set s shards i sh sh' (is_counted NoMemory) g b (f.counted b NoMemory) h)
cause_set s shards down i sh sh' g f b NoMemory (inr h) = inr (hasf_set s shards i sh sh' is_released g b (f.released b) h)
cause_set s shards down i sh sh' g f b Evicted h = hasf_set s shards i sh sh' (is_counted Evicted) g b (f.counted b Evicted) h
cause_set s shards down i sh sh' g f b DecidedAgainst h = hasf_set s shards i sh sh' (is_counted DecidedAgainst) g b (f.counted b DecidedAgainst) h
cause_set s shards down i sh sh' g f b LateNotSampled h = hasf_set s shards i sh sh' (is_counted LateNotSampled) g b (f.counted b LateNotSampled) h
cause_set s shards down i sh sh' g f b ExporterDown h = (h.0, hasf_set s shards i sh sh' is_released g b (f.released b) h.1)

or_true : (b : Bool) → b || true ≡ true
or_true true = refl
or_true false = refl

cause_down : (s : Settings) (shards : List CoreShard) (down later : Bool) → later ≡ true → (b : Arrival) (r : Reason) → Cause s shards down b r → Cause s shards later b r
cause_down s shards down later e b InvalidId h = h
cause_down s shards down later e b QueueFull h = h
cause_down s shards down later e b NoMemory h = h
cause_down s shards down later e b Evicted h = h
cause_down s shards down later e b DecidedAgainst h = h
cause_down s shards down later e b LateNotSampled h = h
cause_down s shards down later e b ExporterDown h = (e, h.1)

settles_same : (s : Settings) (J : Journal) → Settles s J J
settles_same s J = record { counted = λ a r h. h; released = λ a h. h }

settles_answered : (s : Settings) → HasRoom s.num_traces → (J : Journal) (k : ℕ) (answers : List Bool) (o : Opening) → slice_get (due_now s J) k ≡ Some o → IsAnsweredUpTo s J k → Settles s J (answered J answers)
settles_answered s room J k answers o d i = record { counted = λ a r h. fate_is_answered s room J k answers o d i a (is_counted r) (inr (r, refl)) h; released = λ a h. fate_is_answered s room J k answers o d i a is_released (inl refl) h }

settles_more : (s : Settings) → HasRoom s.num_traces → (J : Journal) (e : Entry) → Settles s J (e ∷ J)
settles_more s room J e = record { counted = λ a r h. fate_settles s room J e a r h; released = λ a h. released_keeps s room J e a h }

-- ---- the invariant

pub record Sourced (s : Settings) (lanes : List CoreLane) (shards : List CoreShard) (past : List Arrival) (counted : List DroppedSpan) (down : Bool) : Type 0 where
  pub unrouted : (j : ℕ) (l : CoreLane) → slice_get lanes j ≡ Some l → Each (IsReceived lanes) l.unrouted
  pub lines : (i : ℕ) (sh : CoreShard) → slice_get shards i ≡ Some sh → Each (IsReceived lanes) (line s sh)
  pub gone : Each (IsReceived lanes) past
  pub caused : Each (Caused s lanes shards down) counted

module _ (s : Settings) (lanes : List CoreLane) (shards : List CoreShard) (past : List Arrival) (counted : List DroppedSpan) (down : Bool) (h : Sourced s lanes shards past counted down) where
  -- a lane's part changes
  lane_set : (j : ℕ) (l l' : CoreLane) → slice_get lanes j ≡ Some l → ((b : Arrival) → Split b l.received → Split b l'.received) → Each (IsReceived (slice_set lanes j l')) l'.unrouted → Sourced s (slice_set lanes j l') shards past counted down
  lane_set j l l' g f u = record {
    unrouted = at_each (λ j (l : CoreLane). Each (IsReceived (slice_set lanes j' l')) l.unrouted) lanes j l' u (λ i m e. up m.unrouted (h.unrouted i m e));
    lines = λ i sh e. up (line s sh) (h.lines i sh e);
    gone = up past h.gone;
    caused = Each-weaker (Caused s lanes shards down) (Caused s (slice_set lanes j l') shards down) counted (λ n k. record { b = k.b; same = k.same; received = received_set lanes j l l' g f k.b k.received; cause = k.cause }) h.caused;
  }
    where
      j' : ℕ
      j' = j

      up : (xs : List Arrival) → Each (IsReceived lanes) xs → Each (IsReceived (slice_set lanes j l')) xs
      up xs k = Each-weaker (IsReceived lanes) (IsReceived (slice_set lanes j l')) xs (λ b p. received_set lanes j l l' g f b p) k

  -- a shard's part changes
  shard_set : (i : ℕ) (sh sh' : CoreShard) → slice_get shards i ≡ Some sh → Settles s sh.journal sh'.journal → Each (IsReceived lanes) (line s sh') → Sourced s lanes (slice_set shards i sh') past counted down
  shard_set i sh sh' g f k = record {
    unrouted = h.unrouted;
    lines = at_each (λ i sh. Each (IsReceived lanes) (line s sh)) shards i sh' k h.lines;
    gone = h.gone;
    caused = Each-weaker (Caused s lanes shards down) (Caused s lanes (slice_set shards i sh') down) counted (λ n k. record { b = k.b; same = k.same; received = k.received; cause = cause_set s shards down i sh sh' g f k.b n.reason k.cause }) h.caused;
  }

  more_counted : (more : List DroppedSpan) → Each (Caused s lanes shards down) more → Sourced s lanes shards past (counted ++ more) down
  more_counted more k = record { unrouted = h.unrouted; lines = h.lines; gone = h.gone; caused = Each-append (Caused s lanes shards down) counted more h.caused k }

  new_past : (past' : List Arrival) → Each (IsReceived lanes) past' → Sourced s lanes shards past' counted down
  new_past past' k = record { unrouted = h.unrouted; lines = h.lines; gone = k; caused = h.caused }

  sink_down : (later : Bool) → later ≡ true → Sourced s lanes shards past counted later
  sink_down later e = record { unrouted = h.unrouted; lines = h.lines; gone = h.gone; caused = Each-weaker (Caused s lanes shards down) (Caused s lanes shards later) counted (λ n k. record { b = k.b; same = k.same; received = k.received; cause = cause_down s shards down later e k.b n.reason k.cause }) h.caused }

-- ---- what a taken span and a decision count

spill_at : {X Y : Type 0} (P : Y → Type 0) (f : X → List Y) (p : X → Bool) (x : X) (xs : List X) → Split x xs → p x ≡ true → Each P (spill f p xs) → Each P (f x)
spill_at P f p x xs k e h =
    let a = subst (λ z. Each P z) (ap (spill f p) k.is ∙ spill-append f p k.front (x ∷ k.back)) h in
    let b = Each-right P (spill f p k.back) (cond (p x) (f x) []) (Each-left P (spill f p (x ∷ k.back)) (spill f p k.front) a) in
    subst (λ z. Each P (cond z (f x) [])) e b

module _ (s : Settings) (room : HasRoom s.num_traces) (lanes : List CoreLane) (shards : List CoreShard) (down : Bool) where
  caused_by_span : (J : Journal) (a : Arrival) (ids : Ids) → a.rec.span.ids ≡ Some ids → (refused lost : Bool) → IsReceived lanes a → Each (IsReceived lanes) (content s J (notes s J))
      → ((b : Arrival) (became : Fate) → FateIs s (record { item = Span a; refused = refused; lost = lost; answers = [] } ∷ J) b became → HasF s shards b became)
      → Each (Caused s lanes shards down) (effect_of_span s J refused a a.rec.span.ids).counted
  caused_by_span J a ids has refused lost r held f = subst (λ (z : Option Ids). Each (Caused s lanes shards down) (effect_of_span s J refused a z).counted) (sym has) (go refused f)
    where
      by_leaving : (out : Option Opening) → leaving s.num_traces (notes s J).openings ≡ out → finding s (notes s J) ids.trace ≡ opens → ((b : Arrival) (became : Fate) → FateIs s (record { item = Span a; refused = false; lost = lost; answers = [] } ∷ J) b became → HasF s shards b became)
          → Each (Caused s lanes shards down) (effect_of_leaving J (notes s J) out).counted
      by_leaving None q e f = tt
      by_leaving (Some o) q e f = by_decided (decided_as (notes s J) o.at) refl
        where
          place : Split o (in_buffer s (notes s J))
          place = let m = makes_room s.num_traces room (notes s J).openings in record { front = m.kept; back = []; is = m.was ∙ ap (λ z. m.kept ++ option_to_list z) q }

          by_decided : (d : Option Verdict) → decided_as (notes s J) o.at ≡ d → Each (Caused s lanes shards down) (effect_of_leaving_decided Evicted (spans_since J o) d).counted
          by_decided (Some v) d = tt
          by_decided None d = counts_caused s lanes shards down Evicted (spans_since J o)
              (Each-both (IsReceived lanes) (λ (b : Arrival). FateIs s (record { item = Span a; refused = false; lost = lost; answers = [] } ∷ J) b (is_counted Evicted)) (λ (b : Arrival). IsReceived lanes b × Cause s shards down b Evicted) (spans_since J o)
              (λ b x y. (x, f b (is_counted Evicted) y)) (spill_at (IsReceived lanes) (spans_since J) (is_open (notes s J)) o (in_buffer s (notes s J)) place (ap is_none d) held) (evicted_fate s room J a ids has lost o e q d))

      by_verdict : (o : Opening) (v : Verdict) → finding s (notes s J) ids.trace ≡ meets o v → ((b : Arrival) (became : Fate) → FateIs s (record { item = Span a; refused = false; lost = lost; answers = [] } ∷ J) b became → HasF s shards b became)
          → Each (Caused s lanes shards down) (effect_of_verdict LateNotSampled (a ∷ []) v).counted
      by_verdict o Sampled e f = tt
      by_verdict o NotSampled e f = counts_caused s lanes shards down LateNotSampled (a ∷ []) ((r, f a (is_counted LateNotSampled) (late_fate s room J a ids has lost o e)), tt)

      by_finding : (x : Finding) → finding s (notes s J) ids.trace ≡ x → ((b : Arrival) (became : Fate) → FateIs s (record { item = Span a; refused = false; lost = lost; answers = [] } ∷ J) b became → HasF s shards b became)
          → Each (Caused s lanes shards down) (effect_of_finding s J (notes s J) a x).counted
      by_finding (joins o) e f = tt
      by_finding (meets o v) e f = by_verdict o v e f
      by_finding opens e f = by_leaving (leaving s.num_traces (notes s J).openings) refl e f

      go : (refused : Bool) → ((b : Arrival) (became : Fate) → FateIs s (record { item = Span a; refused = refused; lost = lost; answers = [] } ∷ J) b became → HasF s shards b became) → Each (Caused s lanes shards down) (effect_of_span s J refused a (Some ids)).counted
      go true f = counts_caused s lanes shards down NoMemory (a ∷ []) ((r, inl (f a (is_counted NoMemory) (refused_fate s room J a ids has lost))), tt)
      go false f = by_finding (finding s (notes s J) ids.trace) refl f

  caused_by_decision : (J : Journal) (dealt : ℕ) (d : Decision) → slice_get (decisions_now s J) dealt ≡ Some d → Each (IsReceived lanes) d.spans → ((b : Arrival) (became : Fate) → FateIs s J b became → HasF s shards b became) → Each (Caused s lanes shards down) (effect_of_decision d).counted
  caused_by_decision J dealt d is r f = go d.verdict refl
    where
      go : (v : Verdict) → d.verdict ≡ v → Each (Caused s lanes shards down) (effect_of_verdict DecidedAgainst d.spans v).counted
      go Sampled e = tt
      go NotSampled e = counts_caused s lanes shards down DecidedAgainst d.spans (Each-both (IsReceived lanes) (λ (a : Arrival). FateIs s J a (is_counted DecidedAgainst)) (λ (b : Arrival). IsReceived lanes b × Cause s shards down b DecidedAgainst) d.spans
          (λ b x y. (x, f b (is_counted DecidedAgainst) y)) r (counted_by_decision s room J dealt d is e))

-- ---- a step

abbrev pub SourcedAt : CoreConfig → World → Type 0
SourcedAt c w = Sourced (settings c w) w.lanes w.shards (behind w) w.counted (may_give_up c w.down)

goes_has_ids : (n i : ℕ) (ids : Option Ids) → ids_go_to n i ids ≡ true → is_some ids ≡ true
goes_has_ids n i None e = absurd (cc e)
goes_has_ids n i (Some ids) e = refl

no_ids : (ids : Option Ids) → not (is_some ids) ≡ true → ids ≡ None
no_ids None e = refl
no_ids (Some ids) e = absurd (cc e)

module _ (c : CoreConfig) (room : HasRoom c.shard.num_traces) (w : World) (h : SourcedAt c w) (rel : ReleasingAt c w) where
  abbrev s : Settings
  s = settings c w

  now_noted : (sh : CoreShard) → has_due s sh ≡ false → line s sh ≡ line_of sh.unshipped (content s sh.journal (notes s sh.journal)) sh.queue
  now_noted sh e = ap (λ z. line_of sh.unshipped (content s sh.journal z) sh.queue) (all_dealt s sh.journal sh.dealt e)

  still : (i : ℕ) (sh : CoreShard) (after : List Arrival) → slice_get w.shards i ≡ Some sh → has_due s sh ≡ false → after ≡ content s sh.journal (notes s sh.journal) → Each (IsReceived w.lanes) (line_of (sh.unshipped ++ []) after sh.queue)
  still i sh after g e q = subst (λ z. Each (IsReceived w.lanes) z) (now_noted sh e ∙ ap (λ z. line_of sh.unshipped z sh.queue) (sym q) ∙ ap (λ z. line_of z after sh.queue) (sym (append-nil sh.unshipped))) (h.lines i sh g)

  abbrev Next : World → Type 0
  Next next = Sourced s next.lanes next.shards (behind next) next.counted (may_give_up c next.down)

  -- the batch goes under the reason
  drop_batch_cause : (r : Reason) → drop_batch_applies c w r ≡ true → (b : Arrival) → HasReleased s w.shards b → Cause s w.shards (may_give_up c w.down) b r
  drop_batch_cause InvalidId e b k = absurd (cc e)
  drop_batch_cause QueueFull e b k = absurd (cc e)
  drop_batch_cause Evicted e b k = absurd (cc e)
  drop_batch_cause DecidedAgainst e b k = absurd (cc e)
  drop_batch_cause LateNotSampled e b k = absurd (cc e)
  drop_batch_cause NoMemory e b k = let i = k.released in inr (record { shard = k.shard; sh = k.sh; at = k.at; fate = record { ids = i.ids; valid = i.valid; refused = false; lost = i.lost; given = i.given; later = i.later; before = i.before; split = i.split; is = i.holds } })
  drop_batch_cause ExporterDown e b k = let i = k.released in (e, record { shard = k.shard; sh = k.sh; at = k.at; fate = record { ids = i.ids; valid = i.valid; refused = false; lost = i.lost; given = i.given; later = i.later; before = i.before; split = i.split; is = i.holds } })

  sourced : (next : World) → Stepped c w next → Next next
  sourced next (received_by lane ordinal moment records l g p e) = subst Next e (
      let new = arrivals (record { lane = lane; ordinal = ordinal }) (count_by (is_of_conn (record { lane = lane; ordinal = ordinal })) l.received) moment records in
      let l' : CoreLane = record { received = l.received ++ new; unrouted = l.unrouted ++ filter has_ids new; ended = l.ended } in
      let own : Each (IsReceived (slice_set w.lanes lane l')) new = Each-weaker (λ (b : Arrival). Split b new) (IsReceived (slice_set w.lanes lane l')) new (λ b k. record { lane = lane; l = l'; at = get_set w.lanes lane l l' g; within = Split-behind b l.received new k }) (Split-each new) in
      let grow = λ (b : Arrival) (k : Split b l.received). Split-more b l.received new k in
      let m = lane_set s w.lanes w.shards (behind w) w.counted (may_give_up c w.down) h lane l l' g grow
      (Each-append (IsReceived (slice_set w.lanes lane l')) l.unrouted (filter has_ids new) (Each-weaker (IsReceived w.lanes) (IsReceived (slice_set w.lanes lane l')) l.unrouted (λ b k. received_set w.lanes lane l l' g grow b k) (h.unrouted lane l g)) (Each-filter (IsReceived (slice_set w.lanes lane l')) has_ids new own)) in
      more_counted s (slice_set w.lanes lane l') w.shards (behind w) w.counted (may_give_up c w.down) m (counts InvalidId (filter (λ (a : Arrival). not (has_ids a)) new))
      (counts_caused s (slice_set w.lanes lane l') w.shards (may_give_up c w.down) InvalidId (filter (λ (a : Arrival). not (has_ids a)) new)
      (Each-both (IsReceived (slice_set w.lanes lane l')) (λ (a : Arrival). not (has_ids a) ≡ true) (λ (b : Arrival). IsReceived (slice_set w.lanes lane l') b × Cause s w.shards (may_give_up c w.down) b InvalidId) (filter (λ (a : Arrival). not (has_ids a)) new)
      (λ b x y. (x, no_ids b.rec.span.ids y)) (Each-filter (IsReceived (slice_set w.lanes lane l')) (λ (a : Arrival). not (has_ids a)) new own) (Each-passes (λ (a : Arrival). not (has_ids a)) new))))
  sourced next (routed lane shard l sh a rest gl gs t e) = subst Next e (
      let sh' : CoreShard = record sh { queue = sh.queue ++ a ∷ [] } in
      let l' : CoreLane = record l { unrouted = rest } in
      let u = subst (λ z. Each (IsReceived w.lanes) z) t.was (h.unrouted lane l gl) in
      let v = Each-right (IsReceived w.lanes) t.front (a ∷ t.back) u in
      let grown : line s sh ++ a ∷ [] ≡ line s sh' = (simp append_assoc) in
      let m = shard_set s w.lanes w.shards (behind w) w.counted (may_give_up c w.down) h shard sh sh' gs (settles_same s sh.journal) (subst (λ z. Each (IsReceived w.lanes) z) grown (Each-append (IsReceived w.lanes) (line s sh) (a ∷ []) (h.lines shard sh gs) (v.0, tt))) in
      let left = subst (λ z. Each (IsReceived w.lanes) z) (sym t.becomes) (Each-append (IsReceived w.lanes) t.front t.back (Each-left (IsReceived w.lanes) t.front (a ∷ t.back) u) v.1) in
      lane_set s w.lanes (slice_set w.shards shard sh') (behind w) w.counted (may_give_up c w.down) m lane l l' gl (λ b k. k) (Each-weaker (IsReceived w.lanes) (IsReceived (slice_set w.lanes lane l')) rest (λ b k. received_set w.lanes lane l l' gl (λ b k. k) b k) left))
  sourced next (refused_by lane shard l a rest gl t e) = subst Next e (
      let l' : CoreLane = record l { unrouted = rest } in
      let u = subst (λ z. Each (IsReceived w.lanes) z) t.was (h.unrouted lane l gl) in
      let v = Each-right (IsReceived w.lanes) t.front (a ∷ t.back) u in
      let left = subst (λ z. Each (IsReceived w.lanes) z) (sym t.becomes) (Each-append (IsReceived w.lanes) t.front t.back (Each-left (IsReceived w.lanes) t.front (a ∷ t.back) u) v.1) in
      let m = lane_set s w.lanes w.shards (behind w) w.counted (may_give_up c w.down) h lane l l' gl (λ b k. k) (Each-weaker (IsReceived w.lanes) (IsReceived (slice_set w.lanes lane l')) rest (λ b k. received_set w.lanes lane l l' gl (λ b k. k) b k) left) in
      more_counted s (slice_set w.lanes lane l') w.shards (behind w) w.counted (may_give_up c w.down) m (counts QueueFull (a ∷ []))
      (counts_caused s (slice_set w.lanes lane l') w.shards (may_give_up c w.down) QueueFull (a ∷ []) ((received_set w.lanes lane l l' gl (λ b k. k) a v.0, goes_has_ids (length w.shards) shard a.rec.span.ids t.passes), tt)))
  sourced next (took_span shard refused lost sh a rest g q d m e) = subst Next e (
      let v = has_valid a.key c room w sh.journal refused lost a.rec.span.ids m in
      let entry : Entry = record { item = Span a; refused = refused; lost = lost; answers = [] } in
      let did : Effect = effect_of_span s sh.journal refused a a.rec.span.ids in
      let sh' : CoreShard = record { queue = rest; journal = record { item = Span a; refused = refused; lost = lost; answers = [] } ∷ sh.journal; dealt = 0; unshipped = sh.unshipped ++ did.released } in
      let was = subst (λ z. Each (IsReceived w.lanes) z) (now_noted sh d ∙ ap (λ z. line_of sh.unshipped (content s sh.journal (notes s sh.journal)) z) q) (h.lines shard sh g) in
      let tail = Each-right (IsReceived w.lanes) sh.unshipped (content s sh.journal (notes s sh.journal) ++ a ∷ rest) was in
      let held = Each-left (IsReceived w.lanes) (content s sh.journal (notes s sh.journal)) (a ∷ rest) tail in
      let first = (Each-right (IsReceived w.lanes) (content s sh.journal (notes s sh.journal)) (a ∷ rest) tail).0 in
      let k = line_taken a v.0.trace sh.unshipped (content s sh.journal (notes s sh.journal)) _ did.released rest did.counted (ap (ids_have_trace v.0.trace) v.1 ∙ same_trace-refl v.0.trace) (span_taken s room sh.journal a v.0 v.1 refused lost) in
      let n = shard_set s w.lanes w.shards (behind w) w.counted (may_give_up c w.down) h shard sh sh' g (settles_more s room sh.journal (record { item = Span a; refused = refused; lost = lost; answers = [] })) (k.each (IsReceived w.lanes) was) in
      more_counted s w.lanes (slice_set w.shards shard sh') (behind w) w.counted (may_give_up c w.down) n did.counted
      (caused_by_span s room w.lanes (slice_set w.shards shard sh') (may_give_up c w.down) sh.journal a v.0 v.1 refused lost first held (λ b became x. record { shard = shard; sh = sh'; at = get_set w.shards shard sh sh' g; fate = x })))
  sourced next (took_tick shard moment sh g d m e) = subst Next e (
      let sh' : CoreShard = record { queue = sh.queue; journal = record { item = Tick moment; refused = false; lost = false; answers = [] } ∷ sh.journal; dealt = 0; unshipped = sh.unshipped ++ [] } in
      more_counted s w.lanes (slice_set w.shards shard sh') (behind w) w.counted (may_give_up c w.down)
      (shard_set s w.lanes w.shards (behind w) w.counted (may_give_up c w.down) h shard sh sh' g (settles_more s room sh.journal (record { item = Tick moment; refused = false; lost = false; answers = [] })) (still shard sh _ g d (stays_by_tick s room sh.journal moment))) [] tt)
  sourced next (closed_by lane l g p e) = subst Next e (
      lane_set s w.lanes w.shards (behind w) w.counted (may_give_up c w.down) h lane l (record l { ended = true }) g (λ b k. k) (Each-weaker (IsReceived w.lanes) (IsReceived (slice_set w.lanes lane (record l { ended = true }))) l.unrouted (λ b k. received_set w.lanes lane l (record l { ended = true }) g (λ b k. k) b k) (h.unrouted lane l g)))
  sourced next (took_end shard sender sh g d m p e) = subst Next e (
      let sh' : CoreShard = record { queue = sh.queue; journal = record { item = End sender; refused = false; lost = false; answers = [] } ∷ sh.journal; dealt = 0; unshipped = sh.unshipped ++ [] } in
      more_counted s w.lanes (slice_set w.shards shard sh') (behind w) w.counted (may_give_up c w.down)
      (shard_set s w.lanes w.shards (behind w) w.counted (may_give_up c w.down) h shard sh sh' g (settles_more s room sh.journal (record { item = End sender; refused = false; lost = false; answers = [] })) (still shard sh _ g d (stays_by_end s room sh.journal sender))) [] tt)
  sourced next (answered_by shard sh answers o g d i e) = subst Next e (
      let sh' : CoreShard = record sh { journal = answered sh.journal answers } in
      shard_set s w.lanes w.shards (behind w) w.counted (may_give_up c w.down) h shard sh sh' g (settles_answered s room sh.journal sh.dealt answers o d i)
      (subst (λ z. Each (IsReceived w.lanes) z) (ap (λ z. line_of sh.unshipped z sh.queue) (sym (content_same s room sh.journal sh.dealt answers o d i))) (h.lines shard sh g)))
  sourced next (decided_one shard sh d g i e) = subst Next e (
      let did = effect_of_decision d in
      let sh' : CoreShard = record sh { dealt = sh.dealt + 1; unshipped = sh.unshipped ++ did.released } in
      let dealing = dealt_with s room sh.journal sh.dealt d i in
      let after = content s sh.journal (notes_dealt s sh.journal (suc sh.dealt)) in
      let held = Each-left (IsReceived w.lanes) (content s sh.journal (notes_dealt s sh.journal sh.dealt)) sh.queue (Each-right (IsReceived w.lanes) sh.unshipped (content s sh.journal (notes_dealt s sh.journal sh.dealt) ++ sh.queue) (h.lines shard sh g)) in
      let spans = Each-left (IsReceived w.lanes) d.spans dealing.newer (Each-right (IsReceived w.lanes) dealing.older (d.spans ++ dealing.newer) (subst (λ z. Each (IsReceived w.lanes) z) dealing.was held)) in
      let moved = (line_dealt d sh.unshipped (content s sh.journal (notes_dealt s sh.journal sh.dealt)) after sh.queue dealing).each (IsReceived w.lanes) (h.lines shard sh g) in
      let now = subst (λ z. Each (IsReceived w.lanes) z) (ap (λ z. line_of (sh.unshipped ++ did.released) (content s sh.journal (notes_dealt s sh.journal z)) sh.queue) (sym (add-one sh.dealt))) moved in
      more_counted s w.lanes (slice_set w.shards shard sh') (behind w) w.counted (may_give_up c w.down) (shard_set s w.lanes w.shards (behind w) w.counted (may_give_up c w.down) h shard sh sh' g (settles_same s sh.journal) now) did.counted
      (caused_by_decision s room w.lanes (slice_set w.shards shard sh') (may_give_up c w.down) sh.journal sh.dealt d i spans (λ b became x. record { shard = shard; sh = sh'; at = get_set w.shards shard sh sh' g; fate = x })))
  sourced next (shipped shard sh a rest g u e) = subst Next e (
      let sh' : CoreShard = record sh { unshipped = rest } in
      let was = subst (λ z. Each (IsReceived w.lanes) z) (ap (λ z. line_of z (content s sh.journal (notes_dealt s sh.journal sh.dealt)) sh.queue) u) (h.lines shard sh g) in
      let past = flat_map (λ (b : List Arrival). b) w.handed ++ (w.batch ++ (w.exported ++ a ∷ [])) in
      let q : behind w ++ a ∷ [] ≡ past = (simp append_assoc) in
      new_past s w.lanes (slice_set w.shards shard sh') (behind w) w.counted (may_give_up c w.down) (shard_set s w.lanes w.shards (behind w) w.counted (may_give_up c w.down) h shard sh sh' g (settles_same s sh.journal) was.1) past
      (subst (λ z. Each (IsReceived w.lanes) z) q (Each-append (IsReceived w.lanes) (behind w) (a ∷ []) h.gone (was.0, tt))))
  sourced next (pulled a rest u e) = subst Next e (new_past s w.lanes w.shards (behind w) w.counted (may_give_up c w.down) h _ (subst (λ z. Each (IsReceived w.lanes) z) (behind_pulled w a rest u) h.gone))
  sourced next (handed_over b d e) = subst Next e (new_past s w.lanes w.shards (behind w) w.counted (may_give_up c w.down) h _ (subst (λ z. Each (IsReceived w.lanes) z) (behind_handed w) h.gone))
  sourced next (failed d e) = subst Next e (sink_down s w.lanes w.shards (behind w) w.counted (may_give_up c w.down) h (may_give_up c true) (or_true (refuses c.manner)))
  sourced next (batch_dropped r b a e) = subst Next e (
      let front = flat_map (λ (b : List Arrival). b) w.handed in
      let tail = Each-right (IsReceived w.lanes) (flat_map (λ (b : List Arrival). b) w.handed) (w.batch ++ w.exported) h.gone in
      let batch = Each-left (IsReceived w.lanes) w.batch w.exported tail in
      let released = Each-left (HasReleased s w.shards) w.batch w.exported (Each-right (HasReleased s w.shards) (flat_map (λ (b : List Arrival). b) w.handed) (w.batch ++ w.exported) rel.gone) in
      more_counted s w.lanes w.shards (flat_map (λ (b : List Arrival). b) w.handed ++ ([] ++ w.exported)) w.counted (may_give_up c w.down)
      (new_past s w.lanes w.shards (behind w) w.counted (may_give_up c w.down) h (flat_map (λ (b : List Arrival). b) w.handed ++ ([] ++ w.exported)) (Each-append (IsReceived w.lanes) (flat_map (λ (b : List Arrival). b) w.handed) w.exported (Each-left (IsReceived w.lanes) (flat_map (λ (b : List Arrival). b) w.handed) (w.batch ++ w.exported) h.gone) (Each-right (IsReceived w.lanes) w.batch w.exported tail)))
      (counts r w.batch)
      (counts_caused s w.lanes w.shards (may_give_up c w.down) r w.batch (Each-both (IsReceived w.lanes) (HasReleased s w.shards) (λ (b : Arrival). IsReceived w.lanes b × Cause s w.shards (may_give_up c w.down) b r) w.batch (λ b x y. (x, drop_batch_cause r a b y)) batch released)))

pub sourced_step : (c : CoreConfig) → HasRoom c.shard.num_traces → (w next : World) → Stepped c w next → SourcedAt c w → ReleasingAt c w → SourcedAt c next
sourced_step c room w next st h rel = subst (λ (s : Settings). Sourced s next.lanes next.shards (behind next) next.counted (may_give_up c next.down)) (sym (same_settings c w next st)) (sourced c room w h rel next st)

pub sourced_new : (c : CoreConfig) → (lanes shards : ℕ) → SourcedAt c (new_world lanes shards)
sourced_new c lanes shards = record {
  unrouted = λ j l e. subst (λ (l : CoreLane). Each (IsReceived w.lanes) l.unrouted) (replicated lanes j new_lane l e) tt;
  lines = λ i sh e. subst (λ (sh : CoreShard). Each (IsReceived w.lanes) (line (settings c w) sh)) (replicated shards i new_shard sh e) (rw (last_of_nil c.shard.num_traces) tt);
  gone = tt;
  caused = tt;
}
  where
    w : World
    w = new_world lanes shards
