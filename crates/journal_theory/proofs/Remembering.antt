-- What is known of what the caches hold, after an opening and after every journal.
-- For `keeps_standing` and `found_as_held` of `laws`.
use Rattle.std.proofs.Common.{◌≡◌, ℕ, suc, ◌<◌, Bool, true, false, cond, ◌||◌, ◌==◌, nat_lt, List, [], ◌∷◌, ◌++◌, length, find, Option, Some, None, option_to_list, refl, ap, sym, ◌∙◌, arith, append_assoc, ne_eqb, eq-eqb}
use Rattle.std.specs.List.{list_any}
use Rattle.span_ids.proofs.SameTraces.{same_trace-is, same_trace-refl, same_trace-sym}
use Rattle.span_ids.specs.Same.{same_trace}
use Rattle.span_ids.specs.declared.ids.TraceId.{TraceId}
use Rattle.span_ids.specs.declared.outcome.Verdict.{Verdict}
use Rattle.otlp_types.specs.declared.span.Ids.{Ids}
use Rattle.otlp_types.specs.declared.arrival.Item.{Item}
use Rattle.otlp_types.specs.declared.arrival.Item.TheVariants.{Span, Tick, End}
use Rattle.decision_cache.specs.Touches.{Touch, is_same_verdict, last_touched, touches_since}
use Rattle.decision_cache.proofs.Laws.{holds_where_remembered}
use Rattle.journal_theory.specs.Journal.{Entry, Settings, Journal, Opening, Decision, Notes, Finding, joins, meets, opens, clock, in_buffer, is_in_buffer, leaving, decided_as, latest_episode, cache_size, is_cached, is_remembered, finding, finding_of, finding_at, touch, touch_of_leaving, touch_of_leaving_decided, after_finding, after_span, after_item, notes, decisions_at, decisions_in_turn, due_at}
use Rattle.journal_theory.proofs.ListFacts.{Each, Each-left, Each-right, Each-weaker, Pairs, Pairs-left, Pairs-across, Each-split}
use Rattle.journal_theory.proofs.Find.{found, not_found, find_past, find_front, any_none, any_split}
use Rattle.journal_theory.proofs.Notes.{HasRoom, IsOlder, Sound, buffer_front}
use Rattle.journal_theory.proofs.Sound.{Makes, makes_room, sound_notes, Each-due}
use Rattle.journal_theory.proofs.CacheFacts.{clash, either, or-right, any-left, same_opening, OtherTrace, in_cache, was_touched, Outside, LastWith, Remembering, touched_out, remembering_none, remembering_decided, later, same_verdicts, still_in, last_own, last_other, remembering_met}

-- ---- an opening

-- what is known where a span of this trace opens an episode
record Opens (s : Settings) (noted : Notes) (t : TraceId) : Type 0 where
  none : Each (λ (p : Opening). same_trace p.trace t ≡ false) (in_buffer s noted)
  forgotten : (v : Verdict) → in_cache s noted v t ≡ false

module _ (s : Settings) (noted : Notes) (n : ℕ) (J : Journal) (sound : Sound s J noted) (w : Remembering s noted n) (t : TraceId) (f : finding s noted t ≡ opens) where
  abbrev own : Opening → Bool
  own p = same_trace p.trace t

  -- the latest episode is no finding, so it is out of the buffer
  latest_out : (o : Opening) → latest_episode noted t ≡ Some o → (d : Option Verdict) → decided_as noted o.at ≡ d → (b : Bool) → is_in_buffer s noted o.at ≡ b → b ≡ false
  latest_out o l None d true k = absurd (cc (sym (ap (finding_of s noted) l ∙ ap (finding_at s noted o) d ∙ ap (λ b. cond b (joins o) opens) k) ∙ f))
  latest_out o l (Some v) d true k = absurd (cc (sym (ap (finding_of s noted) l ∙ ap (finding_at s noted o) d ∙ ap (λ b. cond (b || is_cached s noted o v) (meets o v) opens) k) ∙ f))
  latest_out o l d e false k = refl

  none_own : Each (λ (p : Opening). same_trace p.trace t ≡ false) (in_buffer s noted)
  none_own = go (find own (in_buffer s noted)) refl
    where
      front : (rest : List Opening) × (noted.openings ≡ in_buffer s noted ++ rest)
      front = buffer_front s.num_traces noted.openings

      go : (r : Option Opening) → find own (in_buffer s noted) ≡ r → Each (λ (p : Opening). same_trace p.trace t ≡ false) (in_buffer s noted)
      go None e = not_found own (in_buffer s noted) e
      go (Some o) e =
          let k = found own (in_buffer s noted) o e in
          let l : latest_episode noted t ≡ Some o = ap (find own) front.1 ∙ find_front own (in_buffer s noted) front.0 o e in
          let inside : is_in_buffer s noted o.at ≡ true = ap (list_any (λ (x : Opening). x.at == o.at)) k.is ∙ any_split (λ (x : Opening). x.at == o.at) k.front k.back o (eq-eqb o.at o.at refl) in
          clash (sym inside ∙ latest_out o l (decided_as noted o.at) refl (is_in_buffer s noted o.at) refl)

  forgotten_own : (v : Verdict) (b : Bool) → in_cache s noted v t ≡ b → b ≡ false
  forgotten_own v false e = refl
  forgotten_own v true e =
      let o = w.held v t e in
      let u = w.last v t o in
      let few : nat_lt (length (last_touched v (touches_since t noted.touches))) (cache_size s v) ≡ true = sym (holds_where_remembered v t (cache_size s v) noted.touches u.0 u.1 u.2) ∙ e in
      let own_few : nat_lt (length (last_touched v (touches_since o.opening.trace noted.touches))) (cache_size s v) ≡ true
      = ap (λ (x : TraceId). nat_lt (length (last_touched v (touches_since x noted.touches))) (cache_size s v)) (same_trace-is o.opening.trace t (found own noted.openings o.opening o.latest).passes) ∙ few in
      let remembered : is_remembered s noted o.opening v ≡ true = rw (o.out, o.touched, own_few) refl in
      absurd (cc (sym (ap (finding_of s noted) o.latest ∙ ap (finding_at s noted o.opening) o.decided ∙ ap (λ b. cond b (meets o.opening v) opens) remembered) ∙ f))

  opens_with : Opens s noted t
  opens_with = record { none = none_own; forgotten = λ v. forgotten_own v (in_cache s noted v t) refl }

  -- the notes after it: the opening, and the touches that the leaving made
  module _ (room : HasRoom s.num_traces) (is_below : Each (λ (p : Opening). p.at < n) noted.openings) (now : ℕ) where
    abbrev new : Opening
    new = record { at = n; trace = t; moment = now }

    abbrev opened : List Touch → Notes
    opened touches = record noted { openings = new ∷ noted.openings; touches = touches }

    makes : Makes s.num_traces noted.openings
    makes = makes_room s.num_traces room noted.openings

    -- a position out of the buffer, and not that of the opening, stays out
    stays_out : (touches : List Touch) (at : ℕ) → at < n → is_in_buffer s noted at ≡ false → is_in_buffer s (opened touches) at ≡ false
    stays_out touches at l e =
        let q = λ (p : Opening). p.at == at in
        let kept : list_any q makes.kept ≡ false = any-left q makes.kept (option_to_list (leaving s.num_traces noted.openings)) (sym (ap (list_any q) makes.was) ∙ e) in
        ap (list_any q) (makes.with_next new) ∙ ap (λ b. b || list_any q makes.kept) (ne_eqb n at (λ k. omega (arith, l, k))) ∙ kept

    below_of : (x : TraceId) (o : Opening) → latest_episode noted x ≡ Some o → o.at < n
    below_of x o l = let k = found (λ (p : Opening). same_trace p.trace x) noted.openings o l in Each-split (λ (p : Opening). p.at < n) o noted.openings (record { front = k.front; back = k.back; is = k.is }) is_below

    -- another trace's latest episode is as before
    latest_other : (touches : List Touch) (x : TraceId) → same_trace t x ≡ false → latest_episode (opened touches) x ≡ latest_episode noted x
    latest_other touches x e = rw e refl

    latest_new : (touches : List Touch) (x : TraceId) → same_trace t x ≡ true → latest_episode (opened touches) x ≡ Some new
    latest_new touches x e = rw e refl

    -- the opening itself is in the buffer
    new_inside : (touches : List Touch) → is_in_buffer s (opened touches) n ≡ true
    new_inside touches = ap (list_any (λ (p : Opening). p.at == n)) (makes.with_next new) ∙ ap (λ b. b || list_any (λ (p : Opening). p.at == n) makes.kept) (eq-eqb n n refl)

    not_new : (touches : List Touch) (x : TraceId) (v : Verdict) → Outside s (opened touches) x v → same_trace t x ≡ false
    not_new touches x v a = either t x
        (λ e. let is : new ≡ a.opening = cc (latest_new touches x e, a.latest) in
        clash (sym (new_inside touches) ∙ ap (λ (o : Opening). is_in_buffer s (opened touches) o.at) is ∙ a.out))
        (λ e. e)

    -- a trace in a cache isn't the opening's
    not_own : (v : Verdict) (x : TraceId) → in_cache s noted v x ≡ true → same_trace t x ≡ false
    not_own v x h = either t x
        (λ e. clash (sym h ∙ ap (in_cache s noted v) (sym (same_trace-is t x e)) ∙ opens_with.forgotten v))
        (λ e. e)

    apart_opened : (touches : List Touch) → Pairs OtherTrace (in_buffer s (opened touches))
    apart_opened touches =
        let back = option_to_list (leaving s.num_traces noted.openings) in
        rw (makes.with_next new) (
          Each-left (OtherTrace new) makes.kept back (rw (makes.was) at (opens_with.none)),
          Pairs-left OtherTrace makes.kept back (rw (makes.was) at (w.apart)),
        )

    touched_opened : (touches more : List Touch) → Each (λ (u : Touch). (u.episode < n) × (is_in_buffer s noted u.episode ≡ false)) touches → Each (λ (u : Touch). (u.episode < suc n) × (is_in_buffer s (opened more) u.episode ≡ false)) touches
    touched_opened touches more h = Each-weaker (λ (u : Touch). (u.episode < n) × (is_in_buffer s noted u.episode ≡ false)) (λ (u : Touch). (u.episode < suc n) × (is_in_buffer s (opened more) u.episode ≡ false)) touches
        (λ u k. (omega (arith, k.0), stays_out more u.episode k.0 k.1)) h

    -- ---- nothing was touched

    abbrev quiet : Notes
    quiet = opened noted.touches

    held_quiet : (v : Verdict) (x : TraceId) → in_cache s quiet v x ≡ true → Outside s quiet x v
    held_quiet v x h = let old = w.held v x h in record {
      opening = old.opening;
      latest = latest_other noted.touches x (not_own v x h) ∙ old.latest;
      out = stays_out noted.touches old.opening.at (below_of x old.opening old.latest) old.out;
      decided = old.decided;
      touched = old.touched;
    }

    last_quiet : (v : Verdict) (x : TraceId) → Outside s quiet x v → LastWith quiet.touches x v
    last_quiet v x a = w.last v x (record {
      opening = a.opening;
      latest = sym (latest_other noted.touches x (not_new noted.touches x v a)) ∙ a.latest;
      out = touched_out s noted n a.opening.at w.touched a.touched;
      decided = a.decided;
      touched = a.touched;
    })

    pub remembering_quiet : Remembering s quiet (suc n)
    remembering_quiet = record { apart = apart_opened noted.touches; touched = touched_opened noted.touches noted.touches w.touched; held = held_quiet; last = last_quiet }

    -- ---- a decided episode left, and was touched

    module _ (p : Opening) (v : Verdict) (leaves : leaving s.num_traces noted.openings ≡ Some p) (d : decided_as noted p.at ≡ Some v) where
      abbrev moved : Notes
      moved = opened (touch p v ∷ noted.touches)

      was_last : in_buffer s noted ≡ makes.kept ++ p ∷ []
      was_last = makes.was ∙ ap (λ (r : Option Opening). makes.kept ++ option_to_list r) leaves

      front : (rest : List Opening) × (noted.openings ≡ in_buffer s noted ++ rest)
      front = buffer_front s.num_traces noted.openings

      openings_are : noted.openings ≡ (makes.kept ++ p ∷ []) ++ front.0
      openings_are = front.1 ∙ ap (λ (os : List Opening). os ++ front.0) was_last

      -- no newer episode of the buffer has its trace, so it is the trace's latest
      latest_left : (x : TraceId) → same_trace p.trace x ≡ true → latest_episode noted x ≡ Some p
      latest_left x e =
          let q = λ (o : Opening). same_trace o.trace x in
          let across : Each (λ (k : Opening). Each (OtherTrace k) (p ∷ [])) makes.kept = Pairs-across OtherTrace makes.kept (p ∷ []) (rw was_last at (w.apart)) in
          let none : Each (λ (k : Opening). q k ≡ false) makes.kept = Each-weaker (λ (k : Opening). Each (OtherTrace k) (p ∷ [])) (λ (k : Opening). q k ≡ false) makes.kept
          (λ k h. same_trace-sym k.trace x ∙ ap (λ (z : TraceId). same_trace z k.trace) (sym (same_trace-is p.trace x e)) ∙ h.0) across in
          let here : find q (makes.kept ++ p ∷ []) ≡ Some p = find_past q makes.kept (p ∷ []) none ∙ rw e refl in
          ap (find q) openings_are ∙ find_front q (makes.kept ++ p ∷ []) front.0 p here

      left_below : p.at < n
      left_below = below_of p.trace p (latest_left p.trace (same_trace-refl p.trace))

      left_inside : is_in_buffer s noted p.at ≡ true
      left_inside = ap (list_any (λ (x : Opening). x.at == p.at)) was_last ∙ any_split (λ (x : Opening). x.at == p.at) makes.kept [] p (eq-eqb p.at p.at refl)

      left_out : (touches : List Touch) → is_in_buffer s (opened touches) p.at ≡ false
      left_out touches =
          let q = λ (x : Opening). x.at == p.at in
          let older : Each (λ (k : Opening). Each (IsOlder k) (p ∷ [])) makes.kept = Pairs-across IsOlder makes.kept (p ∷ []) (Pairs-left IsOlder (makes.kept ++ p ∷ []) front.0 (rw openings_are at (sound.ordered))) in
          let none : list_any q makes.kept ≡ false = any_none q makes.kept (Each-weaker (λ (k : Opening). Each (IsOlder k) (p ∷ [])) (λ (k : Opening). q k ≡ false) makes.kept (λ k h. ne_eqb k.at p.at (λ e. let l : p.at < k.at = h.0 in omega (arith, l, e))) older) in
          ap (list_any q) (makes.with_next new) ∙ ap (λ b. b || list_any q makes.kept) (ne_eqb n p.at (λ e. let l = left_below in omega (arith, l, e))) ∙ none

      -- the opening has another trace than what left
      other_than_left : (x : TraceId) → same_trace p.trace x ≡ true → same_trace t x ≡ false
      other_than_left x e =
          let mine : same_trace p.trace t ≡ false = (Each-right (λ (k : Opening). same_trace k.trace t ≡ false) makes.kept (p ∷ []) (rw was_last at (opens_with.none))).0 in
          same_trace-sym t x ∙ ap (λ (z : TraceId). same_trace z t) (sym (same_trace-is p.trace x e)) ∙ mine

      held_left : (b : Bool) (v2 : Verdict) (x : TraceId) → is_same_verdict v v2 ≡ b → same_trace p.trace x ≡ true → in_cache s moved v2 x ≡ true → Outside s moved x v2
      held_left true v2 x k e h = record {
        opening = p;
        latest = latest_other moved.touches x (other_than_left x e) ∙ latest_left x e;
        out = left_out moved.touches;
        decided = d ∙ ap (λ (z : Verdict). Some z) (same_verdicts v v2 k);
        touched = ap (λ b. b || was_touched noted p.at) (eq-eqb p.at p.at refl);
      }
      held_left false v2 x k e h =
          let old = w.held v2 x (still_in s noted moved (touch p v) v2 x refl false k (λ q. absurd (cc q)) h) in
          let is : p ≡ old.opening = cc (latest_left x e, old.latest) in
          clash (sym left_inside ∙ ap (λ (o : Opening). is_in_buffer s noted o.at) is ∙ old.out)

      held_moved : (v2 : Verdict) (x : TraceId) → in_cache s moved v2 x ≡ true → Outside s moved x v2
      held_moved v2 x h = either p.trace x (λ e. held_left (is_same_verdict v v2) v2 x refl e h)
          (λ e. let was : in_cache s noted v2 x ≡ true = still_in s noted moved (touch p v) v2 x refl (is_same_verdict v v2) refl (λ _. e) h in
          let old = w.held v2 x was in record {
            opening = old.opening;
            latest = latest_other moved.touches x (not_own v2 x was) ∙ old.latest;
            out = stays_out moved.touches old.opening.at (below_of x old.opening old.latest) old.out;
            decided = old.decided;
            touched = or-right (p.at == old.opening.at) (was_touched noted old.opening.at) old.touched;
          })

      last_moved : (v2 : Verdict) (x : TraceId) → Outside s moved x v2 → LastWith moved.touches x v2
      last_moved v2 x a = go (p.at == a.opening.at) refl a.touched
        where
          latest : latest_episode noted x ≡ Some a.opening
          latest = sym (latest_other moved.touches x (not_new moved.touches x v2 a)) ∙ a.latest

          go : (b : Bool) → (p.at == a.opening.at) ≡ b → (b || was_touched noted a.opening.at) ≡ true → LastWith moved.touches x v2
          go true k h =
              let same : p.at ≡ a.opening.at = grind (arith, k) in
              let is = same_opening (λ (o : Opening). same_trace o.trace p.trace) (λ (o : Opening). same_trace o.trace x) noted.openings p a.opening sound.ordered (latest_left p.trace (same_trace-refl p.trace)) latest same in
              let mine : same_trace p.trace x ≡ true = ap (λ (z : Opening). same_trace z.trace x) is ∙ (found (λ (o : Opening). same_trace o.trace x) noted.openings a.opening latest).passes in
              (touch p v, last_own x (touch p v) noted.touches mine, cc (d, ap (decided_as noted) (ap (λ (z : Opening). z.at) is), a.decided))
          go false k h =
              let u = w.last v2 x (record { opening = a.opening; latest = latest; out = touched_out s noted n a.opening.at w.touched h; decided = a.decided; touched = h }) in
              let other : same_trace p.trace x ≡ false = either p.trace x
              (λ e. let is : p ≡ a.opening = cc (latest_left x e, latest) in clash (sym (eq-eqb p.at a.opening.at (ap (λ (z : Opening). z.at) is)) ∙ k)) (λ e. e) in
              (u.0, last_other x (touch p v) noted.touches other ∙ u.1, u.2)

      pub remembering_moved : Remembering s moved (suc n)
      remembering_moved = record {
        apart = apart_opened moved.touches;
        touched = ((let l = left_below in omega (arith, l), left_out moved.touches), touched_opened noted.touches moved.touches w.touched);
        held = held_moved;
        last = last_moved;
      }

-- ---- every journal

-- what a span meets is its trace's latest episode, by its verdict
pub meets_latest : (s : Settings) (noted : Notes) (t : TraceId) (o : Opening) (v : Verdict) → finding s noted t ≡ meets o v → (latest_episode noted t ≡ Some o) × (decided_as noted o.at ≡ Some v)
meets_latest s noted t o v f = go (latest_episode noted t) refl
  where
    at_verdict : (x : Opening) (y : Verdict) → latest_episode noted t ≡ Some x → decided_as noted x.at ≡ Some y → (b : Bool) → is_remembered s noted x y ≡ b → (latest_episode noted t ≡ Some o) × (decided_as noted o.at ≡ Some v)
    at_verdict x y l d true r =
        let is : meets x y ≡ meets o v = sym (ap (finding_of s noted) l ∙ ap (finding_at s noted x) d ∙ ap (λ b. cond b (meets x y) opens) r) ∙ f in
        let same : x ≡ o = cc is in
        let verdict : y ≡ v = cc is in
        (l ∙ ap (λ (z : Opening). Some z) same, ap (λ (z : Opening). decided_as noted z.at) (sym same) ∙ d ∙ ap (λ (z : Verdict). Some z) verdict)
    at_verdict x y l d false r = absurd (cc (sym (ap (finding_of s noted) l ∙ ap (finding_at s noted x) d ∙ ap (λ b. cond b (meets x y) opens) r) ∙ f))

    undecided : (x : Opening) (b : Bool) → cond b (joins x) opens ≡ meets o v → ⊥
    undecided x true e = cc e
    undecided x false e = cc e

    at_latest : (x : Opening) → latest_episode noted t ≡ Some x → (d : Option Verdict) → decided_as noted x.at ≡ d → (latest_episode noted t ≡ Some o) × (decided_as noted o.at ≡ Some v)
    at_latest x l None d = absurd (undecided x (is_in_buffer s noted x.at) (sym (ap (finding_of s noted) l ∙ ap (finding_at s noted x) d) ∙ f))
    at_latest x l (Some y) d = at_verdict x y l d (is_remembered s noted x y) refl

    go : (l : Option Opening) → latest_episode noted t ≡ l → (latest_episode noted t ≡ Some o) × (decided_as noted o.at ≡ Some v)
    go None l = absurd (cc (sym (ap (finding_of s noted) l) ∙ f))
    go (Some x) l = at_latest x l (decided_as noted x.at) refl

module _ (s : Settings) (room : HasRoom s.num_traces) (J : Journal) where
  remembering_found : (t : TraceId) (lost : Bool) (now : ℕ) (noted : Notes) → Sound s J noted → Remembering s noted (length J) → (f : Finding) → finding s noted t ≡ f → Remembering s (after_finding s t lost (length J) now noted f) (suc (length J))
  remembering_found t lost now noted h w (joins o) f = later s noted (length J) w
  remembering_found t lost now noted h w (meets o v) f = go (is_in_buffer s noted o.at) refl
    where
      facts : (latest_episode noted t ≡ Some o) × (decided_as noted o.at ≡ Some v)
      facts = meets_latest s noted t o v f

      below : o.at < length J
      below = let k = found (λ (p : Opening). same_trace p.trace t) noted.openings o facts.0 in Each-split (λ (p : Opening). p.at < length J) o noted.openings (record { front = k.front; back = k.back; is = k.is }) h.below

      go : (b : Bool) → is_in_buffer s noted o.at ≡ b → Remembering s (record noted { touches = cond b [] (touch o v ∷ []) ++ noted.touches }) (suc (length J))
      go true e = later s noted (length J) w
      go false e = later s (record noted { touches = touch o v ∷ noted.touches }) (length J) (remembering_met s noted (length J) J h w t o v facts.0 below e facts.1)
  remembering_found t lost now noted h w opens f = go lost (leaving s.num_traces noted.openings) refl
    where
      made : List Touch → Notes
      made touches = record noted { openings = record { at = length J; trace = t; moment = now } ∷ noted.openings; touches = touches ++ noted.touches }

      left : (p : Opening) (d : Option Verdict) → leaving s.num_traces noted.openings ≡ Some p → decided_as noted p.at ≡ d → Remembering s (made (touch_of_leaving_decided p d)) (suc (length J))
      left p None l d = remembering_quiet s noted (length J) J h w t f room h.below now
      left p (Some v) l d = remembering_moved s noted (length J) J h w t f room h.below now p v l d

      go : (b : Bool) (r : Option Opening) → leaving s.num_traces noted.openings ≡ r → Remembering s (made (cond b [] (touch_of_leaving noted r))) (suc (length J))
      go true r e = remembering_quiet s noted (length J) J h w t f room h.below now
      go false None e = remembering_quiet s noted (length J) J h w t f room h.below now
      go false (Some p) e = left p (decided_as noted p.at) e refl

  remembering_span : (ids : Option Ids) (e : Entry) (noted : Notes) → Sound s J noted → Remembering s noted (length J) → Remembering s (after_span s ids e J noted) (suc (length J))
  remembering_span None e noted h w = later s noted (length J) w
  remembering_span (Some ids) e noted h w = go e.refused
    where
      go : (r : Bool) → Remembering s (cond r noted (after_finding s ids.trace e.lost (length J) (clock (e ∷ J)) noted (finding s noted ids.trace))) (suc (length J))
      go true = later s noted (length J) w
      go false = remembering_found ids.trace e.lost (clock (e ∷ J)) noted h w (finding s noted ids.trace) refl

  pub remembering_item : (item : Item) (e : Entry) (noted : Notes) → Sound s J noted → Remembering s noted (length J) → Remembering s (after_item s e J item noted) (suc (length J))
  remembering_item (Span a) e noted h w = remembering_span a.rec.span.ids e noted h w
  remembering_item (Tick m) e noted h w = later s noted (length J) w
  remembering_item (End i) e noted h w = later s noted (length J) w

Each-self : (p : Opening → Bool) (os front : List Opening) (whole : List Opening) → whole ≡ front ++ os → (q : Opening → Opening → Bool) → ((o : Opening) → q o o ≡ true) → Each (λ (o : Opening). list_any (λ x. q x o) whole ≡ true) os
Each-self p [] front whole e q f = tt
Each-self p (o ∷ os) front whole e q f = (
  ap (list_any (λ x. q x o)) e ∙ any_split (λ x. q x o) front os o (f o),
  Each-self p os (front ++ o ∷ []) whole (e ∙ sym (append_assoc front (o ∷ []) os)) q f,
)

-- each opening of the buffer stands in it
buffered_each : (s : Settings) (noted : Notes) → Each (λ (o : Opening). is_in_buffer s noted o.at ≡ true) (in_buffer s noted)
buffered_each s noted = Each-self (λ o. true) (in_buffer s noted) [] (in_buffer s noted) refl (λ x o. x.at == o.at) (λ o. eq-eqb o.at o.at refl)

turns_each : (s : Settings) (P : Opening → Type 0) (J : Journal) (os : List Opening) (answers : List (List Bool)) → Each P os → Each (λ (d : Decision). P d.opening) (decisions_in_turn s J os answers)
turns_each s P J [] answers h = tt
turns_each s P J (o ∷ os) [] h = tt
turns_each s P J (o ∷ os) (a ∷ answers) h = (h.0, turns_each s P J os answers h.1)

pub remembering_notes : (s : Settings) → HasRoom s.num_traces → (J : Journal) → Remembering s (notes s J) (length J)
unfolding notes
remembering_notes s room [] = remembering_none s
remembering_notes s room (e ∷ J) =
    let noted = after_item s e J e.item (notes s J) in
    let IsBuffered = λ (o : Opening). is_in_buffer s noted o.at ≡ true in
    remembering_decided s noted (suc (length J)) (decisions_at s e J noted)
    (turns_each s IsBuffered (e ∷ J) (due_at s e J e.item noted) e.answers (Each-due IsBuffered s e J e.item noted (buffered_each s noted)))
    (remembering_item s room J e.item e (notes s J) (sound_notes s room J) (remembering_notes s room J))
