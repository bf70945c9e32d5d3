-- What a shard holds after an item is computed from what it held before.
-- For `keeps_standing` of `laws`.
use Rattle.std.proofs.Common.{◌≡◌, ℕ, zero, suc, ◌<◌, max, Bool, true, false, ◌&&◌, cond, ◌==◌, List, [], ◌∷◌, ◌++◌, map, length, take, drop, reverse, find, slice_get, Option, Some, None, option_map, option_to_list, refl, ap, sym, ◌∙◌, arith, append-nil, ne_eqb, eq-eqb}
use Rattle.std.specs.List.{list_any}
use Rattle.std.proofs.lemmas.List.{reverse-reverse, reverse-append, map-append, length-map, length-reverse}
use Rattle.span_ids.proofs.SameTraces.{same_trace-is, same_trace-refl, same_trace-sym}
use Rattle.span_ids.specs.Same.{same_trace}
use Rattle.span_ids.specs.declared.ids.TraceId.{TraceId}
use Rattle.span_ids.specs.declared.outcome.Verdict.{Verdict}
use Rattle.span_ids.specs.declared.outcome.Verdict.TheVariants.{Sampled, NotSampled}
use Rattle.otlp_types.specs.declared.span.Ids.{Ids}
use Rattle.otlp_types.specs.declared.arrival.Arrival.{Arrival}
use Rattle.otlp_types.specs.declared.arrival.Item.{Item}
use Rattle.otlp_types.specs.declared.arrival.Item.TheVariants.{Span, Tick, End}
use Rattle.trace_buffer.specs.Buffer.{Episode, append_first, with_span, episode_of, after_opening, opening_episode, leaves, evicted_as}
use Rattle.decision_cache.specs.Lists.{CacheLists, is_held_in_either, asked, after_asking, after_put}
use Rattle.decision_cache.specs.Touches.{Touch, last_touched, touched_by}
use Rattle.decision_cache.proofs.Stands.{stands-put, stands-asked}
use Rattle.journal_theory.specs.Journal.{Entry, Settings, Journal, Opening, Decision, Notes, Finding, joins, meets, opens, clock, finding, notes, in_buffer, is_in_buffer, last_of, leaving, decided_as, latest_episode, item_spans, after_item, after_span, after_finding, touch, touch_of_leaving, touch_of_leaving_decided, has_ids}
use Rattle.journal_theory.specs.Standing.{Standing, episode, episodes, cache, mark, ends, evicted_of}
use Rattle.journal_theory.specs.Keeping.{caches, with_caches, buffer, after_leaving_decided, after_leaving, after_opening_in, after_unknown, after_known, after_episode, after_span_of, after_span_in, after_entry, KeepsStanding}
use Rattle.journal_theory.specs.Laws.{state_cached, state_found}
use Rattle.journal_theory.proofs.ListFacts.{Each, Each-all, Each-weaker, Each-reverse, Each-left, Pairs, Pairs-reverse, Split}
use Rattle.journal_theory.proofs.Find.{found, not_found, find_none, find_front, any_split}
use Rattle.journal_theory.proofs.Notes.{HasRoom, Sound, buffer_front, spans_before}
use Rattle.journal_theory.proofs.Sound.{sound_notes}
use Rattle.journal_theory.proofs.CacheFacts.{Remembering, OtherTrace, in_cache, behind_buffer}
use Rattle.journal_theory.proofs.Remembering.{remembering_notes, meets_latest}
use Rattle.journal_theory.proofs.FoundAsHeld.{find_reversed, find_episode, all_dealt, found_past, found_here}
use Rattle.journal_theory.proofs.Due.{ends-span, ends-tick, ends-end}
use Rattle.journal_theory.proofs.StandingParts.{joins_none, joins_own, roots_before, map_same, episode_same, episode_decided, standing_by, standing_of, same_parts, less-one, taken_full, taken_short, short, taken_next, stands_for, buffered_not_cached, sizes_asked, put_remembers, sizes_put, state_asked, asked_from, asked_none}

module _ (s : Settings) (m : ℕ) (lim : s.num_traces ≡ Some (suc m)) (past : Journal) (a : Arrival) (ids : Ids) (i : a.rec.span.ids ≡ Some ids) (given : List (List Bool)) where
  room : HasRoom s.num_traces
  room e = absurd (cc (lim, e))

  abbrev noted : Notes
  noted = notes s past

  abbrev held : Standing
  held = standing_by s past noted

  abbrev t : TraceId
  t = ids.trace

  abbrev entry_of : (refused lost : Bool) → Entry
  entry_of refused lost = record { item = Span a; refused = refused; lost = lost; answers = given }

  sound : Sound s past noted
  sound = sound_notes s room past

  w : Remembering s noted (length past)
  w = remembering_notes s room past

  abbrev front : List Opening
  front = reverse (in_buffer s noted)

  below : Each (λ (o : Opening). o.at < length past) (in_buffer s noted)
  below = let f = buffer_front s.num_traces noted.openings in Each-left (λ (o : Opening). o.at < length past) (in_buffer s noted) f.0 (rw f.1 at (sound.below))

  -- the clock and the ends after the span
  abbrev clocked : Standing
  clocked = record held { clock = max a.moment (clock past) }

  same_ends : (refused lost : Bool) → ends (entry_of refused lost ∷ past) s.senders ≡ ends past s.senders
  same_ends refused lost = ends-span s room a refused lost given past s.senders

  -- nothing but the clock changes
  quiet : (refused lost : Bool) → map (episode s (entry_of refused lost ∷ past) noted) front ≡ map (episode s past noted) front → standing_by s (entry_of refused lost ∷ past) noted ≡ clocked
  quiet refused lost e = same_parts s noted _ _ _ _ _ _ (max a.moment (clock past)) (mark past) _ _ e refl refl (same_ends refused lost)

  refused_same : (lost : Bool) → standing_by s (entry_of true lost ∷ past) noted ≡ clocked
  refused_same lost = quiet true lost (map_same (episode s (entry_of true lost ∷ past) noted) (episode s past noted) front
      (Each-all (λ o. episode s (entry_of true lost ∷ past) noted o ≡ episode s past noted o) front
      (λ o. episode_same s (entry_of true lost) past noted o (joins_none a ids true past o i (and-no (same_trace o.trace ids.trace))))))
    where
      and-no : (b : Bool) → (b && false) ≡ false
      and-no true = refl
      and-no false = refl

  -- where the buffer has no episode of the trace, no episode changes
  others_same : (lost : Bool) (n : Notes) → n.decisions ≡ noted.decisions → (os : List Opening) → Each (λ (o : Opening). same_trace o.trace t ≡ false) os → map (episode s (entry_of false lost ∷ past) n) os ≡ map (episode s past noted) os
  others_same lost n d os h = map_same (episode s (entry_of false lost ∷ past) n) (episode s past noted) os
      (Each-weaker (λ (o : Opening). same_trace o.trace t ≡ false) (λ (o : Opening). episode s (entry_of false lost ∷ past) n o ≡ episode s past noted o) os
      (λ o k. rw d (episode_same s (entry_of false lost) past noted o (joins_none a ids false past o i (ap (λ b. b && true) k)))) h)

  -- the span goes to the undecided episode of its trace, which is the only one
  appended : (lost : Bool) (o : Opening) → decided_as noted o.at ≡ None → (os : List Opening) → Each (λ (x : Opening). x.at < length past) os → Pairs (λ older newer. same_trace older.trace newer.trace ≡ false) os →
      find (λ (x : Opening). same_trace x.trace t) os ≡ Some o → map (episode s (entry_of false lost ∷ past) noted) os ≡ append_first t (max a.moment (clock past)) a (map (episode s past noted) os)
  appended lost o d [] l h e = absurd (cc e)
  appended lost o d (x ∷ os) l h e = (elim (same_trace x.trace t) as (λ b. same_trace x.trace t ≡ b → cond b (Some x) (find (λ (x : Opening). same_trace x.trace t) os) ≡ Some o →
      map (episode s (entry_of false lost ∷ past) noted) (x ∷ os) ≡ cond b (with_span (max a.moment (clock past)) a (episode s past noted x) ∷ map (episode s past noted) os) (episode s past noted x ∷ append_first t (max a.moment (clock past)) a (map (episode s past noted) os))) [
        | true ↦ λ k e.
            let is : x ≡ o = cc e in
            let undecided : decided_as noted x.at ≡ None = ap (λ (z : Opening). decided_as noted z.at) is ∙ d in
            let own = joins_own a ids past x i (let b : x.at < length past = l.0 in omega (arith, b)) k in
            let first : episode s (entry_of false lost ∷ past) noted x ≡ with_span (max a.moment (clock past)) a (episode s past noted x) = rw (undecided, own) refl in
            let rest = others_same lost noted refl os (Each-weaker (λ (y : Opening). same_trace x.trace y.trace ≡ false) (λ (y : Opening). same_trace y.trace t ≡ false) os
            (λ y f. same_trace-sym y.trace t ∙ ap (λ (z : TraceId). same_trace z y.trace) (sym (same_trace-is x.trace t k)) ∙ f) h.0) in
            cc (first, rest)
        | false ↦ λ k e.
            let first = episode_same s (entry_of false lost) past noted x (joins_none a ids false past x i (ap (λ b. b && true) k)) in
            let rest = appended lost o d os l.1 h.1 e in
            cc (first, rest)
      ]) refl e

  -- a span that is late for a decided episode of the buffer changes none
  late_same : (lost : Bool) (o : Opening) (v : Verdict) → decided_as noted o.at ≡ Some v → (os : List Opening) → Pairs (λ older newer. same_trace older.trace newer.trace ≡ false) os →
      find (λ (x : Opening). same_trace x.trace t) os ≡ Some o → map (episode s (entry_of false lost ∷ past) noted) os ≡ map (episode s past noted) os
  late_same lost o v d [] h e = absurd (cc e)
  late_same lost o v d (x ∷ os) h e = (elim (same_trace x.trace t) as (λ b. same_trace x.trace t ≡ b → cond b (Some x) (find (λ (x : Opening). same_trace x.trace t) os) ≡ Some o →
      map (episode s (entry_of false lost ∷ past) noted) (x ∷ os) ≡ map (episode s past noted) (x ∷ os)) [
        | true ↦ λ k e.
            let is : x ≡ o = cc e in
            let first = episode_decided s (entry_of false lost ∷ past) past noted x v (ap (λ (z : Opening). decided_as noted z.at) is ∙ d) in
            let rest = others_same lost noted refl os (Each-weaker (λ (y : Opening). same_trace x.trace y.trace ≡ false) (λ (y : Opening). same_trace y.trace t ≡ false) os
            (λ y f. same_trace-sym y.trace t ∙ ap (λ (z : TraceId). same_trace z y.trace) (sym (same_trace-is x.trace t k)) ∙ f) h.0) in
            cc (first, rest)
        | false ↦ λ k e.
            let first = episode_same s (entry_of false lost) past noted x (joins_none a ids false past x i (ap (λ b. b && true) k)) in
            let rest = late_same lost o v d os h.1 e in
            cc (first, rest)
      ]) refl e

  front_below : Each (λ (o : Opening). o.at < length past) front
  front_below = Each-reverse (λ (o : Opening). o.at < length past) (in_buffer s noted) below

  front_apart : Pairs (λ older newer. same_trace older.trace newer.trace ≡ false) front
  front_apart = Pairs-reverse OtherTrace (in_buffer s noted) w.apart

  abbrev after_of : (lost : Bool) → Finding → Notes
  after_of lost f = after_finding s t lost (length past) (max a.moment (clock past)) noted f

  -- in the buffer
  known_holds : (lost : Bool) (o : Opening) → find (λ (x : Opening). same_trace x.trace t) front ≡ Some o → latest_episode noted t ≡ Some o → is_in_buffer s noted o.at ≡ true → (d : Option Verdict) → decided_as noted o.at ≡ d → (f : Finding) → finding s noted t ≡ f → state_found f ≡ Some d →
      standing_by s (entry_of false lost ∷ past) (after_of lost f) ≡ after_known t a clocked d
  known_holds lost o e l inside None d (joins x) f g = same_parts s noted _ _ _ _ _ _ (max a.moment (clock past)) (mark past) _ _ (appended lost o d front front_below front_apart e) refl refl (same_ends false lost)
  known_holds lost o e l inside None d (meets x v) f g = absurd (cc g)
  known_holds lost o e l inside None d opens f g = absurd (cc g)
  known_holds lost o e l inside (Some v) d (joins x) f g = absurd (cc g)
  known_holds lost o e l inside (Some v) d (meets x y) f g =
      let facts = meets_latest s noted t x y f in
      let is : o ≡ x = cc (l, facts.0) in
      let here : is_in_buffer s noted x.at ≡ true = ap (λ (z : Opening). is_in_buffer s noted z.at) (sym is) ∙ inside in
      ap (λ b. standing_by s (entry_of false lost ∷ past) (record noted { touches = cond b [] (touch x y ∷ []) ++ noted.touches })) here ∙ quiet false lost (late_same lost o v d front front_apart e)
  known_holds lost o e l inside (Some v) d opens f g = absurd (cc g)

  -- ---- outside the buffer, late

  late_holds : (lost : Bool) (o : Opening) (v : Verdict) → Each (λ (x : Opening). same_trace x.trace t ≡ false) front → finding s noted t ≡ meets o v → is_in_buffer s noted o.at ≡ false → asked t (caches s held) ≡ Some v →
      standing_by s (entry_of false lost ∷ past) (after_of lost (meets o v)) ≡ with_caches (after_asking t (caches s held)) clocked
  late_holds lost o v none f out e =
      let c = caches s held in
      let facts = meets_latest s noted t o v f in
      let trace : o.trace ≡ t = same_trace-is o.trace t (found (λ (x : Opening). same_trace x.trace t) noted.openings o facts.0).passes in
      let stands = stands-asked c t noted.touches o.at v (stands_for s past noted (length past) w) e in
      let sizes = sizes_asked t c in
      let u = touched_by o.at t v in
      let is : touch o v ≡ u = ap (λ (x : TraceId). touched_by o.at x v) trace in
      let sampled : take s.sampled_cache_size (last_touched Sampled (touch o v ∷ noted.touches)) ≡ (after_asking t c).sampled.traces
      = ap (λ (x : Touch). take s.sampled_cache_size (last_touched Sampled (x ∷ noted.touches))) is ∙ ap (λ n. take n (last_touched Sampled (u ∷ noted.touches))) (sym sizes.0) ∙ sym stands.0.0 in
      let non_sampled : take s.non_sampled_cache_size (last_touched NotSampled (touch o v ∷ noted.touches)) ≡ (after_asking t c).not_sampled.traces
      = ap (λ (x : Touch). take s.non_sampled_cache_size (last_touched NotSampled (x ∷ noted.touches))) is ∙ ap (λ n. take n (last_touched NotSampled (u ∷ noted.touches))) (sym sizes.1) ∙ sym stands.1.0 in
      ap (λ b. standing_by s (entry_of false lost ∷ past) (record noted { touches = cond b [] (touch o v ∷ []) ++ noted.touches })) out
      ∙ same_parts s noted _ _ _ _ _ _ (max a.moment (clock past)) (mark past) _ _ (others_same lost noted refl front none) sampled non_sampled (same_ends false lost)

  -- ---- an opening

  abbrev new : Opening
  new = record { at = length past; trace = t; moment = max a.moment (clock past) }

  abbrev opened : List Touch → Notes
  opened touches = record noted { openings = new ∷ noted.openings; touches = touches }

  abbrev kept : List Opening
  kept = take m noted.openings

  buffer_is : in_buffer s noted ≡ kept ++ option_to_list (slice_get noted.openings m)
  buffer_is = ap (λ l. last_of l noted.openings) lim ∙ taken_next m noted.openings

  buffer_next : (touches : List Touch) → in_buffer s (opened touches) ≡ new ∷ kept
  buffer_next touches = ap (λ l. last_of l (new ∷ noted.openings)) lim

  leaving_is : leaving s.num_traces noted.openings ≡ slice_get noted.openings m
  leaving_is = ap (λ l. leaving l noted.openings) lim ∙ ap (slice_get noted.openings) (less-one m)

  new_episode : (lost : Bool) (touches : List Touch) → episode s (entry_of false lost ∷ past) (opened touches) new ≡ opening_episode t a (max a.moment (clock past)) s.maximum_trace_size
  new_episode lost touches =
      let undecided : decided_as noted (length past) ≡ None = ap (option_map (λ (d : Decision). d.verdict)) (find_none (λ (d : Decision). d.opening.at == length past) noted.decisions
      (Each-weaker (λ (d : Decision). d.opening.at < length past) (λ (d : Decision). (d.opening.at == length past) ≡ false) noted.decisions (λ d h. ne_eqb d.opening.at (length past) (λ e. omega (arith, h, e))) sound.decided)) in
      let own = joins_own a ids past new i (omega arith) (same_trace-refl t) in
      rw (undecided, own, spans_before past new (omega arith), roots_before past new (omega arith)) refl

  -- the episodes that stay, and the new one
  abbrev stay : List Episode
  stay = map (episode s past noted) (reverse kept)

  kept_other : Each (λ (x : Opening). same_trace x.trace t ≡ false) front → Each (λ (x : Opening). same_trace x.trace t ≡ false) (reverse kept)
  kept_other none = Each-reverse (λ (x : Opening). same_trace x.trace t ≡ false) kept
      (Each-left (λ (x : Opening). same_trace x.trace t ≡ false) kept (option_to_list (slice_get noted.openings m)) (rw buffer_is at (unreversed none)))
    where
      unreversed : Each (λ (x : Opening). same_trace x.trace t ≡ false) front → Each (λ (x : Opening). same_trace x.trace t ≡ false) (in_buffer s noted)
      unreversed h = rw (reverse-reverse (in_buffer s noted)) at (Each-reverse (λ (x : Opening). same_trace x.trace t ≡ false) front h)

  episodes_next : (lost : Bool) (touches : List Touch) → Each (λ (x : Opening). same_trace x.trace t ≡ false) front → episodes s (entry_of false lost ∷ past) (opened touches) ≡ stay ++ opening_episode t a (max a.moment (clock past)) s.maximum_trace_size ∷ []
  episodes_next lost touches none =
      let g = episode s (entry_of false lost ∷ past) (opened touches) in
      ap (λ (os : List Opening). map g (reverse os)) (buffer_next touches)
      ∙ ap (map g) (reverse-append (new ∷ []) kept)
      ∙ map-append g (reverse kept) (new ∷ [])
      ∙ ap (λ (es : List Episode). es ++ g new ∷ []) (others_same lost (opened touches) refl (reverse kept) (kept_other none))
      ∙ ap (λ (e : Episode). stay ++ e ∷ []) (new_episode lost touches)

  -- what the buffer held, by what leaves it
  held_none : slice_get noted.openings m ≡ None → episodes s past noted ≡ stay
  held_none e = ap (λ (os : List Opening). map (episode s past noted) (reverse os)) (buffer_is ∙ ap (λ (r : Option Opening). kept ++ option_to_list r) e ∙ append-nil kept)

  held_some : (p : Opening) → slice_get noted.openings m ≡ Some p → episodes s past noted ≡ episode s past noted p ∷ stay
  held_some p e = ap (λ (os : List Opening). map (episode s past noted) (reverse os)) (buffer_is ∙ ap (λ (r : Option Opening). kept ++ option_to_list r) e) ∙ ap (map (episode s past noted)) (reverse-append kept (p ∷ []))

  stay_length : length stay ≡ length kept
  stay_length = length-map (reverse kept) (episode s past noted) ∙ length-reverse kept

  opens_episodes : (x : Episode) (r : Option Opening) → slice_get noted.openings m ≡ r → (after_opening (buffer (suc m) held) x).episodes ≡ stay ++ x ∷ []
  opens_episodes x None e =
      let es = held_none e in
      let fewer : length stay < suc m = (let k = taken_short m noted.openings e in let l = short m noted.openings e in let n = stay_length in omega (arith, k, l, n)) in
      ap (λ (es : List Episode). cond (length es == suc m) (drop 1 es) es ++ x ∷ []) es
      ∙ ap (λ b. cond b (drop 1 stay) stay ++ x ∷ []) (ne_eqb (length stay) (suc m) (λ q. omega (arith, fewer, q)))
  opens_episodes x (Some p) e =
      let es = held_some p e in
      let full : length (episode s past noted p ∷ stay) ≡ suc m = ap suc (stay_length ∙ taken_full m noted.openings p e) in
      ap (λ (es : List Episode). cond (length es == suc m) (drop 1 es) es ++ x ∷ []) es
      ∙ ap (λ b. cond b stay (episode s past noted p ∷ stay) ++ x ∷ []) (eq-eqb (length (episode s past noted p ∷ stay)) (suc m) full)

  leaves_is : (r : Option Opening) → slice_get noted.openings m ≡ r → leaves (buffer (suc m) held) ≡ option_map (λ p. evicted_as (episode s past noted p)) r
  leaves_is None e =
      let es = held_none e in
      let fewer : length stay < suc m = (let k = taken_short m noted.openings e in let l = short m noted.openings e in let n = stay_length in omega (arith, k, l, n)) in
      ap (λ (es : List Episode). cond (length es == suc m) (option_map evicted_as (slice_get es 0)) None) es
      ∙ ap (λ b. cond b (option_map evicted_as (slice_get stay 0)) None) (ne_eqb (length stay) (suc m) (λ q. omega (arith, fewer, q)))
  leaves_is (Some p) e =
      let es = held_some p e in
      let full : length (episode s past noted p ∷ stay) ≡ suc m = ap suc (stay_length ∙ taken_full m noted.openings p e) in
      ap (λ (es : List Episode). cond (length es == suc m) (option_map evicted_as (slice_get es 0)) None) es
      ∙ ap (λ b. cond b (Some (evicted_as (episode s past noted p))) None) (eq-eqb (length (episode s past noted p ∷ stay)) (suc m) full)

  -- what leaves the buffer is the oldest opening's episode, if the buffer is full
  pub leaves_held : leaves (buffer (suc m) held) ≡ option_map (evicted_of s past noted) (leaving s.num_traces noted.openings)
  leaves_held = leaves_is (slice_get noted.openings m) refl ∙ ap (option_map (evicted_of s past noted)) (sym leaving_is)

  -- the caches after the touches that an opening made
  abbrev caches_of : Notes → CacheLists
  caches_of n = record { sampled = record { traces = cache s n Sampled; size = s.sampled_cache_size }; not_sampled = record { traces = cache s n NotSampled; size = s.non_sampled_cache_size } }

  same_lists : (c d : CacheLists) → c.sampled.traces ≡ d.sampled.traces → c.not_sampled.traces ≡ d.not_sampled.traces → c.sampled.size ≡ d.sampled.size → c.not_sampled.size ≡ d.not_sampled.size → c ≡ d
  same_lists c d e f g h = both_lists c.sampled.traces d.sampled.traces c.not_sampled.traces d.not_sampled.traces c.sampled.size d.sampled.size c.not_sampled.size d.not_sampled.size e f g h
    where
      both_lists : (a b x y : List TraceId) (k l n o : ℕ) → a ≡ b → x ≡ y → k ≡ l → n ≡ o →
          (let z : CacheLists = record { sampled = record { traces = a; size = k }; not_sampled = record { traces = x; size = n } } in z) ≡ (let z : CacheLists = record { sampled = record { traces = b; size = l }; not_sampled = record { traces = y; size = o } } in z)
      both_lists a b x y k l n o e f g h = rw (e, f, g, h) refl

  put_holds : (p : Opening) (v : Verdict) → slice_get noted.openings m ≡ Some p → caches_of (opened (touch p v ∷ noted.touches)) ≡ after_put p.trace v (caches s held)
  put_holds p v e =
      let c = caches s held in
      let k : Split p (in_buffer s noted) = record { front = kept; back = []; is = buffer_is ∙ ap (λ (r : Option Opening). kept ++ option_to_list r) e } in
      let a1 = buffered_not_cached s noted (length past) w p k Sampled (in_cache s noted Sampled p.trace) refl in
      let a2 = buffered_not_cached s noted (length past) w p k NotSampled (in_cache s noted NotSampled p.trace) refl in
      let out : is_held_in_either p.trace c ≡ false = rw (a1, a2) refl in
      let r = put_remembers p.trace v c in
      let stands = stands-put c (after_put p.trace v c) p.trace v r.0 out r.1 noted.touches p.at (stands_for s past noted (length past) w) r.2 in
      let sizes = sizes_put p.trace v c in
      same_lists (caches_of (opened (touch p v ∷ noted.touches))) (after_put p.trace v c)
      (ap (λ n. take n (last_touched Sampled (touch p v ∷ noted.touches))) (sym sizes.0) ∙ sym stands.0.0)
      (ap (λ n. take n (last_touched NotSampled (touch p v ∷ noted.touches))) (sym sizes.1) ∙ sym stands.1.0)
      (sym sizes.0) (sym sizes.1)

  opens_caches_decided : (lost : Bool) (p : Opening) → slice_get noted.openings m ≡ Some p → (d : Option Verdict) → decided_as noted p.at ≡ d →
      caches_of (opened (cond lost [] (touch_of_leaving_decided p d) ++ noted.touches)) ≡ after_leaving_decided lost p.trace d (caches s held)
  opens_caches_decided true p e None d = refl
  opens_caches_decided false p e None d = refl
  opens_caches_decided true p e (Some v) d = refl
  opens_caches_decided false p e (Some v) d = put_holds p v e

  opens_caches : (lost : Bool) (r : Option Opening) → slice_get noted.openings m ≡ r →
      caches_of (opened (cond lost [] (touch_of_leaving noted r) ++ noted.touches)) ≡ after_leaving lost (option_map (λ p. evicted_as (episode s past noted p)) r) (caches s held)
  opens_caches true None e = refl
  opens_caches false None e = refl
  opens_caches lost (Some p) e = opens_caches_decided lost p e (decided_as noted p.at) refl

  opens_holds : (lost : Bool) → Each (λ (x : Opening). same_trace x.trace t ≡ false) front → standing_by s (entry_of false lost ∷ past) (after_of lost opens) ≡ after_opening_in s (suc m) lost t a clocked
  opens_holds lost none =
      let r = slice_get noted.openings m in
      let touches = cond lost [] (touch_of_leaving noted r) ++ noted.touches in
      let x = opening_episode t a (max a.moment (clock past)) s.maximum_trace_size in
      let c = opens_caches lost r refl ∙ ap (λ e. after_leaving lost e (caches s held)) (sym (leaves_is r refl)) in
      ap (λ (l : Option Opening). standing_by s (entry_of false lost ∷ past) (opened (cond lost [] (touch_of_leaving noted l) ++ noted.touches))) leaving_is
      ∙ same_parts s noted _ _ _ _ _ _ (max a.moment (clock past)) (mark past) _ _
      (episodes_next lost touches none ∙ sym (opens_episodes x r refl)) (ap (λ (l : CacheLists). l.sampled.traces) c) (ap (λ (l : CacheLists). l.not_sampled.traces) c) (same_ends false lost)

  -- ---- together

  asked_state : {r : Option (Option Verdict)} → r ≡ state_cached (cache s noted Sampled) (cache s noted NotSampled) t → r ≡ option_map (λ (v : Verdict). Some v) (asked t (caches s held))
  asked_state e = e ∙ state_asked t (caches s held)

  not_undecided : (r : Option Verdict) → Some None ≡ option_map (λ (v : Verdict). Some v) r → ⊥
  not_undecided None e = cc e
  not_undecided (Some v) e = cc e

  unknown_holds : (lost : Bool) → find (λ (x : Opening). same_trace x.trace t) (in_buffer s noted) ≡ None → (f : Finding) → finding s noted t ≡ f → state_found f ≡ option_map (λ (v : Verdict). Some v) (asked t (caches s held)) →
      standing_by s (entry_of false lost ∷ past) (after_of lost f) ≡ after_unknown s (suc m) lost t a clocked (asked t (caches s held))
  unknown_holds lost e (joins o) f g = absurd (not_undecided (asked t (caches s held)) g)
  unknown_holds lost e (meets o v) f g =
      let own = λ (x : Opening). same_trace x.trace t in
      let none : Each (λ (x : Opening). own x ≡ false) front = Each-reverse (λ (x : Opening). own x ≡ false) (in_buffer s noted) (not_found own (in_buffer s noted) e) in
      let asks = asked_from (asked t (caches s held)) v (sym g) in
      let facts = meets_latest s noted t o v f in
      late_holds lost o v none f (behind_buffer s noted past sound t o facts.0 e) asks ∙ ap (after_unknown s (suc m) lost t a clocked) (sym asks)
  unknown_holds lost e opens f g =
      let own = λ (x : Opening). same_trace x.trace t in
      let none : Each (λ (x : Opening). own x ≡ false) front = Each-reverse (λ (x : Opening). own x ≡ false) (in_buffer s noted) (not_found own (in_buffer s noted) e) in
      opens_holds lost none ∙ ap (after_unknown s (suc m) lost t a clocked) (sym (asked_none (asked t (caches s held)) (sym g)))

  kept_holds : (lost : Bool) (r : Option Opening) → find (λ (x : Opening). same_trace x.trace t) (in_buffer s noted) ≡ r →
      standing_by s (entry_of false lost ∷ past) (after_of lost (finding s noted t)) ≡ after_episode s (suc m) lost t a clocked (option_map (episode s past noted) r)
  kept_holds lost None e = unknown_holds lost e (finding s noted t) refl (asked_state (found_past s past noted (length past) t sound w (latest_episode noted t) refl e))
  kept_holds lost (Some o) e =
      let own = λ (x : Opening). same_trace x.trace t in
      let f = buffer_front s.num_traces noted.openings in
      let k = found own (in_buffer s noted) o e in
      let l : latest_episode noted t ≡ Some o = ap (find own) f.1 ∙ find_front own (in_buffer s noted) f.0 o e in
      let inside : is_in_buffer s noted o.at ≡ true = ap (list_any (λ (x : Opening). x.at == o.at)) k.is ∙ any_split (λ (x : Opening). x.at == o.at) k.front k.back o (eq-eqb o.at o.at refl) in
      known_holds lost o (find_reversed t (in_buffer s noted) w.apart (Some o) e) l inside (decided_as noted o.at) refl (finding s noted t) refl
      (found_here s past noted (length past) t sound w o l inside (decided_as noted o.at) refl)

  episode_held : episode_of t clocked.episodes ≡ option_map (episode s past noted) (find (λ (x : Opening). same_trace x.trace t) (in_buffer s noted))
  episode_held = find_episode s past noted t front ∙ ap (option_map (episode s past noted)) (find_reversed t (in_buffer s noted) w.apart (find (λ (x : Opening). same_trace x.trace t) (in_buffer s noted)) refl)

  span_holds : (refused lost : Bool) → standing_by s (entry_of refused lost ∷ past) (cond refused noted (after_of lost (finding s noted t))) ≡ after_span_of s (suc m) refused lost t a clocked
  span_holds true lost = refused_same lost
  span_holds false lost = kept_holds lost (find (λ (x : Opening). same_trace x.trace t) (in_buffer s noted)) refl ∙ ap (after_episode s (suc m) lost t a clocked) (sym episode_held)

-- ---- an item

module _ (s : Settings) (m : ℕ) (lim : s.num_traces ≡ Some (suc m)) (past : Journal) where
  span_ids : (a : Arrival) (refused lost : Bool) (given : List (List Bool)) (ids : Option Ids) → a.rec.span.ids ≡ ids → has_ids (Span a) ≡ true → let e : Entry = record { item = Span a; refused = refused; lost = lost; answers = given } in
      standing_by s (e ∷ past) (after_span s ids e past (notes s past)) ≡ after_span_in s (suc m) refused lost a ids (record (standing_by s past (notes s past)) { clock = max a.moment (clock past) })
  span_ids a refused lost given None i h = absurd (cc (i, h))
  span_ids a refused lost given (Some ids) i h = span_holds s m lim past a ids i given refused lost

  lim_room : HasRoom s.num_traces
  lim_room e = absurd (cc (lim, e))

  zero-max : (n : ℕ) → max 0 n ≡ n
  zero-max n = omega arith

  no_spans : (later : Entry) → ((o : Opening) → item_spans o (length past) later.refused later.item ≡ []) → episodes s (later ∷ past) (notes s past) ≡ episodes s past (notes s past)
  no_spans later f = map_same (episode s (later ∷ past) (notes s past)) (episode s past (notes s past)) (reverse (in_buffer s (notes s past)))
      (Each-all (λ o. episode s (later ∷ past) (notes s past) o ≡ episode s past (notes s past) o) (reverse (in_buffer s (notes s past)))
      (λ o. episode_same s later past (notes s past) o (f o)))

  item_holds : (item : Item) (refused lost : Bool) (given : List (List Bool)) → has_ids item ≡ true → let e : Entry = record { item = item; refused = refused; lost = lost; answers = given } in
      standing_by s (e ∷ past) (after_item s e past item (notes s past)) ≡ after_entry s (suc m) refused lost item (standing_by s past (notes s past))
  item_holds (Span a) refused lost given h = span_ids a refused lost given a.rec.span.ids refl h
  item_holds (Tick k) refused lost given h =
      let e : Entry = record { item = Tick k; refused = refused; lost = lost; answers = given } in
      same_parts s (notes s past) _ _ _ _ _ _ (max k (clock past)) (max k (clock past)) _ _ (no_spans e (λ o. refl)) refl refl (ends-tick s lim_room k refused lost given past s.senders)
  item_holds (End sender) refused lost given h =
      let e : Entry = record { item = End sender; refused = refused; lost = lost; answers = given } in
      ap (λ c. standing_of s (notes s past) (episodes s (e ∷ past) (notes s past)) (cache s (notes s past) Sampled) (cache s (notes s past) NotSampled) c (mark past) (ends (e ∷ past) s.senders)) (zero-max (clock past))
      ∙ same_parts s (notes s past) _ _ _ _ _ _ (clock past) (mark past) _ _ (no_spans e (λ o. refl)) refl refl (ends-end s lim_room sender refused lost given past s.senders)

pub keeps_standing : KeepsStanding
keeps_standing s zero past dealt e lim h d ids = absurd (omega (arith, h))
keeps_standing s (suc m) past dealt e lim h d ids =
    item_holds s m lim past e.item e.refused e.lost e.answers ids
    ∙ ap (λ (n : Notes). after_entry s (suc m) e.refused e.lost e.item (standing_by s past n)) (sym (all_dealt s past dealt d))
