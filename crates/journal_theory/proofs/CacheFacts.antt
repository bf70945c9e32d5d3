-- What is known of what the caches hold: at first, after decisions, and after an item that touches nothing or one
-- trace. For `keeps_standing` and `found_as_held` of `laws`.
use Rattle.std.proofs.Common.{◌≡◌, ℕ, zero, suc, ◌<◌, Bool, true, false, cond, ◌||◌, ◌==◌, List, [], ◌∷◌, ◌++◌, take, reverse, find, Option, Some, None, option_map, refl, ap, sym, ◌∙◌, arith, ne_eqb, eq-eqb}
use Rattle.std.specs.List.{list_any}
use Rattle.std.proofs.lemmas.Bool.{or_parts}
use Rattle.span_ids.proofs.SameTraces.{same_trace-is, same_trace-sym}
use Rattle.span_ids.specs.Same.{same_trace}
use Rattle.span_ids.specs.declared.ids.TraceId.{TraceId}
use Rattle.span_ids.specs.declared.outcome.Verdict.{Verdict}
use Rattle.span_ids.specs.declared.outcome.Verdict.TheVariants.{Sampled, NotSampled}
use Rattle.decision_cache.specs.Lists.{is_held}
use Rattle.decision_cache.specs.Touches.{Touch, is_same_verdict, last_touched, last_touch}
use Rattle.decision_cache.proofs.Laws.{verdict-refl, touched-other, not_brought_in}
use Rattle.journal_theory.specs.Journal.{Settings, Journal, Opening, Decision, Notes, in_buffer, is_in_buffer, last_of, decided_as, latest_episode, cache_size, touch, after_decisions, no_notes}
use Rattle.journal_theory.proofs.ListFacts.{Each, Each-weaker, Each-reverse, Pairs, Pairs-across, Each-split}
use Rattle.journal_theory.proofs.Find.{found, not_found, find_past, any_none}
use Rattle.journal_theory.proofs.Notes.{IsOlder, Sound, buffer_front}

-- ---- tests

pub clash : {P : Type 0} → true ≡ false → P
clash e = absurd (cc e)

-- two traces are the same, or not
pub either : (s t : TraceId) → {P : Type 0} → (same_trace s t ≡ true → P) → (same_trace s t ≡ false → P) → P
either s t {P} f g = go (same_trace s t) refl
  where
    go : (b : Bool) → same_trace s t ≡ b → P
    go true e = f e
    go false e = g e

pub or-right : (a b : Bool) → b ≡ true → (a || b) ≡ true
or-right true b e = refl
or-right false b e = e

pub any-left : {X : Type 0} (q : X → Bool) (xs ys : List X) → list_any q (xs ++ ys) ≡ false → list_any q xs ≡ false
any-left q [] ys e = refl
any-left q (x ∷ xs) ys e = let w = or_parts (q x) (list_any q (xs ++ ys)) e in rw w.0 (any-left q xs ys w.1)

any-each : {X : Type 0} (P : X → Type 0) (q : X → Bool) (xs : List X) → Each P xs → list_any q xs ≡ true → (x : X) × P x × (q x ≡ true)
any-each P q [] h e = absurd (cc e)
any-each {X} P q (x ∷ xs) h e = go (q x) refl e (any-each P q xs h.1)
  where
    go : (b : Bool) → q x ≡ b → (b || list_any q xs) ≡ true → (list_any q xs ≡ true → (y : X) × P y × (q y ≡ true)) → (y : X) × P y × (q y ≡ true)
    go true k e f = (x, h.0, k)
    go false k e f = f e

-- of positions that fall, two openings at one position are one
pub same_opening : (p q : Opening → Bool) (os : List Opening) (x y : Opening) → Pairs IsOlder os → find p os ≡ Some x → find q os ≡ Some y → x.at ≡ y.at → x ≡ y
same_opening p q [] x y h e f k = absurd (cc e)
same_opening p q (o ∷ os) x y h e f k = go (p o) (q o) refl refl e f (λ e f. same_opening p q os x y h.1 e f k)
  where
    older : (r : Opening → Bool) (z : Opening) → find r os ≡ Some z → z.at < o.at
    older r z g = let w = found r os z g in Each-split (IsOlder o) z os (record { front = w.front; back = w.back; is = w.is }) h.0

    go : (a b : Bool) → p o ≡ a → q o ≡ b → cond a (Some o) (find p os) ≡ Some x → cond b (Some o) (find q os) ≡ Some y → (find p os ≡ Some x → find q os ≡ Some y → x ≡ y) → x ≡ y
    go true true u v e f r = cc
    go true false u v e f r = let i : o ≡ x = cc in let l = older q y f in let m : x.at ≡ o.at = ap (λ (z : Opening). z.at) (sym i) in absurd (omega (arith, l, m, k))
    go false true u v e f r = let i : o ≡ y = cc in let l = older p x e in let m : y.at ≡ o.at = ap (λ (z : Opening). z.at) (sym i) in absurd (omega (arith, l, m, k))
    go false false u v e f r = r e f

-- ---- what is known of the caches

abbrev pub OtherTrace : Opening → Opening → Type 0
OtherTrace newer older = same_trace older.trace newer.trace ≡ false

-- the cache of a verdict holds the trace
abbrev pub in_cache : Settings → Notes → Verdict → TraceId → Bool
in_cache s noted v t = is_held t (take (cache_size s v) (last_touched v noted.touches))

-- the episode that opened at this position was touched
abbrev pub was_touched : Notes → (opened_at : ℕ) → Bool
was_touched noted at = list_any (λ (u : Touch). u.episode == at) noted.touches

-- the trace's latest episode is out of the buffer, decided so, and was touched
pub record Outside (s : Settings) (noted : Notes) (t : TraceId) (v : Verdict) : Type 0 where
  pub opening : Opening
  pub latest : latest_episode noted t ≡ Some opening
  pub out : is_in_buffer s noted opening.at ≡ false
  pub decided : decided_as noted opening.at ≡ Some v
  pub touched : was_touched noted opening.at ≡ true

-- the trace was last touched with this verdict
abbrev pub LastWith : List Touch → TraceId → Verdict → Type 0
LastWith touches t v = (u : Touch) × (last_touch t touches ≡ Some u) × (u.verdict ≡ v)

pub record Remembering (s : Settings) (noted : Notes) (n : ℕ) : Type 0 where
  pub apart : Pairs OtherTrace (in_buffer s noted)
  pub touched : Each (λ (u : Touch). (u.episode < n) × (is_in_buffer s noted u.episode ≡ false)) noted.touches
  pub held : (v : Verdict) (t : TraceId) → in_cache s noted v t ≡ true → Outside s noted t v
  pub last : (v : Verdict) (t : TraceId) → Outside s noted t v → LastWith noted.touches t v

-- an episode that was touched is out of the buffer
pub touched_out : (s : Settings) (noted : Notes) (n at : ℕ) → Each (λ (u : Touch). (u.episode < n) × (is_in_buffer s noted u.episode ≡ false)) noted.touches → was_touched noted at ≡ true → is_in_buffer s noted at ≡ false
touched_out s noted n at h e =
    let w = any-each (λ (u : Touch). (u.episode < n) × (is_in_buffer s noted u.episode ≡ false)) (λ (u : Touch). u.episode == at) noted.touches h e in
    let same : w.0.episode ≡ at = eqb-is w.0.episode at w.2 in
    ap (is_in_buffer s noted) (sym same) ∙ w.1.1
  where
    eqb-is : (a b : ℕ) → (a == b) ≡ true → a ≡ b
    eqb-is a b e = grind (arith, e)

-- ---- without touches

nothing_held : (n : ℕ) (t : TraceId) → is_held t (take n []) ≡ false
nothing_held zero t = refl
nothing_held (suc n) t = refl

nothing_buffered : (num_traces : Option ℕ) → last_of num_traces [] ≡ []
nothing_buffered None = refl
nothing_buffered (Some zero) = refl
nothing_buffered (Some (suc n)) = refl

pub remembering_none : (s : Settings) → Remembering s no_notes 0
remembering_none s = record {
  apart = rw (nothing_buffered s.num_traces) tt;
  touched = tt;
  held = λ v t e. clash (sym e ∙ nothing_held (cache_size s v) t);
  last = λ v t o. absurd (cc (o.latest));
}

-- ---- after decisions

-- decisions of episodes in the buffer leave the others as they were
decided_outside : (s : Settings) (noted : Notes) (ds : List Decision) (at : ℕ) → Each (λ (d : Decision). is_in_buffer s noted d.opening.at ≡ true) ds → is_in_buffer s noted at ≡ false → decided_as (after_decisions ds noted) at ≡ decided_as noted at
decided_outside s noted ds at h out =
    ap (option_map (λ (d : Decision). d.verdict)) (find_past (λ (d : Decision). d.opening.at == at) (reverse ds) noted.decisions
    (Each-weaker (λ (d : Decision). is_in_buffer s noted d.opening.at ≡ true) (λ (d : Decision). (d.opening.at == at) ≡ false) (reverse ds)
    (λ d b. ne_eqb d.opening.at at (λ q. clash (sym b ∙ ap (is_in_buffer s noted) q ∙ out)))
    (Each-reverse (λ (d : Decision). is_in_buffer s noted d.opening.at ≡ true) ds h)))

pub remembering_decided : (s : Settings) (noted : Notes) (n : ℕ) (ds : List Decision) → Each (λ (d : Decision). is_in_buffer s noted d.opening.at ≡ true) ds → Remembering s noted n → Remembering s (after_decisions ds noted) n
remembering_decided s noted n ds h w = record {
  apart = w.apart;
  touched = w.touched;
  held = λ v t e. let o = w.held v t e in record { opening = o.opening; latest = o.latest; out = o.out; decided = decided_outside s noted ds o.opening.at h o.out ∙ o.decided; touched = o.touched };
  last = λ v t o. w.last v t (record { opening = o.opening; latest = o.latest; out = o.out; decided = sym (decided_outside s noted ds o.opening.at h o.out) ∙ o.decided; touched = o.touched });
}

-- ---- after an item

pub later : (s : Settings) (noted : Notes) (n : ℕ) → Remembering s noted n → Remembering s noted (suc n)
later s noted n w = record {
  apart = w.apart;
  touched = Each-weaker (λ (u : Touch). (u.episode < n) × (is_in_buffer s noted u.episode ≡ false)) (λ (u : Touch). (u.episode < suc n) × (is_in_buffer s noted u.episode ≡ false)) noted.touches (λ u h. (omega (arith, h.0), h.1)) w.touched;
  held = w.held;
  last = w.last;
}

verdicts_differ : (v w : Verdict) → v ≡ w → is_same_verdict v w ≡ true
verdicts_differ v w e = ap (is_same_verdict v) (sym e) ∙ verdict-refl v

pub same_verdicts : (v w : Verdict) → is_same_verdict v w ≡ true → v ≡ w
same_verdicts Sampled Sampled e = refl
same_verdicts Sampled NotSampled e = absurd (cc e)
same_verdicts NotSampled Sampled e = absurd (cc e)
same_verdicts NotSampled NotSampled e = refl

-- a touch of another trace, or with another verdict, brings no trace into a cache
pub still_in : (s : Settings) (noted m : Notes) (u : Touch) (v : Verdict) (x : TraceId) → m.touches ≡ u ∷ noted.touches → (b : Bool) → is_same_verdict u.verdict v ≡ b → (b ≡ true → same_trace u.trace x ≡ false) → in_cache s m v x ≡ true → in_cache s noted v x ≡ true
still_in s noted m u v x q true k f e = go (in_cache s noted v x) refl
  where
    other : same_trace x u.trace ≡ false
    other = same_trace-sym x u.trace ∙ f refl

    go : (b : Bool) → in_cache s noted v x ≡ b → in_cache s noted v x ≡ true
    go true h = h
    go false h = clash (sym e ∙ ap (λ us. is_held x (take (cache_size s v) (last_touched v us))) q ∙ not_brought_in v x u (cache_size s v) noted.touches k other h)
still_in s noted m u v x q false k f e = sym (ap (λ us. is_held x (take (cache_size s v) (last_touched v us))) q ∙ ap (λ ts. is_held x (take (cache_size s v) ts)) (touched-other v u noted.touches k)) ∙ e

pub last_own : (t : TraceId) (u : Touch) (touches : List Touch) → same_trace u.trace t ≡ true → last_touch t (u ∷ touches) ≡ Some u
last_own t u touches h = rw h refl

pub last_other : (t : TraceId) (u : Touch) (touches : List Touch) → same_trace u.trace t ≡ false → last_touch t (u ∷ touches) ≡ last_touch t touches
last_other t u touches h = rw h refl

-- a span that meets a verdict outside the buffer
module _ (s : Settings) (noted : Notes) (n : ℕ) (J : Journal) (sound : Sound s J noted) (w : Remembering s noted n) (t : TraceId) (o : Opening) (v : Verdict) (l : latest_episode noted t ≡ Some o) (below : o.at < n) (out : is_in_buffer s noted o.at ≡ false) (d : decided_as noted o.at ≡ Some v) where
  abbrev met : Notes
  met = record noted { touches = touch o v ∷ noted.touches }

  trace_is : same_trace o.trace t ≡ true
  trace_is = (found (λ (p : Opening). same_trace p.trace t) noted.openings o l).passes

  -- the trace of the opening has it as its latest
  latest_own : (x : TraceId) → same_trace o.trace x ≡ true → latest_episode noted x ≡ Some o
  latest_own x e = ap (latest_episode noted) (sym (same_trace-is o.trace x e) ∙ same_trace-is o.trace t trace_is) ∙ l

  held_own : (b : Bool) (v2 : Verdict) (x : TraceId) → is_same_verdict v v2 ≡ b → same_trace o.trace x ≡ true → in_cache s met v2 x ≡ true → Outside s met x v2
  held_own true v2 x k e h = record { opening = o; latest = latest_own x e; out = out; decided = d ∙ ap (λ (z : Verdict). Some z) (same_verdicts v v2 k); touched = ap (λ b. b || was_touched noted o.at) (eq-eqb o.at o.at refl) }
  held_own false v2 x k e h =
      let old = w.held v2 x (still_in s noted met (touch o v) v2 x refl false k (λ q. absurd (cc q)) h) in
      let is : o ≡ old.opening = cc (latest_own x e, old.latest) in
      let verdict : v ≡ v2 = cc (d, ap (decided_as noted) (ap (λ (z : Opening). z.at) is), old.decided) in
      clash (sym (verdicts_differ v v2 verdict) ∙ k)

  held_met : (v2 : Verdict) (x : TraceId) → in_cache s met v2 x ≡ true → Outside s met x v2
  held_met v2 x h = either o.trace x (λ e. held_own (is_same_verdict v v2) v2 x refl e h)
      (λ e. let old = w.held v2 x (still_in s noted met (touch o v) v2 x refl (is_same_verdict v v2) refl (λ _. e) h) in
      record { opening = old.opening; latest = old.latest; out = old.out; decided = old.decided; touched = or-right (o.at == old.opening.at) (was_touched noted old.opening.at) old.touched })

  last_met : (v2 : Verdict) (x : TraceId) → Outside s met x v2 → LastWith met.touches x v2
  last_met v2 x a = either o.trace x
      (λ e. let is : o ≡ a.opening = cc (latest_own x e, a.latest) in
      (touch o v, last_own x (touch o v) noted.touches e, cc (d, ap (decided_as noted) (ap (λ (z : Opening). z.at) is), a.decided)))
      (λ e. let u = w.last v2 x (record { opening = a.opening; latest = a.latest; out = a.out; decided = a.decided; touched = old_touch e (o.at == a.opening.at) refl a.touched }) in
      (u.0, last_other x (touch o v) noted.touches e ∙ u.1, u.2))
    where
      old_touch : same_trace o.trace x ≡ false → (b : Bool) → (o.at == a.opening.at) ≡ b → (b || was_touched noted a.opening.at) ≡ true → was_touched noted a.opening.at ≡ true
      old_touch e true k h =
          let same : o.at ≡ a.opening.at = grind (arith, k) in
          let is = same_opening (λ (p : Opening). same_trace p.trace t) (λ (p : Opening). same_trace p.trace x) noted.openings o a.opening sound.ordered l a.latest same in
          let own : same_trace a.opening.trace x ≡ true = (found (λ (p : Opening). same_trace p.trace x) noted.openings a.opening a.latest).passes in
          clash (sym own ∙ ap (λ (z : Opening). same_trace z.trace x) (sym is) ∙ e)
      old_touch e false k h = h

  pub remembering_met : Remembering s met n
  remembering_met = record { apart = w.apart; touched = ((below, out), w.touched); held = held_met; last = last_met }

-- a trace that the buffer doesn't have has its latest episode behind it
pub behind_buffer : (s : Settings) (noted : Notes) (J : Journal) → Sound s J noted → (t : TraceId) (o : Opening) → latest_episode noted t ≡ Some o → find (λ (p : Opening). same_trace p.trace t) (in_buffer s noted) ≡ None → is_in_buffer s noted o.at ≡ false
behind_buffer s noted J sound t o l e =
    let own = λ (p : Opening). same_trace p.trace t in
    let front = buffer_front s.num_traces noted.openings in
    let rest : find own front.0 ≡ Some o = sym (ap (find own) front.1 ∙ find_past own (in_buffer s noted) front.0 (not_found own (in_buffer s noted) e)) ∙ l in
    let k = found own front.0 o rest in
    any_none (λ (p : Opening). p.at == o.at) (in_buffer s noted)
    (Each-weaker (λ (b : Opening). Each (IsOlder b) front.0) (λ (b : Opening). (b.at == o.at) ≡ false) (in_buffer s noted)
    (λ b a. let l : o.at < b.at = Each-split (IsOlder b) o front.0 (record { front = k.front; back = k.back; is = k.is }) a in ne_eqb b.at o.at (λ q. omega (arith, l, q)))
    (Pairs-across IsOlder (in_buffer s noted) front.0 (rw front.1 at (sound.ordered))))
