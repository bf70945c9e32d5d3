-- The code's steps keep each trace once in the buffer, out of the caches, and opened by the clock.
-- For the contracts of `decide`, `new`, `take_span` and `take_tick`.
use Rattle.std.proofs.Common.{◌≡◌, ℕ, zero, suc, ◌-◌, ◌<◌, ◌≤◌, nat_le, ◌==◌, Bool, true, false, ◌&&◌, ◌||◌, cond, List, [], ◌∷◌, ◌++◌, length, take, drop, slice_get, Option, Some, None, option_map, Result, Ok, Err, refl, sym, ap, subst, ◌∙◌, arith}
use Rattle.std.proofs.lemmas.Bool.Decides.{nat_tests}
use Rattle.std.proofs.lemmas.List.{map-append}
use Rattle.span_ids.proofs.SameTraces.{same_trace-is, same_trace-sym}
use Rattle.span_ids.specs.Same.{same_trace}
use Rattle.span_ids.specs.declared.ids.TraceId.{TraceId}
use Rattle.span_ids.specs.declared.outcome.Verdict.{Verdict}
use Rattle.span_ids.specs.declared.outcome.Verdict.TheVariants.{Sampled, NotSampled}
use Rattle.otlp_types.specs.declared.arrival.Arrival.{Arrival}
use Rattle.trace_buffer.specs.Buffer.{Episode, Buffer, append_first, with_span, episode_of, after_opening, opening_episode, leaves, evicted_as, opened_by, settle_first, settled, is_due_at, with_settled, AppendedTo}
use Rattle.trace_buffer.specs.declared.episode.Evicted.{Evicted}
use Rattle.decision_cache.specs.Lists.{CacheLists, TraceList, is_held, is_held_in_either, asked, after_asking, renewed, renewed_if, renews, without, PutAs, Remembers}
use Rattle.decision_cache.specs.declared.traces.Remembered.{Remembered}
use Rattle.decision_cache.specs.declared.traces.Remembered.TheVariants.{Kept, Off, Lost}
use Rattle.shard_core.specs.Forgotten.{traces, AreForgotten}
use Rattle.shard_core.specs.Holding.{Puts, PutsDecided}

no : {P : Type 0} → true ≡ false → P
no e = absurd (cc e)

either-no : (a b : Bool) → (a || b) ≡ false → (a ≡ false) × (b ≡ false)
either-no true b e = no e
either-no false b e = (refl, e)

-- ---- opened by the clock

at-most : (m c d : ℕ) → nat_le m c ≡ true → c ≤ d → nat_le m d ≡ true
at-most m c d e l = grind (arith, nat_tests, e, l)

pub opened-later : (c d : ℕ) (es : List Episode) → c ≤ d → opened_by c es ≡ true → opened_by d es ≡ true
opened-later c d [] l h = refl
opened-later c d (e ∷ es) l h = go (nat_le e.moment c) refl h (opened-later c d es l)
  where
    go : (b : Bool) → nat_le e.moment c ≡ b → (b && opened_by c es) ≡ true → (opened_by c es ≡ true → opened_by d es ≡ true) → (nat_le e.moment d && opened_by d es) ≡ true
    go true k h f = rw (at-most e.moment c d k l, f h) refl
    go false k h f = absurd (cc h)

pub opened-append : (c : ℕ) (t : TraceId) (k : ℕ) (a : Arrival) (es : List Episode) → opened_by c (append_first t k a es) ≡ opened_by c es
opened-append c t k a [] = refl
opened-append c t k a (e ∷ es) = (elim (same_trace e.trace t) as (λ b. opened_by c (cond b (with_span k a e ∷ es) (e ∷ append_first t k a es)) ≡ (nat_le e.moment c && opened_by c es)) [
  | true ↦ refl
  | false ↦ ap (λ b. nat_le e.moment c && b) (opened-append c t k a es)
])

pub opened-settle : (c m w r : ℕ) (v : Verdict) (es : List Episode) → opened_by c (settle_first m w r v es) ≡ opened_by c es
opened-settle c m w r v [] = refl
opened-settle c m w r v (e ∷ es) = (elim (is_due_at m w r e) as (λ b. opened_by c (cond b (settled v e ∷ es) (e ∷ settle_first m w r v es)) ≡ (nat_le e.moment c && opened_by c es)) [
  | true ↦ refl
  | false ↦ ap (λ b. nat_le e.moment c && b) (opened-settle c m w r v es)
])

opened-drop : (c : ℕ) (es : List Episode) → opened_by c es ≡ true → opened_by c (drop 1 es) ≡ true
opened-drop c [] h = refl
opened-drop c (e ∷ es) h = go (nat_le e.moment c) h
  where
    go : (b : Bool) → (b && opened_by c es) ≡ true → opened_by c es ≡ true
    go true h = h
    go false h = absurd (cc h)

self-most : (c : ℕ) → nat_le c c ≡ true
self-most c = grind (arith, nat_tests)

opened-push : (c m : ℕ) (t : TraceId) (a : Arrival) (es : List Episode) → opened_by c es ≡ true → opened_by c (es ++ opening_episode t a c m ∷ []) ≡ true
opened-push c m t a [] h = rw (self-most c) refl
opened-push c m t a (e ∷ es) h = go (nat_le e.moment c) h (opened-push c m t a es)
  where
    go : (b : Bool) → (b && opened_by c es) ≡ true → (opened_by c es ≡ true → opened_by c (es ++ opening_episode t a c m ∷ []) ≡ true) → (b && opened_by c (es ++ opening_episode t a c m ∷ [])) ≡ true
    go true h f = f h
    go false h f = absurd (cc h)

pub opened-open : (c m : ℕ) (t : TraceId) (a : Arrival) (b : Buffer) → opened_by c b.episodes ≡ true → opened_by c (after_opening b (opening_episode t a c m)).episodes ≡ true
opened-open c m t a b h = go (length b.episodes == b.num_traces)
  where
    go : (x : Bool) → opened_by c (cond x (drop 1 b.episodes) b.episodes ++ opening_episode t a c m ∷ []) ≡ true
    go true = opened-push c m t a (drop 1 b.episodes) (opened-drop c b.episodes h)
    go false = opened-push c m t a b.episodes h

-- ---- each trace once, and in no cache

pub traces-append : (t : TraceId) (k : ℕ) (a : Arrival) (es : List Episode) → traces (append_first t k a es) ≡ traces es
traces-append t k a [] = refl
traces-append t k a (e ∷ es) = (elim (same_trace e.trace t) as (λ b. traces (cond b (with_span k a e ∷ es) (e ∷ append_first t k a es)) ≡ e.trace ∷ traces es) [
  | true ↦ refl
  | false ↦ ap (λ (ts : List TraceId). e.trace ∷ ts) (traces-append t k a es)
])

pub traces-settle : (m w r : ℕ) (v : Verdict) (es : List Episode) → traces (settle_first m w r v es) ≡ traces es
traces-settle m w r v [] = refl
traces-settle m w r v (e ∷ es) = (elim (is_due_at m w r e) as (λ b. traces (cond b (settled v e ∷ es) (e ∷ settle_first m w r v es)) ≡ e.trace ∷ traces es) [
  | true ↦ refl
  | false ↦ ap (λ (ts : List TraceId). e.trace ∷ ts) (traces-settle m w r v es)
])

weaker : (c d : CacheLists) → ((x : TraceId) → is_held_in_either x c ≡ false → is_held_in_either x d ≡ false) → (ts : List TraceId) → AreForgotten ts c → AreForgotten ts d
weaker c d f [] h = tt
weaker c d f (t ∷ ts) h = (h.0, f t h.1, weaker c d f ts h.2)

-- a trace that goes first was there
held-without : (x t : TraceId) (ts : List TraceId) → is_held x ts ≡ false → is_held x (without t ts) ≡ false
held-without x t [] h = refl
held-without x t (u ∷ ts) h = go (same_trace t u) (either-no (same_trace x u) (is_held x ts) h) (held-without x t ts)
  where
    go : (b : Bool) → (same_trace x u ≡ false) × (is_held x ts ≡ false) → (is_held x ts ≡ false → is_held x (without t ts) ≡ false) → is_held x (cond b ts (u ∷ without t ts)) ≡ false
    go true w f = w.1
    go false w f = rw w.0 (f w.1)

not-held-same : (x t : TraceId) (ts : List TraceId) → is_held x ts ≡ false → is_held t ts ≡ true → (b : Bool) → same_trace x t ≡ b → b ≡ false
not-held-same x t ts h k true e = no (sym k ∙ ap (λ (z : TraceId). is_held z ts) (sym (same_trace-is x t e)) ∙ h)
not-held-same x t ts h k false e = refl

held-renewed : (x t : TraceId) (ts : List TraceId) → is_held x ts ≡ false → is_held x (renewed t ts) ≡ false
held-renewed x t ts h = go (is_held t ts) refl
  where
    go : (b : Bool) → is_held t ts ≡ b → is_held x (renewed_if b t ts) ≡ false
    go true e = rw (not-held-same x t ts h e (same_trace x t) refl) (held-without x t ts h)
    go false e = h

out-asked : (t : TraceId) (c : CacheLists) (x : TraceId) → is_held_in_either x c ≡ false → is_held_in_either x (after_asking t c) ≡ false
out-asked t c x h = go (is_held t c.sampled.traces) (either-no (is_held x c.sampled.traces) (is_held x c.not_sampled.traces) h)
  where
    go : (b : Bool) → (is_held x c.sampled.traces ≡ false) × (is_held x c.not_sampled.traces ≡ false) → is_held_in_either x (cond b (record c { sampled = renews t c.sampled }) (record c { not_sampled = renews t c.not_sampled })) ≡ false
    go true w = rw (held-renewed x t c.sampled.traces w.0, w.1) refl
    go false w = rw (w.0, held-renewed x t c.not_sampled.traces w.1) refl

pub forgotten-asked : (t : TraceId) (c : CacheLists) (ts : List TraceId) → AreForgotten ts c → AreForgotten ts (after_asking t c)
forgotten-asked t c ts h = weaker c (after_asking t c) (out-asked t c) ts h

-- an asking that finds nothing changes nothing
pub asked-nothing : (t : TraceId) (c : CacheLists) → asked t c ≡ None → (is_held_in_either t c ≡ false) × (after_asking t c ≡ c)
asked-nothing t c e = go (is_held t c.sampled.traces) (is_held t c.not_sampled.traces) refl refl e
  where
    go : (a b : Bool) → is_held t c.sampled.traces ≡ a → is_held t c.not_sampled.traces ≡ b → cond a (Some Sampled) (cond b (Some NotSampled) None) ≡ None → (is_held_in_either t c ≡ false) × (after_asking t c ≡ c)
    go true b h k e = absurd (cc e)
    go false true h k e = absurd (cc e)
    go false false h k e = (rw (h, k) refl, rw (h, k) refl)

-- ---- an opening

episode-none : (t : TraceId) (es : List Episode) → episode_of t es ≡ None → is_held t (traces es) ≡ false
episode-none t [] h = refl
episode-none t (e ∷ es) h = go (same_trace e.trace t) refl h (episode-none t es)
  where
    go : (b : Bool) → same_trace e.trace t ≡ b → cond b (Some e) (episode_of t es) ≡ None → (episode_of t es ≡ None → is_held t (traces es) ≡ false) → (same_trace t e.trace || is_held t (traces es)) ≡ false
    go true k h f = absurd (cc h)
    go false k h f = rw (same_trace-sym t e.trace ∙ k) (f h)

held-push : (x t : TraceId) (ts : List TraceId) → is_held x ts ≡ false → same_trace x t ≡ false → is_held x (ts ++ t ∷ []) ≡ false
held-push x t [] h k = rw k refl
held-push x t (u ∷ ts) h k = let w = either-no (same_trace x u) (is_held x ts) h in rw w.0 (held-push x t ts w.1 k)

forgotten-push : (t : TraceId) (ts : List TraceId) (c : CacheLists) → is_held t ts ≡ false → is_held_in_either t c ≡ false → AreForgotten ts c → AreForgotten (ts ++ t ∷ []) c
forgotten-push t [] c h k w = (refl, k, tt)
forgotten-push t (u ∷ ts) c h k w =
    let x = either-no (same_trace t u) (is_held t ts) h in
    (held-push u t ts w.0 (same_trace-sym u t ∙ x.0), w.1, forgotten-push t ts c x.1 k w.2)

held-taken : (x : TraceId) (n : ℕ) (ts : List TraceId) → is_held x ts ≡ false → is_held x (take n ts) ≡ false
held-taken x zero ts h = refl
held-taken x (suc n) [] h = refl
held-taken x (suc n) (u ∷ ts) h = let w = either-no (same_trace x u) (is_held x ts) h in rw w.0 (held-taken x n ts w.1)

out-put-list : (t : TraceId) (old new : TraceList) (r : Remembered) (x : TraceId) → PutAs t old r new → same_trace x t ≡ false → is_held x old.traces ≡ false → is_held x new.traces ≡ false
out-put-list t old new Kept x p k h = let P = λ (l : TraceList). is_held x l.traces ≡ false in subst P (sym p.1) (rw k (held-taken x (old.size - 1) old.traces h))
out-put-list t old new Off x p k h = let P = λ (l : TraceList). is_held x l.traces ≡ false in subst P (sym p.1) h
out-put-list t old new Lost x p k h = let P = λ (l : TraceList). is_held x l.traces ≡ false in subst P (sym p.1) h

out-put : (t : TraceId) (v : Verdict) (old new : CacheLists) (r : Remembered) (x : TraceId) → Remembers t v old r new → same_trace x t ≡ false → is_held_in_either x old ≡ false → is_held_in_either x new ≡ false
out-put t Sampled old new r x p k h =
    let w = either-no (is_held x old.sampled.traces) (is_held x old.not_sampled.traces) h in
    let P = λ (l : TraceList). is_held x l.traces ≡ false in
    rw (out-put-list t old.sampled new.sampled r x p.0 k w.0, subst P (sym p.1) w.1) refl
out-put t NotSampled old new r x p k h =
    let w = either-no (is_held x old.sampled.traces) (is_held x old.not_sampled.traces) h in
    let P = λ (l : TraceList). is_held x l.traces ≡ false in
    rw (subst P (sym p.1) w.0, out-put-list t old.not_sampled new.not_sampled r x p.0 k w.1) refl

out-decided : (t : TraceId) (d : Option Verdict) (old new : CacheLists) (r : Option Remembered) (x : TraceId) → PutsDecided t d old r new → same_trace x t ≡ false → is_held_in_either x old ≡ false → is_held_in_either x new ≡ false
out-decided t None old new r x p k h = let P = λ (c : CacheLists). is_held_in_either x c ≡ false in subst P (sym p.1) h
out-decided t (Some v) old new r x p k h = out-put t v old new p.0 x p.2 k h

-- ---- what each of the buffer's calls keeps

-- what a shard keeps of its buffer and its caches
abbrev pub IsKept : (clock : ℕ) → Buffer → CacheLists → Type 0
IsKept clock b c = (0 < b.num_traces) × (opened_by clock b.episodes ≡ true) × AreForgotten (traces b.episodes) c

pub append_keeps : (clock : ℕ) (old new : Buffer) (c : CacheLists) (a : Arrival) (t : TraceId) {E : Type 0} (r : Result (Unit {0}) (Arrival × E)) → AppendedTo old a clock t r new → IsKept clock old c → IsKept clock new c
append_keeps clock old new c a t (Ok u) e k =
    let P = λ (b : Buffer). IsKept clock b c in
    let Q = λ (ts : List TraceId). AreForgotten ts c in
    subst P (sym e) (k.0, opened-append clock t clock a old.episodes ∙ k.1, subst Q (sym (traces-append t clock a old.episodes)) k.2)
append_keeps clock old new c a t (Err back) e k = let P = λ (b : Buffer). IsKept clock b c in subst P (sym e.1) k

pub settle_keeps : (clock m w r : ℕ) (v : Verdict) (old new : Buffer) (c : CacheLists) → new ≡ with_settled m w r v old → IsKept clock old c → IsKept clock new c
settle_keeps clock m w r v old new c e k =
    let P = λ (b : Buffer). IsKept clock b c in
    let Q = λ (ts : List TraceId). AreForgotten ts c in
    subst P (sym e) (k.0, opened-settle clock m w r v old.episodes ∙ k.1, subst Q (sym (traces-settle m w r v old.episodes)) k.2)

pub ask_keeps : (clock : ℕ) (b : Buffer) (t : TraceId) (old new : CacheLists) → new ≡ after_asking t old → IsKept clock b old → IsKept clock b new
ask_keeps clock b t old new e k = let P = λ (c : CacheLists). IsKept clock b c in subst P (sym e) (k.0, k.1, forgotten-asked t old (traces b.episodes) k.2)

pub later_keeps : (c d : ℕ) (b : Buffer) (l : CacheLists) → c ≤ d → IsKept c b l → IsKept d b l
later_keeps c d b l h k = (k.0, opened-later c d b.episodes h k.1, k.2)

-- ---- an opening

traces-drop : (es : List Episode) → traces (drop 1 es) ≡ drop 1 (traces es)
traces-drop [] = refl
traces-drop (e ∷ es) = refl

held-drop : (x : TraceId) (ts : List TraceId) → is_held x ts ≡ false → is_held x (drop 1 ts) ≡ false
held-drop x [] h = refl
held-drop x (t ∷ ts) h = (either-no (same_trace x t) (is_held x ts) h).1

out-of : (t : TraceId) (ts : List TraceId) (old new : CacheLists) → is_held t ts ≡ false → ((x : TraceId) → same_trace x t ≡ false → is_held_in_either x old ≡ false → is_held_in_either x new ≡ false) → AreForgotten ts old → AreForgotten ts new
out-of t [] old new h f w = tt
out-of t (u ∷ ts) old new h f w =
    let x = either-no (same_trace t u) (is_held t ts) h in
    (w.0, f u (same_trace-sym u t ∙ x.0) w.1, out-of t ts old new x.1 f w.2)

-- the caches after an opening that found no trace of this id
opening_caches : (b : Buffer) (c d : CacheLists) (left : Option Evicted) (r : Option Remembered) → left ≡ leaves b → Puts left c r d → AreForgotten (traces b.episodes) c → (t : TraceId) → is_held t (traces b.episodes) ≡ false → is_held_in_either t c ≡ false →
    AreForgotten (cond (length b.episodes == b.num_traces) (drop 1 (traces b.episodes)) (traces b.episodes)) d × (is_held_in_either t d ≡ false)
opening_caches b c d left r l q w t h k = go (length b.episodes == b.num_traces) refl left l q
  where
    as_before : (e : CacheLists) → e ≡ c → AreForgotten (traces b.episodes) e × (is_held_in_either t e ≡ false)
    as_before e z = let P = λ (x : CacheLists). AreForgotten (traces b.episodes) x × (is_held_in_either t x ≡ false) in subst P (sym z) (w, k)

    first_left : (es : List Episode) → AreForgotten (traces es) c → is_held t (traces es) ≡ false → (left : Option Evicted) → left ≡ option_map evicted_as (slice_get es 0) → Puts left c r d → AreForgotten (drop 1 (traces es)) d × (is_held_in_either t d ≡ false)
    first_left [] w h None l q = (tt, ap (is_held_in_either t) q.1 ∙ k)
    first_left [] w h (Some x) l q = absurd (cc l)
    first_left (e ∷ es) w h None l q = absurd (cc l)
    first_left (e ∷ es) w h (Some x) l q =
        let is : x.trace ≡ e.trace = cc (ap (option_map (λ (z : Evicted). z.trace)) l) in
        let apart = either-no (same_trace t e.trace) (is_held t (traces es)) h in
        let gone : (y : TraceId) → same_trace y e.trace ≡ false → is_held_in_either y c ≡ false → is_held_in_either y d ≡ false = λ y f g. out-decided x.trace x.verdict c d r y q (ap (same_trace y) is ∙ f) g in
        (out-of e.trace (traces es) c d w.0 gone w.2, gone t apart.0 k)

    go : (full : Bool) → (length b.episodes == b.num_traces) ≡ full → (left : Option Evicted) → left ≡ leaves b → Puts left c r d → AreForgotten (cond full (drop 1 (traces b.episodes)) (traces b.episodes)) d × (is_held_in_either t d ≡ false)
    go true f left l q = first_left b.episodes w h left (l ∙ ap (λ x. cond x (option_map evicted_as (slice_get b.episodes 0)) None) f) q
    go false f left l q = as_before d (none_put left (l ∙ ap (λ x. cond x (option_map evicted_as (slice_get b.episodes 0)) None) f) q)
      where
        none_put : (left : Option Evicted) → left ≡ None → Puts left c r d → d ≡ c
        none_put None l q = q.1
        none_put (Some x) l q = absurd (cc l)

traces-open : (full : Bool) (x : Episode) (es : List Episode) → traces (cond full (drop 1 es) es ++ x ∷ []) ≡ cond full (drop 1 (traces es)) (traces es) ++ x.trace ∷ []
traces-open true x es = map-append (λ (e : Episode). e.trace) (drop 1 es) (x ∷ []) ∙ ap (λ (ts : List TraceId). ts ++ x.trace ∷ []) (traces-drop es)
traces-open false x es = map-append (λ (e : Episode). e.trace) es (x ∷ [])

held-cond : (full : Bool) (t : TraceId) (ts : List TraceId) → is_held t ts ≡ false → is_held t (cond full (drop 1 ts) ts) ≡ false
held-cond true t ts h = held-drop t ts h
held-cond false t ts h = h

pub open_keeps : (clock maximum : ℕ) (old new : Buffer) (c d : CacheLists) (a : Arrival) (t : TraceId) (left : Option Evicted) (r : Option Remembered) → left ≡ leaves old → new ≡ after_opening old (opening_episode t a clock maximum) → Puts left c r d →
    episode_of t old.episodes ≡ None → is_held_in_either t c ≡ false → IsKept clock old c → IsKept clock new d
open_keeps clock maximum old new c d a t left r l e q n h k =
    let P = λ (b : Buffer). IsKept clock b d in
    let Q = λ (ts : List TraceId). AreForgotten ts d in
    let out = episode-none t old.episodes n in
    let full = length old.episodes == old.num_traces in
    let w = opening_caches old c d left r l q k.2 t out h in
    subst P (sym e) (
      k.0,
      opened-open clock maximum t a old k.1,
      subst Q (sym (traces-open full (opening_episode t a clock maximum) old.episodes))
          (forgotten-push t (cond full (drop 1 (traces old.episodes)) (traces old.episodes)) d (held-cond full t (traces old.episodes) out) w.1 w.0),
    )

pub new_keeps : (b : Buffer) (c : CacheLists) (num_traces : ℕ) → b ≡ (let z : Buffer = record { episodes = []; num_traces = num_traces } in z) → 0 < num_traces → IsKept 0 b c
new_keeps b c num_traces e l = let P = λ (z : Buffer). IsKept 0 z c in subst P (sym e) (l, refl, tt)
