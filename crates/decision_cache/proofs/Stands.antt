-- A cache that stands for touches stands for one more after a put or an asking that finds the trace.
-- For the contracts of `ask` and `remember`.
use Rattle.std.proofs.Common.{◌≡◌, ℕ, zero, suc, ◌-◌, ◌<◌, nat_lt, Bool, true, false, ◌||◌, cond, List, [], ◌∷◌, length, take, Option, Some, None, refl, sym, ap, subst, ◌∙◌, arith}
use Rattle.std.proofs.lemmas.Bool.Decides.{nat_tests}
use Rattle.std.proofs.lemmas.Bool.{or_parts}
use Rattle.span_ids.proofs.SameTraces.{same_trace-is, same_trace-sym}
use Rattle.span_ids.specs.Same.{same_trace}
use Rattle.decision_cache.specs.Lists.{TraceList, CacheLists, is_held, is_held_in_either, puts, PutAs, Remembers, without, renewed_if, renews, asked, after_asking}
use Rattle.decision_cache.specs.Touches.{Touch, touched_by, is_same_verdict, last_touched, touches_since, last_touch, size_of, sizes_of, cached_by, cached_as, HeldAsTouched, ListStandsFor, StandsFor, is_lost}
use Rattle.decision_cache.specs.declared.traces.Remembered.{Remembered}
use Rattle.decision_cache.specs.declared.traces.Remembered.TheVariants.{Kept, Off, Lost}
use Rattle.span_ids.specs.declared.ids.TraceId.{TraceId}
use Rattle.span_ids.specs.declared.outcome.Verdict.{Verdict}
use Rattle.span_ids.specs.declared.outcome.Verdict.TheVariants.{Sampled, NotSampled}
use Rattle.decision_cache.proofs.Laws.{verdict-refl, touched-other, put_touches, renew_touches, holds_where_remembered}

-- ---- held, and the last touch

-- the last touch of another trace is as before
last-other : (t : TraceId) (u : Touch) (touches : List Touch) → same_trace u.trace t ≡ false → last_touch t (u ∷ touches) ≡ last_touch t touches
last-other t u touches h = rw h

-- the last touch of the trace itself
last-own : (t : TraceId) (u : Touch) (touches : List Touch) → same_trace u.trace t ≡ true → last_touch t (u ∷ touches) ≡ Some u
last-own t u touches h = rw h

-- a list without the trace stands as before after a touch of it
held-after-other : (v : Verdict) (traces : List TraceId) (u : Touch) (touches : List Touch) → is_held u.trace traces ≡ false → HeldAsTouched v traces touches → HeldAsTouched v traces (u ∷ touches)
held-after-other v traces u touches h w t held = (elim (same_trace u.trace t) as (λ b. same_trace u.trace t ≡ b → (last : Touch) × (last_touch t (u ∷ touches) ≡ Some last) × (last.verdict ≡ v)) [
  | true ↦ λ k. let P = λ (x : TraceId). is_held x traces ≡ true in let here : is_held u.trace traces ≡ true = subst P (sym (same_trace-is u.trace t k)) held in cc
  | false ↦ λ k. let old = w t held in (old.0, last-other t u touches k ∙ old.1, old.2)
]) refl

held-take : (x : TraceId) (n : ℕ) (ts : List TraceId) → is_held x (take n ts) ≡ true → is_held x ts ≡ true
held-take x zero ts h = cc
held-take x (suc n) [] h = cc
held-take x (suc n) (t ∷ ts) h = (elim (same_trace x t) as (λ b. (b || is_held x (take n ts)) ≡ true → (b || is_held x ts) ≡ true) [
  | true ↦ λ h. refl
  | false ↦ λ h. held-take x n ts h
]) h

held-without : (x t : TraceId) (ts : List TraceId) → is_held x (without t ts) ≡ true → is_held x ts ≡ true
held-without x t [] h = cc
held-without x t (u ∷ ts) h = (elim (same_trace x u) as (λ b. is_held x (cond (same_trace t u) ts (u ∷ without t ts)) ≡ true → same_trace x u ≡ b → (b || is_held x ts) ≡ true) [
  | true ↦ λ h k. refl
  | false ↦ λ h k. (elim (same_trace t u) as (λ b. is_held x (cond b ts (u ∷ without t ts)) ≡ true → is_held x ts ≡ true) [
    | true ↦ λ h. h
    | false ↦ λ h. let P = λ (b : Bool). (b || is_held x (without t ts)) ≡ true in held-without x t ts (subst P k h)
  ]) h
]) h refl

-- ---- one list

-- the trace goes first, and what is held besides was held before
held-after-own : (v : Verdict) (t : TraceId) (episode : ℕ) (rest traces : List TraceId) (touches : List Touch) → ((x : TraceId) → is_held x rest ≡ true → is_held x traces ≡ true) → HeldAsTouched v traces touches → HeldAsTouched v (t ∷ rest) (touched_by episode t v ∷ touches)
held-after-own v t episode rest traces touches f w x held =
    let u : Touch = touched_by episode t v in
    (elim (same_trace t x) as (λ b. same_trace t x ≡ b → (last : Touch) × (last_touch x (u ∷ touches) ≡ Some last) × (last.verdict ≡ v)) [
      | true ↦ λ k. (u, last-own x u touches k, refl)
      | false ↦ λ k.
          let there : is_held x rest ≡ true = (elim (same_trace x t) as (λ b. same_trace x t ≡ b → (b || is_held x rest) ≡ true → is_held x rest ≡ true) [
            | true ↦ λ m h. let n = same_trace-sym x t in cc
            | false ↦ λ m h. h
          ]) refl held in
          let old = w x (f x there) in
          (old.0, last-other x u touches k ∙ old.1, old.2)
    ]) refl

less-one : (n : ℕ) → suc n - 1 ≡ n
less-one n = omega arith

put-size : (v : Verdict) (t : TraceId) (episode size : ℕ) (traces : List TraceId) (touches : List Touch) → is_held t traces ≡ false → 0 < size → traces ≡ take size (last_touched v touches) →
    t ∷ take (size - 1) traces ≡ take size (last_touched v (touched_by episode t v ∷ touches))
put-size v t episode zero traces touches h z e = let b : nat_lt 0 0 ≡ true = grind (arith, nat_tests, z) in cc
put-size v t episode (suc n) traces touches h z e =
    let P = λ (ts : List TraceId). is_held t ts ≡ false in
    ap (λ m. t ∷ take m traces) (less-one n) ∙ ap (λ ts. t ∷ take n ts) e ∙ put_touches v (touched_by episode t v) n touches (verdict-refl v) (subst P e h)

-- a put
put-own : (v : Verdict) (t : TraceId) (episode : ℕ) (l : TraceList) (touches : List Touch) → is_held t l.traces ≡ false → 0 < l.size → ListStandsFor v l touches → ListStandsFor v (puts t l) (touched_by episode t v ∷ touches)
put-own v t episode l touches h z w =
    (put-size v t episode l.size l.traces touches h z w.0, held-after-own v t episode (take (l.size - 1) l.traces) l.traces touches (λ x. held-take x (l.size - 1) l.traces) w.1)

-- a list that is off
list-off : (v : Verdict) (u : Touch) (l : TraceList) (touches : List Touch) → is_held u.trace l.traces ≡ false → l.size ≡ 0 → ListStandsFor v l touches → ListStandsFor v l (u ∷ touches)
list-off v u l touches h z w =
    (w.0 ∙ ap (λ n. take n (last_touched v touches)) z ∙ sym (ap (λ n. take n (last_touched v (u ∷ touches))) z), held-after-other v l.traces u touches h w.1)

-- a touch with the other verdict
list-other : (v : Verdict) (u : Touch) (l : TraceList) (touches : List Touch) → is_same_verdict u.verdict v ≡ false → is_held u.trace l.traces ≡ false → ListStandsFor v l touches → ListStandsFor v l (u ∷ touches)
list-other v u l touches n h w = (w.0 ∙ ap (take l.size) (sym (touched-other v u touches n)), held-after-other v l.traces u touches h w.1)

renew-size : (v : Verdict) (t : TraceId) (episode size : ℕ) (traces : List TraceId) (touches : List Touch) → is_held t traces ≡ true → traces ≡ take size (last_touched v touches) →
    t ∷ without t traces ≡ take size (last_touched v (touched_by episode t v ∷ touches))
renew-size v t episode zero traces touches h e = let P = λ (ts : List TraceId). is_held t ts ≡ true in let n : is_held t [] ≡ true = subst P e h in cc
renew-size v t episode (suc n) traces touches h e =
    let P = λ (ts : List TraceId). is_held t ts ≡ true in
    ap (λ ts. t ∷ without t ts) e ∙ renew_touches v (touched_by episode t v) n touches (verdict-refl v) (subst P e h)

-- an asking that finds the trace
renew-own : (v : Verdict) (t : TraceId) (episode : ℕ) (l : TraceList) (touches : List Touch) → is_held t l.traces ≡ true → ListStandsFor v l touches → ListStandsFor v (renews t l) (touched_by episode t v ∷ touches)
renew-own v t episode l touches h w =
    let P = λ (ts : List TraceId). ListStandsFor v (record l { traces = ts }) (touched_by episode t v ∷ touches) in
    subst P (sym (ap (λ b. renewed_if b t l.traces) h)) (renew-size v t episode l.size l.traces touches h w.0, held-after-own v t episode (without t l.traces) l.traces touches (λ x. held-without x t l.traces) w.1)

-- ---- both lists

put-list : (v : Verdict) (t : TraceId) (episode : ℕ) (old new : TraceList) (r : Remembered) (touches : List Touch) → is_held t old.traces ≡ false → PutAs t old r new → is_lost r ≡ false → ListStandsFor v old touches → ListStandsFor v new (touched_by episode t v ∷ touches)
put-list v t episode old new Kept touches h p l w = let P = λ (x : TraceList). ListStandsFor v x (touched_by episode t v ∷ touches) in subst P (sym p.1) (put-own v t episode old touches h p.0 w)
put-list v t episode old new Off touches h p l w = let P = λ (x : TraceList). ListStandsFor v x (touched_by episode t v ∷ touches) in subst P (sym p.1) (list-off v (touched_by episode t v) old touches h p.0 w)
put-list v t episode old new Lost touches h p l w = cc

pub stands-put : (old new : CacheLists) (t : TraceId) (v : Verdict) (r : Remembered) → is_held_in_either t old ≡ false → Remembers t v old r new →
    (touches : List Touch) (episode : ℕ) → StandsFor old touches → is_lost r ≡ false → StandsFor new (touched_by episode t v ∷ touches)
stands-put old new t Sampled r h p touches episode w l =
    let out = or_parts _ _ h in
    let P = λ (x : TraceList). ListStandsFor NotSampled x (touched_by episode t Sampled ∷ touches) in
    (put-list Sampled t episode old.sampled new.sampled r touches out.0 p.0 l w.0, subst P (sym p.1) (list-other NotSampled (touched_by episode t Sampled) old.not_sampled touches refl out.1 w.1))
stands-put old new t NotSampled r h p touches episode w l =
    let out = or_parts _ _ h in
    let P = λ (x : TraceList). ListStandsFor Sampled x (touched_by episode t NotSampled ∷ touches) in
    (subst P (sym p.1) (list-other Sampled (touched_by episode t NotSampled) old.sampled touches refl out.0 w.0), put-list NotSampled t episode old.not_sampled new.not_sampled r touches out.1 p.0 l w.1)

-- a trace that one list holds isn't in the other
not-in-other : (v w : Verdict) (t : TraceId) (traces others : List TraceId) (touches : List Touch) → is_same_verdict v w ≡ false → HeldAsTouched v traces touches → HeldAsTouched w others touches → is_held t traces ≡ true → (b : Bool) → is_held t others ≡ b → b ≡ false
not-in-other v w t traces others touches n a b h true k =
    let x = a t h in
    let y = b t k in
    let same : x.0 ≡ y.0 = cc in
    let verdicts : v ≡ w = sym x.2 ∙ ap (λ (u : Touch). u.verdict) same ∙ y.2 in
    let P = λ (z : Verdict). is_same_verdict v z ≡ false in
    let off : is_same_verdict v v ≡ false = subst P (sym verdicts) n in
    let on = verdict-refl v in
    cc
not-in-other v w t traces others touches n a b h false k = refl

-- the list of the trace's verdict is renewed
asked-in : (old : CacheLists) (t : TraceId) (v : Verdict) (in_sampled in_other : Bool) (touches : List Touch) (episode : ℕ) → is_held t old.sampled.traces ≡ in_sampled → is_held t old.not_sampled.traces ≡ in_other → StandsFor old touches →
    cond in_sampled (Some Sampled) (cond in_other (Some NotSampled) None) ≡ Some v →
    StandsFor (cond in_sampled (record old { sampled = renews t old.sampled }) (record old { not_sampled = renews t old.not_sampled })) (touched_by episode t v ∷ touches)
asked-in old t v true in_other touches episode h k w e =
    let is : Sampled ≡ v = cc in
    let P = λ (x : Verdict). StandsFor (record old { sampled = renews t old.sampled }) (touched_by episode t x ∷ touches) in
    let out = not-in-other Sampled NotSampled t old.sampled.traces old.not_sampled.traces touches refl w.0.1 w.1.1 h in_other k in
    subst P is (renew-own Sampled t episode old.sampled touches h w.0, list-other NotSampled (touched_by episode t Sampled) old.not_sampled touches refl (k ∙ out) w.1)
asked-in old t v false true touches episode h k w e =
    let is : NotSampled ≡ v = cc in
    let P = λ (x : Verdict). StandsFor (record old { not_sampled = renews t old.not_sampled }) (touched_by episode t x ∷ touches) in
    subst P is (list-other Sampled (touched_by episode t NotSampled) old.sampled touches refl h w.0, renew-own NotSampled t episode old.not_sampled touches k w.1)
asked-in old t v false false touches episode h k w e = cc

pub stands-asked : (old : CacheLists) (t : TraceId) (touches : List Touch) (episode : ℕ) (v : Verdict) → StandsFor old touches → asked t old ≡ Some v → StandsFor (after_asking t old) (touched_by episode t v ∷ touches)
stands-asked old t touches episode v w e = asked-in old t v (is_held t old.sampled.traces) (is_held t old.not_sampled.traces) touches episode refl refl w e

-- ---- what is remembered

-- a trace that was not touched isn't held
untouched : (v : Verdict) (t : TraceId) (traces : List TraceId) (touches : List Touch) → HeldAsTouched v traces touches → last_touch t touches ≡ None → (b : Bool) → is_held t traces ≡ b → b ≡ false
untouched v t traces touches w e true k = let x = w t k in cc
untouched v t traces touches w e false k = refl

-- a trace last touched with another verdict isn't held
touched-else : (v : Verdict) (t : TraceId) (traces : List TraceId) (touches : List Touch) (u : Touch) → HeldAsTouched v traces touches → last_touch t touches ≡ Some u → is_same_verdict u.verdict v ≡ false → (b : Bool) → is_held t traces ≡ b → b ≡ false
touched-else v t traces touches u w e n true k =
    let x = w t k in
    let same : x.0 ≡ u = cc in
    let verdicts : u.verdict ≡ v = ap (λ (y : Touch). y.verdict) (sym same) ∙ x.2 in
    let P = λ (z : Verdict). is_same_verdict z v ≡ false in
    let off : is_same_verdict v v ≡ false = subst P verdicts n in
    let on = verdict-refl v in
    cc
touched-else v t traces touches u w e n false k = refl

-- held where few others were touched since
held-few : (v : Verdict) (t : TraceId) (l : TraceList) (touches : List Touch) (u : Touch) → ListStandsFor v l touches → last_touch t touches ≡ Some u → u.verdict ≡ v → is_held t l.traces ≡ nat_lt (length (last_touched v (touches_since t touches))) l.size
held-few v t l touches u w e k = ap (is_held t) w.0 ∙ holds_where_remembered v t l.size touches u e k

cached-verdict : (old : CacheLists) (t : TraceId) (touches : List Touch) (u : Touch) (v : Verdict) → u.verdict ≡ v → StandsFor old touches → last_touch t touches ≡ Some u →
    asked t old ≡ cond (nat_lt (length (last_touched v (touches_since t touches))) (size_of (sizes_of old) v)) (Some v) None
cached-verdict old t touches u Sampled k w e =
    let gone : is_held t old.not_sampled.traces ≡ false = touched-else NotSampled t old.not_sampled.traces touches u w.1.1 e (ap (λ x. is_same_verdict x NotSampled) k) (is_held t old.not_sampled.traces) refl in
    rw (gone, sym (held-few Sampled t old.sampled touches u w.0 e k)) refl
cached-verdict old t touches u NotSampled k w e =
    let gone : is_held t old.sampled.traces ≡ false = touched-else Sampled t old.sampled.traces touches u w.0.1 e (ap (λ x. is_same_verdict x Sampled) k) (is_held t old.sampled.traces) refl in
    rw (gone, sym (held-few NotSampled t old.not_sampled touches u w.1 e k)) refl

cached-last : (old : CacheLists) (t : TraceId) (touches : List Touch) (last : Option Touch) → last_touch t touches ≡ last → StandsFor old touches → asked t old ≡ cached_by (sizes_of old) touches t last
cached-last old t touches None e w =
    let a = untouched Sampled t old.sampled.traces touches w.0.1 e (is_held t old.sampled.traces) refl in
    let b = untouched NotSampled t old.not_sampled.traces touches w.1.1 e (is_held t old.not_sampled.traces) refl in
    rw (a, b) refl
cached-last old t touches (Some u) e w = cached-verdict old t touches u u.verdict refl w e

pub asked-cached : (old : CacheLists) (t : TraceId) (touches : List Touch) → StandsFor old touches → asked t old ≡ cached_as (sizes_of old) touches t
asked-cached old t touches w = cached-last old t touches (last_touch t touches) refl w
