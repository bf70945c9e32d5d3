-- A cache that holds the last touched traces answers what is remembered, and its calls keep it so.
-- For the contracts of `ask` and `remember`.
use Rattle.std.proofs.Common.{◌≡◌, ℕ, zero, suc, ◌+◌, nat_lt, Bool, true, false, not, ◌||◌, cond, List, [], ◌∷◌, ◌++◌, map, length, take, Some, refl, sym, ap, subst, ◌∙◌, arith}
use Rattle.std.specs.List.{filter, find, prefix_len}
use Rattle.std.proofs.lemmas.List.Elements.{filter-append}
use Rattle.std.proofs.lemmas.Bool.Decides.{nat_tests}
use Rattle.std.proofs.lemmas.Bool.{or_parts}
use Rattle.span_ids.proofs.SameTraces.{same_trace-is, same_trace-refl, same_trace-sym}
use Rattle.span_ids.specs.Same.{same_trace}
use Rattle.decision_cache.specs.Touches.{Touch, last_touched, touches_since, different, is_same_verdict}
use Rattle.span_ids.specs.declared.ids.TraceId.{TraceId}
use Rattle.span_ids.specs.declared.outcome.Verdict.{Verdict}
use Rattle.span_ids.specs.declared.outcome.Verdict.TheVariants.{Sampled, NotSampled}
use Rattle.decision_cache.specs.Lists.{is_held, without}

pub verdict-refl : (v : Verdict) → is_same_verdict v v ≡ true
verdict-refl Sampled = refl
verdict-refl NotSampled = refl

-- the traces other than t
abbrev others : TraceId → List TraceId → List TraceId
others t ts = filter (λ u. not (same_trace t u)) ts

filter-in : {X : Type 0} (p : X → Bool) (x : X) (xs : List X) → p x ≡ true → filter p (x ∷ xs) ≡ x ∷ filter p xs
filter-in p x xs h = rw h

pub touched-more : (v : Verdict) (u : Touch) (rest : List Touch) → is_same_verdict u.verdict v ≡ true → last_touched v (u ∷ rest) ≡ u.trace ∷ others u.trace (last_touched v rest)
touched-more v u rest h = rw h

pub touched-other : (v : Verdict) (u : Touch) (rest : List Touch) → is_same_verdict u.verdict v ≡ false → last_touched v (u ∷ rest) ≡ last_touched v rest
touched-other v u rest h = rw h

since-own : (t : TraceId) (u : Touch) (rest : List Touch) → same_trace u.trace t ≡ true → touches_since t (u ∷ rest) ≡ []
since-own t u rest h = rw h

one-more : (n : ℕ) → 1 + n ≡ suc n
one-more n = omega arith

since-other : (t : TraceId) (u : Touch) (rest : List Touch) → same_trace u.trace t ≡ false → touches_since t (u ∷ rest) ≡ u ∷ touches_since t rest
since-other t u rest h = rw h (ap (λ k. take k (u ∷ rest)) (one-more (prefix_len (λ (x : Touch). not (same_trace x.trace t)) rest)))

-- Where the trace's own last touch was with v, the traces touched with v since stand right before it.
abbrev Split : Verdict → TraceId → List Touch → Type 0
Split v t touches = (more : List TraceId) × (last_touched v touches ≡ last_touched v (touches_since t touches) ++ t ∷ more)

split-other : (v : Verdict) (t : TraceId) (u : Touch) (rest : List Touch) (b : Bool) → is_same_verdict u.verdict v ≡ b → same_trace u.trace t ≡ false → Split v t rest → Split v t (u ∷ rest)
split-other v t u rest true h k w =
    let p = λ (x : TraceId). not (same_trace u.trace x) in
    let kept : p t ≡ true = ap not k in
    let there : last_touched v (u ∷ rest) ≡ (u.trace ∷ others u.trace (last_touched v (touches_since t rest))) ++ t ∷ others u.trace w.0
    = touched-more v u rest h ∙ ap (λ ts. u.trace ∷ others u.trace ts) w.1 ∙ ap (λ ts. u.trace ∷ ts) (filter-append p (last_touched v (touches_since t rest)) (t ∷ w.0) ∙ ap (λ ts. others u.trace (last_touched v (touches_since t rest)) ++ ts) (filter-in p t w.0 kept)) in
    let here : last_touched v (touches_since t (u ∷ rest)) ≡ u.trace ∷ others u.trace (last_touched v (touches_since t rest)) = ap (last_touched v) (since-other t u rest k) ∙ touched-more v u (touches_since t rest) h in
    (others u.trace w.0, there ∙ ap (λ ts. ts ++ t ∷ others u.trace w.0) (sym here))
split-other v t u rest false h k w =
    let here : last_touched v (touches_since t (u ∷ rest)) ≡ last_touched v (touches_since t rest) = ap (last_touched v) (since-other t u rest k) ∙ touched-other v u (touches_since t rest) h in
    (w.0, touched-other v u rest h ∙ w.1 ∙ ap (λ ts. ts ++ t ∷ w.0) (sym here))

pub split : (v : Verdict) (t : TraceId) (touches : List Touch) (last : Touch) → find (λ u. same_trace u.trace t) touches ≡ Some last → last.verdict ≡ v → Split v t touches
split v t [] last e k = cc
split v t (u ∷ rest) last e k = (elim (same_trace u.trace t) as (λ b. same_trace u.trace t ≡ b → cond b (Some u) (find (λ u. same_trace u.trace t) rest) ≡ Some last → Split v t (u ∷ rest)) [
  | true ↦ λ h e.
      let same : u ≡ last = cc in
      let verdict : is_same_verdict u.verdict v ≡ true = ap (λ (x : Touch). is_same_verdict x.verdict v) same ∙ ap (λ x. is_same_verdict x v) k ∙ verdict-refl v in
      (others u.trace (last_touched v rest), touched-more v u rest verdict ∙ ap (λ x. x ∷ others u.trace (last_touched v rest)) (same_trace-is u.trace t h) ∙ ap (λ ts. last_touched v ts ++ t ∷ others u.trace (last_touched v rest)) (sym (since-own t u rest h)))
  | false ↦ λ h e. split-other v t u rest (is_same_verdict u.verdict v) refl h (split v t rest last e k)
]) refl e

-- none of the traces touched since is the trace itself
held-others : (t x : TraceId) (ts : List TraceId) → is_held t ts ≡ false → is_held t (others x ts) ≡ false
held-others t x [] h = refl
held-others t x (u ∷ ts) h = (elim (same_trace t u) as (λ b. same_trace t u ≡ b → (b || is_held t ts) ≡ false → is_held t (others x (u ∷ ts)) ≡ false) [
  | true ↦ λ k h. cc
  | false ↦ λ k h. (elim (same_trace x u) as (λ b. is_held t (cond (not b) (u ∷ others x ts) (others x ts)) ≡ false) [
    | true ↦ held-others t x ts h
    | false ↦ rw k (held-others t x ts h)
  ])
]) refl h

held-verdict : (v : Verdict) (t : TraceId) (u : Touch) (rest : List Touch) (b : Bool) → is_same_verdict u.verdict v ≡ b → same_trace u.trace t ≡ false → is_held t (last_touched v rest) ≡ false → is_held t (last_touched v (u ∷ rest)) ≡ false
held-verdict v t u rest true h k w = let P = λ (ts : List TraceId). is_held t ts ≡ false in subst P (sym (touched-more v u rest h)) (rw (same_trace-sym t u.trace ∙ k) (held-others t u.trace (last_touched v rest) w))
held-verdict v t u rest false h k w = let P = λ (ts : List TraceId). is_held t ts ≡ false in subst P (sym (touched-other v u rest h)) w

held-step : (v : Verdict) (t : TraceId) (u : Touch) (rest : List Touch) (b : Bool) → same_trace u.trace t ≡ b → is_held t (last_touched v (touches_since t rest)) ≡ false → is_held t (last_touched v (touches_since t (u ∷ rest))) ≡ false
held-step v t u rest true k w = ap (λ us. is_held t (last_touched v us)) (since-own t u rest k)
held-step v t u rest false k w = ap (λ us. is_held t (last_touched v us)) (since-other t u rest k) ∙ held-verdict v t u (touches_since t rest) (is_same_verdict u.verdict v) refl k w

held-touched : (v : Verdict) (t : TraceId) (touches : List Touch) → is_held t (last_touched v (touches_since t touches)) ≡ false
held-touched v t [] = refl
held-touched v t (u ∷ rest) = held-step v t u rest (same_trace u.trace t) refl (held-touched v t rest)

below_zero : (n : ℕ) → nat_lt n 0 ≡ false
below_zero n = grind (arith, nat_tests)

zero_below : (n : ℕ) → nat_lt 0 (suc n) ≡ true
zero_below n = grind (arith, nat_tests)

below_suc : (m n : ℕ) → nat_lt m n ≡ nat_lt (suc m) (suc n)
below_suc m n = grind (arith, nat_tests)

-- among the first n of a list in which the trace stands once
held-first : (t : TraceId) (n : ℕ) (before more : List TraceId) → is_held t before ≡ false → is_held t (take n (before ++ t ∷ more)) ≡ nat_lt (length before) n
held-first t zero before more h = sym (below_zero (length before))
held-first t (suc n) [] more h = rw (same_trace-refl t) (sym (zero_below n))
held-first t (suc n) (x ∷ before) more h = (elim (same_trace t x) as (λ b. (b || is_held t before) ≡ false → (b || is_held t (take n (before ++ t ∷ more))) ≡ nat_lt (suc (length before)) (suc n)) [
  | true ↦ λ h. cc
  | false ↦ λ h. held-first t n before more h ∙ below_suc (length before) n
]) h

-- THE LAW: a cache of the last n traces touched with v holds a trace whose own last touch was with v just where fewer
-- than n others were touched with v since.
pub holds_where_remembered : (v : Verdict) (t : TraceId) (n : ℕ) (touches : List Touch) (last : Touch) → find (λ u. same_trace u.trace t) touches ≡ Some last → last.verdict ≡ v →
    is_held t (take n (last_touched v touches)) ≡ nat_lt (length (last_touched v (touches_since t touches))) n
holds_where_remembered v t n touches last e k =
    let w = split v t touches last e k in
    ap (λ ts. is_held t (take n ts)) w.1 ∙ held-first t n (last_touched v (touches_since t touches)) w.0 (held-touched v t touches)

-- ---- putting

-- the first n are the same without a trace that isn't among them
take-others : (t : TraceId) (n : ℕ) (ts : List TraceId) → is_held t (take n ts) ≡ false → take n (others t ts) ≡ take n ts
take-others t zero ts h = refl
take-others t (suc n) [] h = refl
take-others t (suc n) (u ∷ ts) h = (elim (same_trace t u) as (λ b. (b || is_held t (take n ts)) ≡ false → take (suc n) (cond (not b) (u ∷ others t ts) (others t ts)) ≡ u ∷ take n ts) [
  | true ↦ λ h. cc
  | false ↦ λ h. ap (λ xs. u ∷ xs) (take-others t n ts h)
]) h

take-take : (n : ℕ) (ts : List TraceId) → take n (take (suc n) ts) ≡ take n ts
take-take zero ts = refl
take-take (suc n) [] = refl
take-take (suc n) (u ∷ ts) = ap (λ xs. u ∷ xs) (take-take n ts)

held-fewer : (t : TraceId) (n : ℕ) (ts : List TraceId) → is_held t (take (suc n) ts) ≡ false → is_held t (take n ts) ≡ false
held-fewer t zero ts h = refl
held-fewer t (suc n) [] h = refl
held-fewer t (suc n) (u ∷ ts) h = (elim (same_trace t u) as (λ b. (b || is_held t (take (suc n) ts)) ≡ false → (b || is_held t (take n ts)) ≡ false) [
  | true ↦ λ h. h
  | false ↦ λ h. held-fewer t n ts h
]) h

-- a put of a trace that the cache doesn't hold
pub put_touches : (v : Verdict) (u : Touch) (n : ℕ) (touches : List Touch) → is_same_verdict u.verdict v ≡ true → is_held u.trace (take (suc n) (last_touched v touches)) ≡ false →
    u.trace ∷ take n (take (suc n) (last_touched v touches)) ≡ take (suc n) (last_touched v (u ∷ touches))
put_touches v u n touches h k =
    let T = last_touched v touches in
    ap (λ ts. u.trace ∷ ts) (take-take n T ∙ sym (take-others u.trace n T (held-fewer u.trace n T k))) ∙ ap (take (suc n)) (sym (touched-more v u touches h))

-- ---- renewing

-- a list in which each trace stands once
abbrev Once : List TraceId → Type 0
Once [] = Unit {0}
Once (t ∷ ts) = (is_held t ts ≡ false) × Once ts

once-others : (t : TraceId) (ts : List TraceId) → Once ts → Once (others t ts)
once-others t [] w = tt
once-others t (u ∷ ts) w = (elim (same_trace t u) as (λ b. Once (cond (not b) (u ∷ others t ts) (others t ts))) [
  | true ↦ once-others t ts w.1
  | false ↦ (held-others u t ts w.0, once-others t ts w.1)
])

held-self : (t : TraceId) (ts : List TraceId) → is_held t (others t ts) ≡ false
held-self t [] = refl
held-self t (u ∷ ts) = (elim (same_trace t u) as (λ b. same_trace t u ≡ b → is_held t (cond (not b) (u ∷ others t ts) (others t ts)) ≡ false) [
  | true ↦ λ k. held-self t ts
  | false ↦ λ k. rw k (held-self t ts)
]) refl

once-different : (ts : List TraceId) → Once (different ts)
once-different [] = tt
once-different (t ∷ ts) = (held-self t (different ts), once-others t (different ts) (once-different ts))

others-none : (t : TraceId) (ts : List TraceId) → is_held t ts ≡ false → others t ts ≡ ts
others-none t [] h = refl
others-none t (u ∷ ts) h = (elim (same_trace t u) as (λ b. (b || is_held t ts) ≡ false → cond (not b) (u ∷ others t ts) (others t ts) ≡ u ∷ ts) [
  | true ↦ λ h. cc
  | false ↦ λ h. ap (λ xs. u ∷ xs) (others-none t ts h)
]) h

-- taking the trace out of the first n + 1
without-first : (t : TraceId) (n : ℕ) (ts : List TraceId) → Once ts → is_held t (take (suc n) ts) ≡ true → without t (take (suc n) ts) ≡ take n (others t ts)
without-first t n [] w h = cc
without-first t n (u ∷ ts) w h = (elim (same_trace t u) as (λ b. same_trace t u ≡ b → (b || is_held t (take n ts)) ≡ true → cond b (take n ts) (u ∷ without t (take n ts)) ≡ take n (cond (not b) (u ∷ others t ts) (others t ts))) [
  | true ↦ λ k h. let same : t ≡ u = same_trace-is t u k in ap (take n) (sym (others-none t ts (let P = λ (x : TraceId). is_held x ts ≡ false in subst P (sym same) w.0)))
  | false ↦ λ k h. (elim n as (λ m. is_held t (take m ts) ≡ true → u ∷ without t (take m ts) ≡ take m (u ∷ others t ts)) [
    | zero ↦ λ h. cc
    | suc m ↦ λ h. ap (λ xs. u ∷ xs) (without-first t m ts w.1 h)
  ]) h
]) refl h

-- a find of a trace that the cache holds
pub renew_touches : (v : Verdict) (u : Touch) (n : ℕ) (touches : List Touch) → is_same_verdict u.verdict v ≡ true → is_held u.trace (take (suc n) (last_touched v touches)) ≡ true →
    u.trace ∷ without u.trace (take (suc n) (last_touched v touches)) ≡ take (suc n) (last_touched v (u ∷ touches))
renew_touches v u n touches h k =
    let T = last_touched v touches in
    ap (λ ts. u.trace ∷ ts) (without-first u.trace n T (once-different (map (λ (x : Touch). x.trace) (filter (λ x. is_same_verdict x.verdict v) touches))) k) ∙ ap (take (suc n)) (sym (touched-more v u touches h))

-- ---- another trace's touch

others-within : (t u : TraceId) (n : ℕ) (ts : List TraceId) → Once ts → is_held t (take (suc n) ts) ≡ false → is_held t (take n (others u ts)) ≡ false
others-within t u zero ts w h = refl
others-within t u (suc n) [] w h = refl
others-within t u (suc n) (x ∷ ts) w h = (elim (same_trace u x) as (λ b. same_trace u x ≡ b → is_held t (take (suc n) (cond (not b) (x ∷ others u ts) (others u ts))) ≡ false) [
  | true ↦ λ k. let same : u ≡ x = same_trace-is u x k in
      let gone : others u ts ≡ ts = others-none u ts (let P = λ (z : TraceId). is_held z ts ≡ false in subst P (sym same) w.0) in
      ap (λ zs. is_held t (take (suc n) zs)) gone ∙ (or_parts (same_trace t x) _ h).1
  | false ↦ λ k. rw ((or_parts (same_trace t x) _ h).0) (others-within t u n ts w.1 ((or_parts (same_trace t x) _ h).1))
]) refl

-- a touch of another trace never brings a trace in
pub not_brought_in : (v : Verdict) (t : TraceId) (u : Touch) (n : ℕ) (touches : List Touch) → is_same_verdict u.verdict v ≡ true → same_trace t u.trace ≡ false → is_held t (take n (last_touched v touches)) ≡ false →
    is_held t (take n (last_touched v (u ∷ touches))) ≡ false
not_brought_in v t u zero touches h k w = refl
not_brought_in v t u (suc n) touches h k w =
    ap (λ ts. is_held t (take (suc n) ts)) (touched-more v u touches h)
    ∙ rw k (others-within t u.trace n (last_touched v touches) (once-different (map (λ (x : Touch). x.trace) (filter (λ x. is_same_verdict x.verdict v) touches))) w)
