-- Touches, one after the other: where a trace's own last one stands, and how many different traces there are.
-- For the contracts of `count_touched` and `touches_since`.
use Rattle.std.proofs.Common.{◌≡◌, ℕ, ◌+◌, ◌<◌, ◌≤◌, Bool, true, false, cond, not, ◌&&◌, ◌||◌, nat_lt, List, [], ◌∷◌, ◌++◌, length, map, take, filter, get_or, Some, None, refl, ap, sym, ◌∙◌, arith}
use Rattle.std.specs.List.{list_any, position, position_or_len}
use Rattle.std.proofs.lemmas.Bool.Decides.{nat_tests}
use Rattle.std.proofs.lemmas.List.{append-nil, map-append, take_all, take_more, length-append}
use Rattle.std.proofs.lemmas.List.Elements.{filter-append}
use Rattle.span_ids.specs.Same.{same_trace}
use Rattle.span_ids.specs.declared.ids.TraceId.{TraceId}
use Rattle.span_ids.specs.declared.outcome.Verdict.{Verdict}
use Rattle.decision_cache.specs.Touches.{Touch, different, is_same_verdict, last_touched}
use Rattle.shard_journal.specs.Touched.{is_touched, is_further}

-- ---- what stands before the first that passes

past_all : {X : Type 0} (p : X → Bool) (xs : List X) (b : Bool) → nat_lt (position_or_len p xs) (length xs) ≡ b → cond b (Some (position_or_len p xs)) None ≡ None → length xs ≤ position_or_len p xs
past_all p xs true h e = absurd (cc e)
past_all p xs false h e = grind (arith, nat_tests)

-- none passes: all elements stand before it
pub all_before : {X : Type 0} (p : X → Bool) (xs : List X) → position p xs ≡ None → xs ≡ take (position_or_len p xs) xs
all_before p xs e = sym (take_all (position_or_len p xs) xs (past_all p xs (nat_lt (position_or_len p xs) (length xs)) refl e))

place_is : (b : Bool) (n i : ℕ) → cond b (Some n) None ≡ Some i → i ≡ n
place_is true n i e = cc e
place_is false n i e = absurd (cc e)

-- the first that passes: what stands before it
pub before_first : {X : Type 0} (p : X → Bool) (xs : List X) (i : ℕ) → position p xs ≡ Some i → take i xs ≡ take (position_or_len p xs) xs
before_first p xs i e = ap (λ n. take n xs) (place_is (nat_lt (position_or_len p xs) (length xs)) (position_or_len p xs) i e)

-- ---- different traces

different_push : (ts : List TraceId) (t : TraceId) → different (ts ++ t ∷ []) ≡ different ts ++ cond (list_any (λ u. same_trace u t) ts) [] (t ∷ [])
different_push [] t = refl
different_push (x ∷ ts) t =
    let p : TraceId → Bool = λ u. not (same_trace x u) in
    ap (λ (us : List TraceId). x ∷ filter p us) (different_push ts t)
    ∙ ap (λ (us : List TraceId). x ∷ us) (filter-append p (different ts) (cond (list_any (λ u. same_trace u t) ts) [] (t ∷ [])) ∙ ap (λ (us : List TraceId). filter p (different ts) ++ us) (last_one (same_trace x t) refl (list_any (λ u. same_trace u t) ts)))
  where
    last_one : (a : Bool) → same_trace x t ≡ a → (b : Bool) → filter (λ u. not (same_trace x u)) (cond b [] (t ∷ [])) ≡ cond (same_trace x t || b) [] (t ∷ [])
    last_one true e true = rw e refl
    last_one true e false = rw e refl
    last_one false e true = rw e refl
    last_one false e false = rw e refl

any_of : {X Y : Type 0} (p : X → Bool) (f : X → Y) (q : Y → Bool) (xs : List X) → list_any q (map f (filter p xs)) ≡ list_any (λ x. p x && q (f x)) xs
any_of p f q [] = refl
any_of p f q (x ∷ xs) = go (p x) (any_of p f q xs)
  where
    go : (b : Bool) → list_any q (map f (filter p xs)) ≡ list_any (λ x. p x && q (f x)) xs → list_any q (map f (cond b (x ∷ filter p xs) (filter p xs))) ≡ ((b && q (f x)) || list_any (λ x. p x && q (f x)) xs)
    go true h = ap (λ (b : Bool). q (f x) || b) h
    go false h = h

abbrev traces_of : Verdict → List Touch → List TraceId
traces_of v us = map (λ u. u.trace) (filter (λ u. is_same_verdict u.verdict v) us)

traces_push : (v : Verdict) (us : List Touch) (u : Touch) → traces_of v (us ++ u ∷ []) ≡ traces_of v us ++ cond (is_same_verdict u.verdict v) (u.trace ∷ []) []
traces_push v us u = ap (map (λ u. u.trace)) (filter-append (λ u. is_same_verdict u.verdict v) us (u ∷ [])) ∙ map-append (λ u. u.trace) (filter (λ u. is_same_verdict u.verdict v) us) (cond (is_same_verdict u.verdict v) (u ∷ []) [])
    ∙ ap (λ (ts : List TraceId). traces_of v us ++ ts) (one (is_same_verdict u.verdict v))
  where
    one : (b : Bool) → map (λ (u : Touch). u.trace) (cond b (u ∷ []) []) ≡ cond b (u.trace ∷ []) []
    one true = refl
    one false = refl

touched_push : (v : Verdict) (us : List Touch) (u : Touch) → length (last_touched v (us ++ u ∷ [])) ≡ length (last_touched v us) + cond (is_same_verdict u.verdict v && not (is_touched v u.trace us)) 1 0
touched_push v us u = ap (λ ts. length (different ts)) (traces_push v us u) ∙ go (is_same_verdict u.verdict v)
  where
    none : (n : ℕ) → n ≡ n + 0
    none n = omega arith

    count : (b : Bool) (n : ℕ) → n + length (cond b [] (u.trace ∷ [])) ≡ n + cond (not b) 1 0
    count true n = refl
    count false n = refl

    go : (b : Bool) → length (different (traces_of v us ++ cond b (u.trace ∷ []) [])) ≡ length (last_touched v us) + cond (b && not (is_touched v u.trace us)) 1 0
    go true = ap length (different_push (traces_of v us) u.trace) ∙ length-append (different (traces_of v us)) (cond (list_any (λ w. same_trace w u.trace) (traces_of v us)) [] (u.trace ∷ []))
        ∙ ap (λ (b : Bool). length (different (traces_of v us)) + length (cond b [] (u.trace ∷ []))) (any_of (λ (w : Touch). is_same_verdict w.verdict v) (λ (w : Touch). w.trace) (λ w. same_trace w u.trace) us)
        ∙ count (is_touched v u.trace us) (length (last_touched v us))
    go false = ap (λ ts. length (different ts)) (append-nil (traces_of v us)) ∙ none (length (last_touched v us))

-- one touch more
pub touched_more : (v : Verdict) (us : List Touch) (i : ℕ) (u : Touch) → i < length us → u ≡ get_or us i u → length (last_touched v (take (i + 1) us)) ≡ length (last_touched v (take i us)) + cond (is_further v u (take i us)) 1 0
touched_more v us i u l e = ap (λ xs. length (last_touched v xs)) (take_more us i u l ∙ ap (λ (w : Touch). take i us ++ w ∷ []) (sym e)) ∙ touched_push v (take i us) u
