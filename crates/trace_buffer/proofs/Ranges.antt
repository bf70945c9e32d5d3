-- Where those that wait and are too big lie, after each change.
-- For the invariant of the buffer (`big`), and for `big_place`.
use Rattle.std.proofs.Common.{◌≡◌, ◌≢◌, ℕ, zero, suc, ◌+◌, ◌-◌, ◌^◌, ◌<◌, ◌≤◌, ◌==◌, min, max, nat_lt, Bool, true, false, ◌&&◌, ◌||◌, cond, List, [], ◌∷◌, ◌++◌, length, get_or, Some, is_none, refl, sym, ap, subst, ◌∙◌, arith}
use Rattle.std.specs.List.{slice_get, slice_set}
use Rattle.std.proofs.lemmas.Bool.Decides.{nat_tests}
use Rattle.std.proofs.lemmas.List.{length-set, length_push, get_or_append_left}
use Rattle.span_ids.specs.declared.outcome.Verdict.{Verdict}
use Rattle.trace_buffer.specs.Buffer.{Episode, settled, is_due_at}
use Rattle.trace_buffer.specs.Range.{next_place, with_place, with_if, without_first, without_place, waits_too_big, AreWithin, DueAreTooBig}
use Rattle.trace_buffer.specs.declared.range.Range.{Range}

-- a place lies within
abbrev pub IsIn : Range → ℕ → Type 0
IsIn r k = (r.start ≤ k) × (k < r.end)

-- ---- the places

with-keeps : (place k : ℕ) (r : Range) → IsIn r k → IsIn (with_place place r) k
with-keeps place k r h = (elim (nat_lt r.start r.end) as (λ b. nat_lt r.start r.end ≡ b → ((cond {A = Range} b (record { start = min r.start place; end = max r.end (next_place place) }) (record { start = place; end = next_place place })).start ≤ k) × (k < (cond {A = Range} b (record { start = min r.start place; end = max r.end (next_place place) }) (record { start = place; end = next_place place })).end)) [
  | true ↦ λ e. (omega (arith, h.0), omega (arith, h.1))
  | false ↦ λ e. let none : r.end ≤ r.start = grind (arith, nat_tests) in absurd (omega (arith, h.0, h.1, none))
]) refl

with-has : (place : ℕ) (r : Range) → place < 2 ^ 64 - 1 → IsIn (with_place place r) place
with-has place r l = (elim (nat_lt r.start r.end) as (λ b. ((cond {A = Range} b (record { start = min r.start place; end = max r.end (next_place place) }) (record { start = place; end = next_place place })).start ≤ place) × (place < (cond {A = Range} b (record { start = min r.start place; end = max r.end (next_place place) }) (record { start = place; end = next_place place })).end)) [
  | true ↦ (omega arith, omega (arith, l))
  | false ↦ (omega arith, omega (arith, l))
])

pub if-keeps : (b : Bool) (place k : ℕ) (r : Range) → IsIn r k → IsIn (with_if b place r) k
if-keeps true place k r h = with-keeps place k r h
if-keeps false place k r h = h

pub if-has : (b : Bool) (place : ℕ) (r : Range) → place < 2 ^ 64 - 1 → b ≡ true → IsIn (with_if b place r) place
if-has true place r l e = with-has place r l
if-has false place r l e = cc

without-keeps : (place k : ℕ) (r : Range) → k ≢ place → IsIn r k → IsIn (without_place place r) k
without-keeps place k r apart h = (elim (place == r.start) as (λ b. (place == r.start) ≡ b → ((cond {A = Range} b (record r { start = next_place place }) r).start ≤ k) × (k < (cond {A = Range} b (record r { start = next_place place }) r).end)) [
  | true ↦ λ e. let is : place ≡ r.start = grind (arith, nat_tests) in let low = h.0 in (omega (arith, is, low, apart), h.1)
  | false ↦ λ e. h
]) refl

-- ---- the episodes

get-set-other : (es : List Episode) (i : ℕ) (y : Episode) (k : ℕ) (d : Episode) → k ≢ i → get_or (slice_set es i y) k d ≡ get_or es k d
get-set-other [] i y k d l = refl
get-set-other (e ∷ es) zero y zero d l = absurd (l refl)
get-set-other (e ∷ es) zero y (suc k) d l = refl
get-set-other (e ∷ es) (suc i) y zero d l = refl
get-set-other (e ∷ es) (suc i) y (suc k) d l = get-set-other es i y k d (λ e. l (ap suc e))

get-set-same : (es : List Episode) (i : ℕ) (y : Episode) (d : Episode) → i < length es → get_or (slice_set es i y) i d ≡ y
get-set-same [] i y d l = absurd (omega (arith, l))
get-set-same (e ∷ es) zero y d l = refl
get-set-same (e ∷ es) (suc i) y d l = get-set-same es i y d (omega (arith, l))

get-last : (es : List Episode) (e d : Episode) → get_or (es ++ e ∷ []) (length es) d ≡ e
get-last [] e d = refl
get-last (x ∷ es) e d = get-last es e d

same-number : (k i : ℕ) → (k == i) ≡ true → k ≡ i
same-number k i e = grind (arith, nat_tests)

other-number : (k i : ℕ) → (k == i) ≡ false → k ≢ i
other-number k i e = grind (arith, nat_tests)

-- one changes
within-set : (r s : Range) (es : List Episode) (i : ℕ) (y : Episode) → AreWithin r es → ((k : ℕ) → k ≢ i → IsIn r k → IsIn s k) → (waits_too_big y ≡ true → IsIn s i) → AreWithin s (slice_set es i y)
within-set r s es i y h others mine k d l big = (elim (k == i) as (λ b. (k == i) ≡ b → IsIn s k) [
  | true ↦ λ e.
      let is = same-number k i e in
      let inside : i < length es = let long = length-set es i y in omega (arith, is, l, long) in
      let here : get_or (slice_set es i y) k d ≡ y = ap (λ n. get_or (slice_set es i y) n d) is ∙ get-set-same es i y d inside in
      subst (IsIn s) (sym is) (mine (ap waits_too_big (sym here) ∙ big))
  | false ↦ λ e.
      let apart = other-number k i e in
      let long = length-set es i y in
      others k apart (h k d (omega (arith, l, long)) (ap waits_too_big (sym (get-set-other es i y k d apart)) ∙ big))
]) refl

-- one goes in last
within-push : (r s : Range) (es : List Episode) (e : Episode) → AreWithin r es → ((k : ℕ) → IsIn r k → IsIn s k) → (waits_too_big e ≡ true → IsIn s (length es)) → AreWithin s (es ++ e ∷ [])
within-push r s es e h others mine k d l big = (elim (k == length es) as (λ b. (k == length es) ≡ b → IsIn s k) [
  | true ↦ λ t.
      let is = same-number k (length es) t in
      let here : get_or (es ++ e ∷ []) k d ≡ e = ap (λ n. get_or (es ++ e ∷ []) n d) is ∙ get-last es e d in
      subst (IsIn s) (sym is) (mine (ap waits_too_big (sym here) ∙ big))
  | false ↦ λ t.
      let apart = other-number k (length es) t in
      let long = length_push es e in
      let before : k < length es = omega (arith, l, long, apart) in
      others k (h k d before (ap waits_too_big (sym (get_or_append_left es (e ∷ []) d k before)) ∙ big))
]) refl

-- the first leaves
pub within-drop : (r : Range) (e : Episode) (es : List Episode) → AreWithin r (e ∷ es) → AreWithin (without_first r) es
within-drop r e es h k d l big = let at = h (suc k) d (omega (arith, l)) big in (let low = at.0 in omega (arith, low), let high = at.1 in omega (arith, high))

-- it waits, and is too big: it is too big
pub too-big-waits : (a b : Bool) → (a && b) ≡ true → b ≡ true
too-big-waits true b h = h
too-big-waits false b h = cc

-- an opened one goes in last
pub within-opened : (r : Range) (b : Bool) (es : List Episode) (e : Episode) → length es < 2 ^ 64 - 1 → AreWithin r es → (waits_too_big e ≡ true → b ≡ true) → AreWithin (with_if b (length es) r) (es ++ e ∷ [])
within-opened r b es e l h told = within-push r (with_if b (length es) r) es e h (λ k. if-keeps b (length es) k r) (λ w. if-has b (length es) r l (told w))

-- a span goes to one, or none does
pub within-appended : (r : Range) (b : Bool) (es : List Episode) (i : ℕ) (y : Episode) → i < 2 ^ 64 - 1 → AreWithin r es → (waits_too_big y ≡ true → b ≡ true) → AreWithin (with_if b i r) (slice_set es i y)
within-appended r b es i y l h told = within-set r (with_if b i r) es i y h (λ k apart. if-keeps b i k r) (λ w. if-has b i r l (told w))

-- one is decided
pub within-settled : (r : Range) (es : List Episode) (i : ℕ) (x : Episode) (v : Verdict) → AreWithin r es → AreWithin (without_place i r) (slice_set es i (settled v x))
within-settled r es i x v h = within-set r (without_place i r) es i (settled v x) h (λ k. without-keeps i k r) (λ w. cc)

-- ---- which are due

-- those before the range, and those behind it, aren't due
pub not-due-outside : (mark wait root_wait start : ℕ) (r : Range) (es : List Episode) (k : ℕ) (d : Episode) → AreWithin r es → DueAreTooBig mark wait root_wait start es → start ≤ k → k < length es → (IsIn r k → ⊥) → is_due_at mark wait root_wait (get_or es k d) ≡ false
not-due-outside mark wait root_wait start r es k d within due low l out = (elim (is_due_at mark wait root_wait (get_or es k d)) as (λ b. is_due_at mark wait root_wait (get_or es k d) ≡ b → b ≡ false) [
  | true ↦ λ e. absurd (out (within k d l (due k d low l e)))
  | false ↦ λ e. refl
]) refl
