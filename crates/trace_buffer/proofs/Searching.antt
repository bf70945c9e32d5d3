-- How far a search came, after each change.
-- For the invariant of the buffer (`searched`), and for `search`, `search_start` and `due_or_end`.
use Rattle.std.proofs.Common.{◌≡◌, ℕ, zero, suc, ◌+◌, ◌-◌, ◌<◌, ◌≤◌, nat_lt, nat_le, Bool, true, false, ◌&&◌, ◌||◌, cond, List, [], ◌∷◌, ◌++◌, length, get_or, Option, Some, None, is_none, refl, sym, ap, subst, ◌∙◌, arith}
use Rattle.std.specs.List.{slice_get, slice_set, position, position_or_len, AllWithin}
use Rattle.std.proofs.lemmas.Bool.Decides.{nat_tests}
use Rattle.std.proofs.lemmas.List.{length-set, length_push, get_or_append_left}
use Rattle.std.proofs.lemmas.List.Elements.{AllWithin-set}
use Rattle.std.proofs.lemmas.List.Quantifiers.{position-Some}
use Rattle.std.proofs.lemmas.List.Sums.{fails_before_first}
use Rattle.std.proofs.lemmas.Option.{slice_get_within, get_or_from_slice_get}
use Rattle.otlp_types.specs.declared.arrival.Arrival.{Arrival}
use Rattle.span_ids.specs.declared.outcome.Verdict.{Verdict}
use Rattle.trace_buffer.specs.Buffer.{Episode, settled, with_span_if, is_due_at, is_root_due, is_too_big, root_before, are_of_root}
use Rattle.trace_buffer.specs.Ring.{IsSearched, kept_at}
use Rattle.trace_buffer.specs.declared.search.DueSearch.{DueSearch}

-- before the first that passes none does
pub none-before-place : {X : Type 0} (p : X → Bool) (xs : List X) (i : ℕ) → position p xs ≡ Some i → AllWithin (λ x. p x ≡ false) xs 0 i
none-before-place p xs i h k d low l = (position-Some p xs i d h).2 k l

-- where there is no place, none passes
pub none-at-all : {X : Type 0} (p : X → Bool) (xs : List X) → position p xs ≡ None → AllWithin (λ x. p x ≡ false) xs 0 (length xs)
none-at-all p xs h k d low l = (elim (nat_lt (position_or_len p xs) (length xs)) as (λ b. nat_lt (position_or_len p xs) (length xs) ≡ b → cond b (Some (position_or_len p xs)) None ≡ None → p (get_or xs k d) ≡ false) [
  | true ↦ λ t h. cc
  | false ↦ λ t h. fails_before_first p xs k d (grind (arith, nat_tests))
]) refl h

-- one goes in last
pub searched-push : (s : DueSearch) (es : List Episode) (e : Episode) → IsSearched s es → IsSearched s (es ++ e ∷ [])
searched-push s es e h = (
  (let l = h.0 in omega (arith, l, length_push es e)),
  λ k d low l. subst (λ (x : Episode). is_due_at s.mark s.wait s.root_wait x ≡ false) (sym (get_or_append_left es (e ∷ []) d k (let m = h.0 in omega (arith, l, m)))) (h.1 k d low l),
)

-- the first leaves
pub searched-drop : (s : DueSearch) (e : Episode) (es : List Episode) → IsSearched s (e ∷ es) → IsSearched (record s { end = s.end - 1 }) es
searched-drop s e es h = (
  (let l = h.0 in omega (arith, l)),
  λ k d low l. h.1 (suc k) d (omega arith) (omega (arith, l)),
)

-- one is decided
pub searched-settled : (s : DueSearch) (es : List Episode) (i : ℕ) (x : Episode) (v : Verdict) → IsSearched s es → slice_get es i ≡ Some x → IsSearched s (slice_set es i (settled v x))
searched-settled s es i x v h g = (
  (let l = h.0 in let long = length-set es i (settled v x) in omega (arith, l, long)),
  AllWithin-set (λ e. is_due_at s.mark s.wait s.root_wait e ≡ false) es 0 s.end i (settled v x) (slice_get_within es i x g) refl h.1,
)

-- a root that is taken at the mark or later isn't due at it
late-root : (mark wait root_wait clock : ℕ) → mark ≤ clock → is_root_due mark root_wait (Some clock) ≡ false
late-root mark wait root_wait clock l = (elim (nat_lt 0 root_wait) as (λ b. nat_lt 0 root_wait ≡ b → (b && nat_le (clock + root_wait) mark) ≡ false) [
  | true ↦ λ h. grind (arith, nat_tests)
  | false ↦ λ h. refl
]) refl

root-as-before : (mark wait root_wait clock : ℕ) (first : Option ℕ) (a : Arrival) → mark ≤ clock → is_root_due mark root_wait (root_before first clock a) ≡ is_root_due mark root_wait first
root-as-before mark wait root_wait clock (Some f) a l = refl
root-as-before mark wait root_wait clock None a l = (elim (are_of_root a.rec.span.ids) as (λ b. is_root_due mark root_wait (cond b (Some clock) None) ≡ false) [
  | true ↦ late-root mark wait root_wait clock l
  | false ↦ refl
])

-- a span that is taken at the mark or later, and doesn't make its trace too big, makes it not due at the mark
not-due-then : (a b c d e f : Bool) → b ≡ e → f ≡ false → (a && (d || b || c)) ≡ false → (a && (d || e || f)) ≡ false
not-due-then true b c true e f same small h = h
not-due-then true b c false e f same small h = (elim e as (λ e. b ≡ e → (e || f) ≡ false) [
  | true ↦ λ same. cc
  | false ↦ λ same. small
]) same
not-due-then false b c d e f same small h = refl

not-due-appended : (mark wait root_wait clock : ℕ) (b : Bool) (a : Arrival) (e : Episode) → mark ≤ clock → is_too_big (with_span_if b clock a e).maximum (with_span_if b clock a e).spans ≡ false → is_due_at mark wait root_wait e ≡ false → is_due_at mark wait root_wait (with_span_if b clock a e) ≡ false
not-due-appended mark wait root_wait clock false a e l small h = h
not-due-appended mark wait root_wait clock true a e l small h =
    not-due-then (is_none e.verdict) (is_root_due mark root_wait e.first_root) (is_too_big e.maximum e.spans) (nat_le (e.moment + wait) mark) (is_root_due mark root_wait (root_before e.first_root clock a)) (is_too_big e.maximum (e.spans ++ a ∷ []))
    (sym (root-as-before mark wait root_wait clock e.first_root a l)) small h

-- one changes, and isn't due where it wasn't
searched-changed : (s : DueSearch) (es : List Episode) (i : ℕ) (x y : Episode) → IsSearched s es → slice_get es i ≡ Some x → (is_due_at s.mark s.wait s.root_wait x ≡ false → is_due_at s.mark s.wait s.root_wait y ≡ false) → IsSearched s (slice_set es i y)
searched-changed s es i x y h g same = (
  (let l = h.0 in let long = length-set es i y in omega (arith, l, long)),
  (elim (nat_lt i s.end) as (λ b. nat_lt i s.end ≡ b → AllWithin (λ e. is_due_at s.mark s.wait s.root_wait e ≡ false) (slice_set es i y) 0 s.end) [
    | true ↦ λ b. AllWithin-set (λ e. is_due_at s.mark s.wait s.root_wait e ≡ false) es 0 s.end i y (slice_get_within es i x g)
        (same (ap (is_due_at s.mark s.wait s.root_wait) (sym (get_or_from_slice_get es i x y g)) ∙ h.1 i y (omega arith) (grind (arith, nat_tests)))) h.1
    | false ↦ λ b k d low l. subst (λ (e : Episode). is_due_at s.mark s.wait s.root_wait e ≡ false) (sym (get-set-before es i y k d (grind (arith, nat_tests)))) (h.1 k d low l)
  ]) refl,
)
  where
    get-set-before : (es : List Episode) (i : ℕ) (y : Episode) (k : ℕ) (d : Episode) → k < i → get_or (slice_set es i y) k d ≡ get_or es k d
    get-set-before [] i y k d l = refl
    get-set-before (e ∷ es) zero y k d l = absurd (omega (arith, l))
    get-set-before (e ∷ es) (suc i) y zero d l = refl
    get-set-before (e ∷ es) (suc i) y (suc k) d l = get-set-before es i y k d (omega (arith, l))

-- a span goes to an episode, or none does
pub searched-appended : (s : DueSearch) (b big : Bool) (clock : ℕ) (a : Arrival) (es : List Episode) (i : ℕ) (x : Episode) → IsSearched s es → slice_get es i ≡ Some x → big ≡ is_too_big (with_span_if b clock a x).maximum (with_span_if b clock a x).spans → IsSearched (kept_at clock big s) (slice_set es i (with_span_if b clock a x))
searched-appended s b true clock a es i x h g e = (omega arith, λ k d low l. absurd (omega (arith, l)))
searched-appended s b false clock a es i x h g e = (elim (nat_lt clock s.mark) as (λ t. nat_lt clock s.mark ≡ t → IsSearched (cond t (record s { end = 0 }) s) (slice_set es i (with_span_if b clock a x))) [
  | true ↦ λ t. (omega arith, λ k d low l. absurd (omega (arith, l)))
  | false ↦ λ t. searched-changed s es i x (with_span_if b clock a x) h g (not-due-appended s.mark s.wait s.root_wait clock b a x (grind (arith, nat_tests)) (sym e))
]) refl
