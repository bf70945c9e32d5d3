-- Due by the first root, and by some root.
-- For the contracts of `due_by_first_root`, `none_due_after_mark` and `root_wait_off`.
use Rattle.std.proofs.Common.{◌≡◌, ℕ, ◌+◌, ◌≤◌, Bool, true, false, ◌&&◌, ◌||◌, cond, nat_lt, nat_le, List, [], ◌∷◌, length, Option, Some, None, refl, sym, ap, subst, ◌∙◌, arith}
use Rattle.std.specs.List.{list_any}
use Rattle.std.specs.Option.{IfSome}
use Rattle.std.proofs.lemmas.Bool.Decides.{nat_tests}
use Rattle.otlp_types.specs.declared.arrival.Arrival.{Arrival}
use Rattle.trace_buffer.specs.Buffer.{are_of_root, is_root_due}
use Rattle.journal_theory.specs.Journal.{Journal, Entry, Opening, clock, item_spans, is_root, is_root_past, is_oversized}
use Rattle.journal_theory.specs.Standing.{root_among, first_root_since}
use Rattle.journal_theory.proofs.Notes.{none_own}
use Rattle.journal_theory.specs.RootWait.{RootWaitOff, DueByFirstRoot, NoneDueAfterMark}

or-none : (b : Bool) → (b || false) ≡ b
or-none true = refl
or-none false = refl

and-none : (b : Bool) → (b && false) ≡ false
and-none true = refl
and-none false = refl

pub root_wait_off : RootWaitOff
root_wait_off s past o h = ap (λ r. nat_le (o.moment + s.decision_wait) (clock past) || (nat_lt 0 r && is_root_past r (clock past) past o) || is_oversized s past o) h ∙ ap (λ b. b || is_oversized s past o) (or-none (nat_le (o.moment + s.decision_wait) (clock past)))

-- ---- the first root among spans

among-some : (f c : ℕ) (spans : List Arrival) → root_among (Some f) c spans ≡ Some f
among-some f c [] = refl
among-some f c (a ∷ spans) = among-some f c spans

among-none : (c : ℕ) (spans : List Arrival) → root_among None c spans ≡ cond (list_any is_root spans) (Some c) None
among-none c [] = refl
among-none c (a ∷ spans) = (elim (are_of_root a.rec.span.ids) as (λ b. root_among (cond b (Some c) None) c spans ≡ cond (b || list_any is_root spans) (Some c) None) [
  | true ↦ among-some c c spans
  | false ↦ among-none c spans
])

-- the first root was taken at the clock or before
among-by : (r : Option ℕ) (c d : ℕ) (spans : List Arrival) → c ≤ d → IfSome r (λ f. f ≤ c) → IfSome (root_among r d spans) (λ f. f ≤ d)
among-by (Some f) c d spans l h = subst (λ (r : Option ℕ). IfSome r (λ f. f ≤ d)) (sym (among-some f d spans)) (omega (arith, l, h))
among-by None c d spans l h = subst (λ (r : Option ℕ). IfSome r (λ f. f ≤ d)) (sym (among-none d spans)) (by (list_any is_root spans))
  where
    by : (b : Bool) → IfSome (cond b (Some d) None) (λ f. f ≤ d)
    by true = omega arith
    by false = tt

clock-on : (e : Entry) (before : Journal) → clock before ≤ clock (e ∷ before)
clock-on e before = omega arith

root-by : (past : Journal) (o : Opening) → IfSome (first_root_since past o) (λ f. f ≤ clock past)
root-by [] o = tt
root-by (e ∷ before) o = among-by (first_root_since before o) (clock before) (clock (e ∷ before)) (item_spans o (length before) e.refused e.item) (clock-on e before) (root-by before o)

-- ---- by cases of tests

some-root : (p n m x y : Bool) → (p && n) ≡ (p && x) → (m ≡ true → n ≡ true) → (p && n) ≡ (p && (x || (y && m)))
some-root false n m x y h k = refl
some-root true n true x y h k = let yes = k refl in yes ∙ sym (ap (λ b. b || (y && true)) (sym h ∙ yes))
some-root true n false x y h k = h ∙ sym (ap (λ b. x || b) (and-none y) ∙ or-none x)

no-root : (p m x y : Bool) → false ≡ (p && x) → cond y (p && m) false ≡ (p && (x || (y && m)))
no-root false m x true h = refl
no-root false m x false h = refl
no-root true m x true h = ap (λ b. b || m) h
no-root true m x false h = h ∙ sym (or-none x)

step : (rw now c : ℕ) (r : Option ℕ) (spans : List Arrival) (x : Bool) → IfSome r (λ f. f ≤ c) → is_root_due now rw r ≡ (nat_lt 0 rw && x) →
    is_root_due now rw (root_among r c spans) ≡ (nat_lt 0 rw && (x || (list_any is_root spans && nat_le (c + rw) now)))
step rw now c (Some f) spans x b h = ap (is_root_due now rw) (among-some f c spans) ∙ some-root (nat_lt 0 rw) (nat_le (f + rw) now) (nat_le (c + rw) now) x (list_any is_root spans) h (λ k. grind (arith, nat_tests))
step rw now c None spans x b h = ap (is_root_due now rw) (among-none c spans) ∙ inside (list_any is_root spans) ∙ no-root (nat_lt 0 rw) (nat_le (c + rw) now) x (list_any is_root spans) h
  where
    inside : (y : Bool) → is_root_due now rw (cond y (Some c) None) ≡ cond y (nat_lt 0 rw && nat_le (c + rw) now) false
    inside true = refl
    inside false = refl

pub due_by_first_root : DueByFirstRoot
due_by_first_root rw now [] o = sym (and-none (nat_lt 0 rw))
due_by_first_root rw now (e ∷ before) o = step rw now (clock (e ∷ before)) (first_root_since before o) (item_spans o (length before) e.refused e.item) (is_root_past rw now before o)
    (later (first_root_since before o) (clock before) (clock (e ∷ before)) (clock-on e before) (root-by before o)) (due_by_first_root rw now before o)
  where
    later : (r : Option ℕ) (c d : ℕ) → c ≤ d → IfSome r (λ f. f ≤ c) → IfSome r (λ f. f ≤ d)
    later None c d l h = tt
    later (Some f) c d l h = omega (arith, l, h)

-- ---- after the mark

late-root : (rw mark c : ℕ) → mark ≤ c → (nat_lt 0 rw && nat_le (c + rw) mark) ≡ false
late-root rw mark c l = (elim (nat_lt 0 rw) as (λ b. nat_lt 0 rw ≡ b → (b && nat_le (c + rw) mark) ≡ false) [
  | true ↦ λ h. grind (arith, nat_tests)
  | false ↦ λ h. refl
]) refl

pub none_due_after_mark : NoneDueAfterMark
none_due_after_mark rw mark e before o l = by (first_root_since before o)
  where
    none : (y : Bool) → is_root_due mark rw (cond y (Some (clock (e ∷ before))) None) ≡ false
    none true = late-root rw mark (clock (e ∷ before)) l
    none false = refl

    by : (r : Option ℕ) → is_root_due mark rw (root_among r (clock (e ∷ before)) (item_spans o (length before) e.refused e.item)) ≡ is_root_due mark rw r
    by (Some f) = ap (is_root_due mark rw) (among-some f (clock (e ∷ before)) (item_spans o (length before) e.refused e.item))
    by None = ap (is_root_due mark rw) (among-none (clock (e ∷ before)) (item_spans o (length before) e.refused e.item)) ∙ none (list_any is_root (item_spans o (length before) e.refused e.item))

-- before its opening an episode has no root
pub no_roots : (past : Journal) (o : Opening) → length past ≤ o.at → first_root_since past o ≡ None
no_roots [] o l = refl
no_roots (e ∷ past) o l = ap (λ (xs : List Arrival). root_among (first_root_since past o) (clock (e ∷ past)) xs) (none_own o (length past) e.refused e.item (omega (arith, l))) ∙ no_roots past o (omega (arith, l))
