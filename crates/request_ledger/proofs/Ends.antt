-- What ends do to the flags of spans.
-- For the contracts of `end_oldest`, `nothing_ends_twice` and `ended_stay_ended`.
use Rattle.std.proofs.Common.{◌≡◌, ℕ, zero, suc, ◌+◌, ◌-◌, ◌<◌, ◌≤◌, Bool, true, false, not, Some, ◌⊎◌, inl, inr, List, [], ◌∷◌, ◌++◌, length, take, drop, replicate, take-append-drop, refl, sym, ◌∙◌, ap, subst, ⊎_elim, arith}
use Rattle.std.specs.Prelude.{◌&&◌, cond, nat_lt, nat_le, count_by, sum_by, slice_get}
use Rattle.std.proofs.lemmas.Bool.{cases_Bool, cond-true, cond-false, and_parts, and_from, leb-false, leb-true}
use Rattle.std.proofs.lemmas.List.Sums.{sum_by-cons}
use Rattle.std.proofs.lemmas.Bool.Decides.{Decides-ltb}
use Rattle.request_ledger.specs.declared.pending.LedgerSpan.{LedgerSpan}
use Rattle.request_ledger.specs.declared.pending.LedgerEnd.{LedgerEnd}
use Rattle.request_ledger.specs.declared.pending.LedgerEnd.TheVariants.{Handed}
use Rattle.request_ledger.specs.Pending.{how_many, is_of, may_end, count_may_end, with_oldest, after_end, after_ends, ended_spans}

pub and_no : (b : Bool) → (b && false) ≡ false
and_no true = refl
and_no false = refl

-- none of them
pub with_none : (end : LedgerEnd) (spans : List LedgerSpan) (flags : List Bool) → with_oldest end 0 spans flags ≡ flags
with_none end [] flags = refl
with_none end (span ∷ spans) [] = refl
with_none end (span ∷ spans) (ended ∷ flags) = ap (λ (l : List Bool). ended ∷ l) (with_none end spans flags)

abbrev pub one_if : Bool → ℕ
one_if b = cond b 1 0

-- where none may end, none does
pub with_no_more : (end : LedgerEnd) (n : ℕ) (spans : List LedgerSpan) (flags : List Bool) → count_may_end end spans flags ≡ 0 → with_oldest end n spans flags ≡ flags
with_no_more end n [] flags none = refl
with_no_more end n (span ∷ spans) [] none = refl
with_no_more end n (span ∷ spans) (ended ∷ flags) none = ⊎_elim
    (λ may. let one : one_if (may_end end span ended) ≡ 1 = ap one_if may in absurd (omega arith))
    (λ may. let rest : count_may_end end spans flags ≡ 0 = omega arith in
    cond-false _ _ _ (ap (λ (b : Bool). nat_lt 0 n && b) may ∙ and_no (nat_lt 0 n)) ∙ ap (λ (l : List Bool). ended ∷ l) (with_no_more end n spans flags rest))
    (cases_Bool (may_end end span ended))

-- one that is handed over ends the first, or none where there is none
pub after_handed : (id : List ℕ) (spans : List LedgerSpan) (flags : List Bool) → with_oldest (Handed id) 1 spans flags ≡ after_end spans flags (Handed id)
after_handed id spans flags = ⊎_elim
    (λ takes. sym (cond-true _ _ _ takes))
    (λ takes. let low : count_may_end (Handed id) spans flags < 1 = leb-false _ _ takes in
    with_no_more (Handed id) 1 spans flags (omega arith) ∙ sym (cond-false _ _ _ takes))
    (cases_Bool (nat_le 1 (count_may_end (Handed id) spans flags)))

-- ---- those at the front that have ended are passed over

pub passed_count : (end : LedgerEnd) (k : ℕ) (spans : List LedgerSpan) (flags : List Bool) → take k flags ≡ replicate k true → count_may_end end (drop k spans) (drop k flags) ≡ count_may_end end spans flags
passed_count end zero spans flags front = refl
passed_count end (suc k) [] flags front = refl
passed_count end (suc k) (span ∷ spans) [] front = absurd (cc)
passed_count end (suc k) (span ∷ spans) (ended ∷ flags) front =
    let was : ended ≡ true = cc in
    let rest : take k flags ≡ replicate k true = cc in
    let none : one_if (may_end end span ended) ≡ 0 = ap (λ (b : Bool). one_if (may_end end span b)) was in
    omega (arith, none, passed_count end k spans flags rest)

pub passed_oldest : (end : LedgerEnd) (n k : ℕ) (spans : List LedgerSpan) (flags : List Bool) → take k flags ≡ replicate k true → take k flags ++ with_oldest end n (drop k spans) (drop k flags) ≡ with_oldest end n spans flags
passed_oldest end n zero spans flags front = refl
passed_oldest end n (suc k) [] flags front = take-append-drop (suc k) flags
passed_oldest end n (suc k) (span ∷ spans) [] front = absurd (cc)
passed_oldest end n (suc k) (span ∷ spans) (ended ∷ flags) front =
    let was : ended ≡ true = cc in
    let rest : take k flags ≡ replicate k true = cc in
    let none : may_end end span ended ≡ false = ap (λ (b : Bool). may_end end span b) was in
    ap (λ (l : List Bool). ended ∷ l) (passed_oldest end n k spans flags rest)
    ∙ sym (cond-false _ _ _ (ap (λ (b : Bool). nat_lt 0 n && b) none ∙ and_no (nat_lt 0 n)))

abbrev pub count_ended : List Bool → ℕ
count_ended flags = count_by (λ ended. ended) flags

-- ---- no more end than an end says

pub count_cons : (ended : Bool) (flags : List Bool) → count_ended (ended ∷ flags) ≡ cond ended 1 0 + count_ended flags
count_cons ended flags = sum_by-cons (λ e. cond e 1 0) ended flags

pub at_most : (end : LedgerEnd) (n : ℕ) (spans : List LedgerSpan) (flags : List Bool) → count_ended (with_oldest end n spans flags) ≤ count_ended flags + n
at_most end n [] flags = omega arith
at_most end n (span ∷ spans) [] = omega arith
at_most end n (span ∷ spans) (ended ∷ flags) =
    let fewer : List Bool → Type 0 = λ l. count_ended l ≤ count_ended (ended ∷ flags) + n in
    ⊎_elim
    (λ is. let some : 0 < n = (Decides-ltb 0 n).0 (and_parts _ _ is).0 in
    let here : fewer (true ∷ with_oldest end (n - 1) spans flags) = omega (arith, count_cons true (with_oldest end (n - 1) spans flags), count_cons ended flags, at_most end (n - 1) spans flags) in
    subst fewer (sym (cond-true _ _ _ is)) here)
    (λ is. let here : fewer (ended ∷ with_oldest end n spans flags) = omega (arith, count_cons ended (with_oldest end n spans flags), count_cons ended flags, at_most end n spans flags) in
    subst fewer (sym (cond-false _ _ _ is)) here)
    (cases_Bool (nat_lt 0 n && may_end end span ended))

at_most_by_end : (spans : List LedgerSpan) (flags : List Bool) (end : LedgerEnd) → count_ended (after_end spans flags end) ≤ count_ended flags + how_many end
at_most_by_end spans flags end =
    let fewer : List Bool → Type 0 = λ l. count_ended l ≤ count_ended flags + how_many end in
    ⊎_elim
    (λ is. subst fewer (sym (cond-true _ _ _ is)) (at_most end (how_many end) spans flags))
    (λ is. let here : fewer flags = omega arith in subst fewer (sym (cond-false _ _ _ is)) here)
    (cases_Bool (nat_le (how_many end) (count_may_end end spans flags)))

at_most_by_ends : (spans : List LedgerSpan) (flags : List Bool) (ends : List LedgerEnd) → count_ended (after_ends spans flags ends) ≤ count_ended flags + sum_by how_many ends
at_most_by_ends spans flags [] = omega arith
at_most_by_ends spans flags (end ∷ ends) =
    omega (arith, at_most_by_ends spans (after_end spans flags end) ends, at_most_by_end spans flags end, sum_by-cons how_many end ends)

count_none : (n : ℕ) → count_ended (replicate n false) ≡ 0
count_none zero = refl
count_none (suc n) = count_cons false (replicate n false) ∙ (let e : 0 + count_ended (replicate n false) ≡ count_ended (replicate n false) = omega arith in e) ∙ count_none n

pub nothing_ends_twice : (spans : List LedgerSpan) (ends : List LedgerEnd) → count_ended (ended_spans spans ends) ≤ sum_by how_many ends
nothing_ends_twice spans ends = omega (arith, at_most_by_ends spans (replicate (length spans) false) ends, count_none (length spans))

-- ---- just as many end as an end says, or none

not_ended : (ended of : Bool) → (not ended && of) ≡ true → ended ≡ false
not_ended true of is = absurd (cc)
not_ended false of is = refl

-- where this one doesn't end, as many may end behind it
enough : (n : ℕ) (may : Bool) (rest : ℕ) → (nat_lt 0 n && may) ≡ false → n ≤ one_if may + rest → n ≤ rest
enough zero may rest is low = omega arith
enough (suc n) true rest is low =
    let more : 0 < suc n = omega arith in
    let odd : true ≡ false = sym (and_from _ _ ((Decides-ltb 0 (suc n)).1 more) refl) ∙ is in
    absurd (cc)
enough (suc n) false rest is low = omega arith

just : (end : LedgerEnd) (n : ℕ) (spans : List LedgerSpan) (flags : List Bool) → n ≤ count_may_end end spans flags → count_ended (with_oldest end n spans flags) ≡ count_ended flags + n
just end n [] flags low = omega arith
just end n (span ∷ spans) [] low = omega arith
just end n (span ∷ spans) (ended ∷ flags) low =
    ⊎_elim
    (λ is.
    let parts = and_parts _ _ is in
    let some : 0 < n = (Decides-ltb 0 n).0 parts.0 in
    let one : one_if (may_end end span ended) ≡ 1 = ap one_if parts.1 in
    let was : one_if ended ≡ 0 = ap one_if (not_ended ended (is_of end span) parts.1) in
    let rest = just end (n - 1) spans flags (omega arith) in
    ap count_ended (cond-true _ _ _ is) ∙ omega (arith, count_cons true (with_oldest end (n - 1) spans flags), count_cons ended flags, rest))
    (λ is.
    let rest = just end n spans flags (enough n (may_end end span ended) (count_may_end end spans flags) is low) in
    ap count_ended (cond-false _ _ _ is) ∙ omega (arith, count_cons ended (with_oldest end n spans flags), count_cons ended flags, rest))
    (cases_Bool (nat_lt 0 n && may_end end span ended))

pub all_or_none : (spans : List LedgerSpan) (flags : List Bool) (end : LedgerEnd) → (count_ended (after_end spans flags end) ≡ count_ended flags + how_many end) ⊎ (after_end spans flags end ≡ flags)
all_or_none spans flags end = ⊎_elim
    (λ is. inl (ap count_ended (cond-true _ _ _ is) ∙ just end (how_many end) spans flags (leb-true _ _ is)))
    (λ is. inr (cond-false _ _ _ is))
    (cases_Bool (nat_le (how_many end) (count_may_end end spans flags)))

-- ---- what has ended stays so

stays : (end : LedgerEnd) (n : ℕ) (spans : List LedgerSpan) (flags : List Bool) (i : ℕ) → slice_get flags i ≡ Some true → slice_get (with_oldest end n spans flags) i ≡ Some true
stays end n [] flags i is = is
stays end n (span ∷ spans) [] i is = is
stays end n (span ∷ spans) (ended ∷ flags) i is = ⊎_elim
    (λ takes. ap (λ (l : List Bool). slice_get l i) (cond-true _ _ _ takes) ∙ stays_behind true ended flags (with_oldest end (n - 1) spans flags) i (λ h. refl) (stays end (n - 1) spans flags) is)
    (λ takes. ap (λ (l : List Bool). slice_get l i) (cond-false _ _ _ takes) ∙ stays_behind ended ended flags (with_oldest end n spans flags) i (λ h. h) (stays end n spans flags) is)
    (cases_Bool (nat_lt 0 n && may_end end span ended))
  where
    stays_behind : (now before : Bool) (flags later : List Bool) (i : ℕ) → (before ≡ true → now ≡ true) → ((j : ℕ) → slice_get flags j ≡ Some true → slice_get later j ≡ Some true) → slice_get (before ∷ flags) i ≡ Some true → slice_get (now ∷ later) i ≡ Some true
    stays_behind now before flags later zero first rest is = let was : before ≡ true = cc in ap Some (first was)
    stays_behind now before flags later (suc i) first rest is = rest i is

stays_by_end : (spans : List LedgerSpan) (flags : List Bool) (end : LedgerEnd) (i : ℕ) → slice_get flags i ≡ Some true → slice_get (after_end spans flags end) i ≡ Some true
stays_by_end spans flags end i is = ⊎_elim
    (λ takes. ap (λ (l : List Bool). slice_get l i) (cond-true _ _ _ takes) ∙ stays end (how_many end) spans flags i is)
    (λ takes. ap (λ (l : List Bool). slice_get l i) (cond-false _ _ _ takes) ∙ is)
    (cases_Bool (nat_le (how_many end) (count_may_end end spans flags)))

stays_by_ends : (spans : List LedgerSpan) (flags : List Bool) (more : List LedgerEnd) (i : ℕ) → slice_get flags i ≡ Some true → slice_get (after_ends spans flags more) i ≡ Some true
stays_by_ends spans flags [] i is = is
stays_by_ends spans flags (end ∷ more) i is = stays_by_ends spans (after_end spans flags end) more i (stays_by_end spans flags end i is)

after_ends-append : (spans : List LedgerSpan) (flags : List Bool) (ends more : List LedgerEnd) → after_ends spans flags (ends ++ more) ≡ after_ends spans (after_ends spans flags ends) more
after_ends-append spans flags [] more = refl
after_ends-append spans flags (end ∷ ends) more = after_ends-append spans (after_end spans flags end) ends more

pub ended_stay_ended : (spans : List LedgerSpan) (ends more : List LedgerEnd) (i : ℕ) → slice_get (ended_spans spans ends) i ≡ Some true → slice_get (ended_spans spans (ends ++ more)) i ≡ Some true
ended_stay_ended spans ends more i is =
    ap (λ (l : List Bool). slice_get l i) (after_ends-append spans (replicate (length spans) false) ends more) ∙ stays_by_ends spans (ended_spans spans ends) more i is
