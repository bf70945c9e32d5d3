-- When all spans of a trace have ended.
-- For the contracts of `over_is_told`, `pending_comes_again`, `handed_is_over` and `counted_is_over`.
use Rattle.std.proofs.Common.{◌≡◌, ℕ, zero, suc, ◌-◌, ◌<◌, ◌≤◌, Bool, true, false, not, Some, List, [], ◌∷◌, length, replicate, map, refl, sym, ◌∙◌, ap, ⊎_elim, arith}
use Rattle.std.specs.Prelude.{◌&&◌, nat_lt, nat_le, sum_by, slice_get}
use Rattle.std.specs.List.{AllByRecursion, list_all}
use Rattle.std.proofs.lemmas.Bool.{cases_Bool, cond-true, cond-false, and_parts, and_from, le-leb}
use Rattle.std.proofs.lemmas.Bool.Decides.{Decides-ltb}
use Rattle.std.proofs.lemmas.Slice.Eq.{bytes_eq-Decides}
use Rattle.std.proofs.lemmas.List.{length-replicate}
use Rattle.request_ledger.specs.declared.pending.LedgerSpan.{LedgerSpan}
use Rattle.request_ledger.specs.declared.pending.LedgerEnd.{LedgerEnd}
use Rattle.request_ledger.specs.declared.pending.LedgerEnd.TheVariants.{Handed, Counted}
use Rattle.request_ledger.specs.Pending.{how_many, is_of, may_end, count_may_end, with_oldest, after_end, after_ends, ended_spans, is_over}
use Rattle.request_ledger.proofs.Ends.{and_no, one_if, with_none, after_handed, count_ended, count_cons, nothing_ends_twice}

-- ---- as many flags as spans

with_len : (end : LedgerEnd) (n : ℕ) (spans : List LedgerSpan) (flags : List Bool) → length (with_oldest end n spans flags) ≡ length flags
with_len end n [] flags = refl
with_len end n (span ∷ spans) [] = refl
with_len end n (span ∷ spans) (ended ∷ flags) = ⊎_elim
    (λ is. ap (λ (l : List Bool). length l) (cond-true _ _ _ is) ∙ ap suc (with_len end (n - 1) spans flags))
    (λ is. ap (λ (l : List Bool). length l) (cond-false _ _ _ is) ∙ ap suc (with_len end n spans flags))
    (cases_Bool (nat_lt 0 n && may_end end span ended))

after_end_len : (spans : List LedgerSpan) (flags : List Bool) (end : LedgerEnd) → length (after_end spans flags end) ≡ length flags
after_end_len spans flags end = ⊎_elim
    (λ is. ap (λ (l : List Bool). length l) (cond-true _ _ _ is) ∙ with_len end (how_many end) spans flags)
    (λ is. ap (λ (l : List Bool). length l) (cond-false _ _ _ is))
    (cases_Bool (nat_le (how_many end) (count_may_end end spans flags)))

after_ends_len : (spans : List LedgerSpan) (flags : List Bool) (ends : List LedgerEnd) → length (after_ends spans flags ends) ≡ length flags
after_ends_len spans flags [] = refl
after_ends_len spans flags (end ∷ ends) = after_ends_len spans (after_end spans flags end) ends ∙ after_end_len spans flags end

count_all : (flags : List Bool) → list_all (λ ended. ended) flags ≡ true → count_ended flags ≡ length flags
count_all [] is = refl
count_all (ended ∷ flags) is =
    let parts = and_parts _ _ is in
    let one : one_if ended ≡ 1 = ap one_if parts.0 in
    omega (arith, count_cons ended flags, one, count_all flags parts.1)

pub over_is_told : (spans : List LedgerSpan) (ends : List LedgerEnd) → is_over spans ends ≡ true → length spans ≤ sum_by how_many ends
over_is_told spans ends is =
    let len : length (ended_spans spans ends) ≡ length spans = after_ends_len spans (replicate (length spans) false) ends ∙ length-replicate (length spans) false in
    omega (arith, nothing_ends_twice spans ends, count_all (ended_spans spans ends) is, len)

-- ---- a span without an end

count_le : (flags : List Bool) → count_ended flags ≤ length flags
count_le [] = omega arith
count_le (true ∷ flags) = omega (arith, count_cons true flags, count_le flags)
count_le (false ∷ flags) = omega (arith, count_cons false flags, count_le flags)

count_less : (flags : List Bool) (i : ℕ) → slice_get flags i ≡ Some false → count_ended flags < length flags
count_less [] i is = absurd (cc)
count_less (ended ∷ flags) zero is =
    let was : ended ≡ false = cc in
    let none : one_if ended ≡ 0 = ap one_if was in
    omega (arith, none, count_cons ended flags, count_le flags)
count_less (true ∷ flags) (suc i) is = omega (arith, count_cons true flags, count_less flags i is)
count_less (false ∷ flags) (suc i) is = omega (arith, count_cons false flags, count_less flags i is)

pub pending_comes_again : (spans : List LedgerSpan) (has_end : List Bool) (ends : List LedgerEnd) (i : ℕ) → length has_end ≡ length spans → sum_by how_many ends ≤ count_ended has_end → slice_get has_end i ≡ Some false → is_over spans ends ≡ false
pending_comes_again spans has_end ends i same told none = ⊎_elim
    (λ over. absurd (omega (arith, same, told, over_is_told spans ends over, count_less has_end i none)))
    (λ open_still. open_still)
    (cases_Bool (is_over spans ends))

-- ---- all were handed over

all_true : (n : ℕ) → list_all (λ ended. ended) (replicate n true) ≡ true
all_true zero = refl
all_true (suc n) = and_from _ _ refl (all_true n)

-- one in front that has ended is passed over
passed_end : (span : LedgerSpan) (spans : List LedgerSpan) (flags : List Bool) (end : LedgerEnd) → after_end (span ∷ spans) (true ∷ flags) end ≡ true ∷ after_end spans flags end
passed_end span spans flags end =
    let same : count_may_end end (span ∷ spans) (true ∷ flags) ≡ count_may_end end spans flags = omega arith in
    let on : nat_le (how_many end) (count_may_end end (span ∷ spans) (true ∷ flags)) ≡ nat_le (how_many end) (count_may_end end spans flags) = ap (λ (c : ℕ). nat_le (how_many end) c) same in
    ⊎_elim
    (λ is. cond-true _ _ _ (on ∙ is) ∙ cond-false _ _ _ (and_no (nat_lt 0 (how_many end))) ∙ ap (λ (l : List Bool). true ∷ l) (sym (cond-true _ _ _ is)))
    (λ is. cond-false _ _ _ (on ∙ is) ∙ ap (λ (l : List Bool). true ∷ l) (sym (cond-false _ _ _ is)))
    (cases_Bool (nat_le (how_many end) (count_may_end end spans flags)))

passed_ends : (span : LedgerSpan) (spans : List LedgerSpan) (flags : List Bool) (ends : List LedgerEnd) → after_ends (span ∷ spans) (true ∷ flags) ends ≡ true ∷ after_ends spans flags ends
passed_ends span spans flags [] = refl
passed_ends span spans flags (end ∷ ends) = ap (λ (l : List Bool). after_ends (span ∷ spans) l ends) (passed_end span spans flags end) ∙ passed_ends span spans (after_end spans flags end) ends

-- one in front that hasn't is ended by its own id
head_handed : (span : LedgerSpan) (spans : List LedgerSpan) (flags : List Bool) → after_end (span ∷ spans) (false ∷ flags) (Handed span.span) ≡ true ∷ flags
head_handed span spans flags =
    let its : (not false && is_of (Handed span.span) span) ≡ true = and_from _ _ refl ((bytes_eq-Decides span.span span.span).1 refl) in
    let may : (nat_lt 0 1 && may_end (Handed span.span) span false) ≡ true = and_from _ _ refl its in
    sym (after_handed span.span (span ∷ spans) (false ∷ flags)) ∙ cond-true _ _ _ may ∙ ap (λ (l : List Bool). true ∷ l) (with_none (Handed span.span) spans flags)

all_handed : (spans : List LedgerSpan) → ended_spans spans (map (λ span. Handed span.span) spans) ≡ replicate (length spans) true
all_handed [] = refl
all_handed (span ∷ spans) =
    ap (λ (l : List Bool). after_ends (span ∷ spans) l (map (λ span. Handed span.span) spans)) (head_handed span spans (replicate (length spans) false))
    ∙ passed_ends span spans (replicate (length spans) false) (map (λ span. Handed span.span) spans) ∙ ap (λ (l : List Bool). true ∷ l) (all_handed spans)

pub handed_is_over : (spans : List LedgerSpan) → is_over spans (map (λ span. Handed span.span) spans) ≡ true
handed_is_over spans = ap (λ (l : List Bool). list_all (λ ended. ended) l) (all_handed spans) ∙ all_true (length spans)

-- ---- all were counted

abbrev AreOf : LedgerEnd → List LedgerSpan → Type 0
AreOf end spans = AllByRecursion (λ span. is_of end span ≡ true) spans

are_of : (spans : List LedgerSpan) (moment n : ℕ) → AllByRecursion (λ span. span.moment ≤ moment) spans → AreOf (Counted moment n) spans
are_of [] moment n all = tt
are_of (span ∷ spans) moment n all = (le-leb _ _ all.0, are_of spans moment n all.1)

count_of : (end : LedgerEnd) (spans : List LedgerSpan) → AreOf end spans → count_may_end end spans (replicate (length spans) false) ≡ length spans
count_of end [] all = refl
count_of end (span ∷ spans) all =
    let one : one_if (may_end end span false) ≡ 1 = ap one_if (and_from _ _ refl all.0) in
    omega (arith, one, count_of end spans all.1)

with_all : (end : LedgerEnd) (spans : List LedgerSpan) → AreOf end spans → with_oldest end (length spans) spans (replicate (length spans) false) ≡ replicate (length spans) true
with_all end [] all = refl
with_all end (span ∷ spans) all =
    let more : 0 < suc (length spans) = omega arith in
    let less : suc (length spans) - 1 ≡ length spans = omega arith in
    cond-true _ _ _ (and_from _ _ ((Decides-ltb 0 (suc (length spans))).1 more) (and_from _ _ refl all.0))
    ∙ ap (λ (n : ℕ). true ∷ with_oldest end n spans (replicate (length spans) false)) less ∙ ap (λ (l : List Bool). true ∷ l) (with_all end spans all.1)

pub counted_is_over : (spans : List LedgerSpan) (moment : ℕ) → AllByRecursion (λ span. span.moment ≤ moment) spans → is_over spans (Counted moment (length spans) ∷ []) ≡ true
counted_is_over spans moment all =
    let end = Counted moment (length spans) in
    let of = are_of spans moment (length spans) all in
    let low : length spans ≤ count_may_end end spans (replicate (length spans) false) = omega (arith, count_of end spans of) in
    ap (λ (l : List Bool). list_all (λ ended. ended) l) (cond-true _ _ _ (le-leb _ _ low) ∙ with_all end spans of) ∙ all_true (length spans)
