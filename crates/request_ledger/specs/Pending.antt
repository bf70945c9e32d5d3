-- Which spans of one trace have ended. The spans stand in the order in which they came, the oldest first.
use Rattle.std.specs.List.{AllByRecursion, list_all}
use Rattle.std.specs.Prelude.{◌≡◌, ◌⊎◌, ◌≤◌, ℕ, ◌+◌, ◌-◌, nat_lt, nat_le, Bool, true, false, not, ◌&&◌, if◌then◌else◌, List, [], ◌∷◌, ◌++◌, length, take, replicate, bytes_eq, sum_by, count_by, map, slice_get, Some}
use Rattle.request_ledger.specs.declared.pending.LedgerSpan.{LedgerSpan}
use Rattle.request_ledger.specs.declared.pending.LedgerEnd.{LedgerEnd}
use Rattle.request_ledger.specs.declared.pending.LedgerEnd.TheVariants.{Handed, Counted}

-- how many spans an end says have ended
abbrev pub how_many : LedgerEnd → ℕ
how_many (Handed id) = 1
how_many (Counted moment spans) = spans

-- an end is of such a span: of that id, or one that came up to the moment
abbrev pub is_of : LedgerEnd → LedgerSpan → Bool
is_of (Handed id) span = bytes_eq span.span id
is_of (Counted moment spans) span = nat_le span.moment moment

-- the span hasn't ended, and the end is of it
abbrev pub may_end : LedgerEnd → LedgerSpan → Bool → Bool
may_end end span ended = not ended && is_of end span

-- how many may end
abbrev pub count_may_end : LedgerEnd → List LedgerSpan → List Bool → ℕ
count_may_end end [] flags = 0
count_may_end end (span ∷ spans) [] = 0
count_may_end end (span ∷ spans) (ended ∷ flags) = (if may_end end span ended then 1 else 0) + count_may_end end spans flags

-- the oldest n of those that may end have ended too
abbrev pub with_oldest : LedgerEnd → ℕ → List LedgerSpan → List Bool → List Bool
with_oldest end n [] flags = flags
with_oldest end n (span ∷ spans) [] = []
with_oldest end n (span ∷ spans) (ended ∷ flags) =
    if nat_lt 0 n && may_end end span ended then true ∷ with_oldest end (n - 1) spans flags else ended ∷ with_oldest end n spans flags

-- after one end: it ends as many as it says, the oldest first, or none where there aren't so many
abbrev pub after_end : List LedgerSpan → List Bool → LedgerEnd → List Bool
after_end spans flags end = if nat_le (how_many end) (count_may_end end spans flags) then with_oldest end (how_many end) spans flags else flags

-- after ends, one after the other
abbrev pub after_ends : List LedgerSpan → List Bool → List LedgerEnd → List Bool
after_ends spans flags [] = flags
after_ends spans flags (end ∷ ends) = after_ends spans (after_end spans flags end) ends

-- which spans have ended, when none had before
abbrev pub ended_spans : List LedgerSpan → List LedgerEnd → List Bool
ended_spans spans ends = after_ends spans (replicate (length spans) false) ends

-- all have ended; else the whole trace is received again
abbrev pub is_over : List LedgerSpan → List LedgerEnd → Bool
is_over spans ends = list_all (λ ended. ended) (ended_spans spans ends)

-- all spans before a place have ended
abbrev pub HaveEnded : ℕ → List Bool → Type 0
HaveEnded place flags = (place ≤ length flags) × (take place flags ≡ replicate place true)

-- no more have ended than the ends say
abbrev pub NothingEndsTwice : Type 0
NothingEndsTwice = (spans : List LedgerSpan) (ends : List LedgerEnd) → count_by (λ ended. ended) (ended_spans spans ends) ≤ sum_by how_many ends

-- an end ends just as many as it says, or none
abbrev pub EndsAllOrNone : Type 0
EndsAllOrNone =
    (spans : List LedgerSpan) (flags : List Bool) (end : LedgerEnd)
    → (count_by (λ ended. ended) (after_end spans flags end) ≡ count_by (λ ended. ended) flags + how_many end) ⊎ (after_end spans flags end ≡ flags)

-- a span that has ended stays so, whatever ends follow
abbrev pub EndedStayEnded : Type 0
EndedStayEnded = (spans : List LedgerSpan) (ends more : List LedgerEnd) (i : ℕ) → slice_get (ended_spans spans ends) i ≡ Some true → slice_get (ended_spans spans (ends ++ more)) i ≡ Some true

-- a trace is left out at the next start only where the ends say of as many spans as it has that they have ended
abbrev pub OverIsTold : Type 0
OverIsTold = (spans : List LedgerSpan) (ends : List LedgerEnd) → is_over spans ends ≡ true → length spans ≤ sum_by how_many ends

-- and it is left out where each of its spans was handed over
abbrev pub HandedIsOver : Type 0
HandedIsOver = (spans : List LedgerSpan) → is_over spans (map (λ span. Handed span.span) spans) ≡ true

-- or all of them were counted
abbrev pub CountedIsOver : Type 0
CountedIsOver = (spans : List LedgerSpan) (moment : ℕ) → AllByRecursion (λ span. span.moment ≤ moment) spans → is_over spans (Counted moment (length spans) ∷ []) ≡ true

-- where no more ends were told than spans had one, a trace is received again of which a span has none
abbrev pub PendingComesAgain : Type 0
PendingComesAgain =
    (spans : List LedgerSpan) (has_end : List Bool) (ends : List LedgerEnd) (i : ℕ) → length has_end ≡ length spans → sum_by how_many ends ≤ count_by (λ has. has) has_end → slice_get has_end i ≡ Some false
    → is_over spans ends ≡ false
