-- A journal seen from its end, one entry further.
-- For the contracts of `clock`, `has_ended`, `have_ended`, `is_root_past` and others.
use Rattle.std.proofs.Common.{◌≡◌, ℕ, ◌+◌, ◌<◌, ◌≤◌, ◌&&◌, ◌||◌, nat_le, List, [], ◌∷◌, ◌++◌, length, get_or, take, reverse, ap, sym, ◌∙◌, add-one, refl, arith}
use Rattle.std.proofs.lemmas.List.{reverse-append, take_more, length-reverse, length-take-le}
use Rattle.std.specs.List.{list_any}
use Rattle.journal_theory.specs.Journal.{Entry, Journal, Opening, clock, has_ended, have_ended, is_root, is_root_past, item_spans, spans_since}

-- one element more in a list seen from its end
pub newest_more : {X : Type 0} → (xs : List X) (i : ℕ) (d : X) → i < length xs → reverse (take (i + 1) xs) ≡ get_or xs i d ∷ reverse (take i xs)
newest_more xs i d l = ap reverse (take_more xs i d l) ∙ reverse-append (take i xs) (get_or xs i d ∷ [])

-- one sender more
pub have_ended_more : (past : Journal) (n : ℕ) → have_ended past (n + 1) ≡ (has_ended past n && have_ended past n)
have_ended_more past n = rw add-one refl

-- so many entries were taken
pub length_newest : {X : Type 0} → (xs : List X) (i : ℕ) → i ≤ length xs → length (reverse (take i xs)) ≡ i
length_newest xs i l = length-reverse (take i xs) ∙ length-take-le i xs l

-- one entry more in an episode's look back
pub spans_more : (journal : List Entry) (o : Opening) (i : ℕ) (e : Entry) → i < length journal → e ≡ get_or journal i e → spans_since (reverse (take (i + 1) journal)) o ≡ spans_since (reverse (take i journal)) o ++ item_spans o i e.refused e.item
spans_more journal o i e l h =
    ap (λ past. spans_since past o) (newest_more journal i e l ∙ ap (λ (x : Entry). x ∷ reverse (take i journal)) (sym h))
    ∙ ap (λ (n : ℕ). spans_since (reverse (take i journal)) o ++ item_spans o n e.refused e.item) (length_newest journal i (omega arith))

-- one entry more in the look back for an old enough root
pub roots_more : (rw now : ℕ) (journal : List Entry) (o : Opening) (i : ℕ) (e : Entry) → i < length journal → e ≡ get_or journal i e
    → is_root_past rw now (reverse (take (i + 1) journal)) o ≡ (is_root_past rw now (reverse (take i journal)) o || (list_any is_root (item_spans o i e.refused e.item) && nat_le (clock (reverse (take (i + 1) journal)) + rw) now))
roots_more rw now journal o i e l h =
    let next : reverse (take (i + 1) journal) ≡ e ∷ reverse (take i journal) = newest_more journal i e l ∙ ap (λ (x : Entry). x ∷ reverse (take i journal)) (sym h) in
    ap (λ past. is_root_past rw now past o) next
    ∙ ap (λ (n : ℕ). is_root_past rw now (reverse (take i journal)) o || (list_any is_root (item_spans o n e.refused e.item) && nat_le (clock (e ∷ reverse (take i journal)) + rw) now)) (length_newest journal i (omega arith))
    ∙ ap (λ past. is_root_past rw now (reverse (take i journal)) o || (list_any is_root (item_spans o i e.refused e.item) && nat_le (clock past + rw) now)) (sym next)
