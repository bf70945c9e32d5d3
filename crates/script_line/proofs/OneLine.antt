-- A text in pieces, with a space in place of each line break.
-- For the contract of `put_on_one_line`.
use Rattle.std.proofs.Common.{◌≡◌, ◌<◌, ◌≤◌, ◌+◌, ◌-◌, ◌==◌, ◌∷◌, ◌++◌, [], Bool, true, false, ℕ, zero, suc, List, ap, arith, cond, drop, get_or, length, length-drop, map, refl, sym, take, append_assoc, ◌∙◌}
use Rattle.std.proofs.lemmas.Bool.Decides.{nat_tests}
use Rattle.std.proofs.lemmas.List.{take_all}
use Rattle.std.specs.Prelude.{slice_index, Result, Ok, Err}
use Rattle.memchr.specs.Find.{IsFirstByte, Nowhere, NoneBefore, Passes, is_byte2}
use Rattle.script_line.specs.Appending.{Appends}
use Rattle.script_line.specs.Line.{on_one_line}
use Rattle.script_line.proofs.Appended.{front-on}

abbrev breaks : ℕ → Bool
breaks byte = is_byte2 10 13 byte

-- up to here there is no line break
abbrev Plain : List ℕ → ℕ → Type 0
Plain text n = Nowhere (Passes breaks text) 0 n

tail-plain : (x : ℕ) (xs : List ℕ) (n : ℕ) → Plain (x ∷ xs) (suc n) → Plain xs n
tail-plain x xs n h k low high = h (suc k) (omega arith) (omega arith)

not-true : (b : Bool) → (b ≡ true → ⊥) → b ≡ false
not-true true h = absurd (h refl)
not-true false h = refl

head-plain : (x : ℕ) (xs : List ℕ) (n : ℕ) → Plain (x ∷ xs) (suc n) → breaks x ≡ false
head-plain x xs n h = not-true (breaks x) (h 0 (omega arith) (omega arith))

-- with no line break it stays as it is
pub plain-stays : (text : List ℕ) → Plain text (length text) → on_one_line text ≡ text
plain-stays [] h = refl
plain-stays (x ∷ xs) h = rw (head-plain x xs (length xs) h) (ap (λ (l : List ℕ). x ∷ l) (plain-stays xs (tail-plain x xs (length xs) h)))

-- up to the first line break it stays as it is; then come a space and the rest on one line
pub first-break : (text : List ℕ) (at : ℕ) → at < length text → Plain text at → breaks (slice_index text at) ≡ true
    → on_one_line text ≡ take at text ++ 32 ∷ on_one_line (drop (at + 1) text)
first-break [] at some h is = absurd (omega (arith, some))
first-break (x ∷ xs) zero some h is = rw is refl
first-break (x ∷ xs) (suc at) some h is =
    let later : suc at + 1 ≡ suc (at + 1) = omega arith in
    rw (head-plain x xs at h)
    (ap (λ (l : List ℕ). x ∷ l) (first-break xs at (omega (arith, some)) (tail-plain x xs at h) is)
    ∙ ap (λ (k : ℕ). x ∷ (take at xs ++ 32 ∷ on_one_line (drop k (x ∷ xs)))) (sym later))

-- all that is left behind a place
pub whole-left : (k : ℕ) (rest : List ℕ) → take (length rest - k) (drop k rest) ≡ drop k rest
whole-left k rest = take_all (length rest - k) (drop k rest) (omega (arith, length-drop k rest))

-- what was appended so far, with the rest on one line, is the whole: so it is with one more piece and a space
pub one-more : (first now between new text rest part left : List ℕ) (at : ℕ) → now ++ on_one_line rest ≡ first ++ on_one_line text
    → at < length rest → Plain rest at → breaks (slice_index rest at) ≡ true → part ≡ take at rest → left ≡ drop (at + 1) rest
    → between ≡ now ++ part → new ≡ between ++ 32 ∷ [] → new ++ on_one_line left ≡ first ++ on_one_line text
one-more first now between new text rest part left at so_far some plain is part_is left_is between_is new_is =
    ap (λ (l : List ℕ). l ++ on_one_line left) new_is
    ∙ append_assoc between (32 ∷ []) (on_one_line left)
    ∙ ap (λ (l : List ℕ). l ++ 32 ∷ on_one_line left) between_is
    ∙ append_assoc now part (32 ∷ on_one_line left)
    ∙ ap (λ (l : List ℕ). now ++ (l ++ 32 ∷ on_one_line left)) part_is
    ∙ ap (λ (l : List ℕ). now ++ (take at rest ++ 32 ∷ on_one_line l)) left_is
    ∙ ap (λ (l : List ℕ). now ++ l) (sym (first-break rest at some plain is))
    ∙ so_far

-- a rest with no line break is appended as it is
pub appends-rest : {E : Type 0} (result : Result (Unit {0}) E) (first now new text rest : List ℕ) → Plain rest (length rest)
    → now ++ on_one_line rest ≡ first ++ on_one_line text → take (length first) now ≡ first → Appends result now new rest → Appends result first new (on_one_line text)
appends-rest (Ok done) first now new text rest plain so_far front h =
    record { whole = h.whole ∙ ap (λ (l : List ℕ). now ++ l) (sym (plain-stays rest plain)) ∙ so_far; front = front-on first now new front h.front }
appends-rest (Err fault) first now new text rest plain so_far front h = record { whole = tt; front = front-on first now new front h.front }
