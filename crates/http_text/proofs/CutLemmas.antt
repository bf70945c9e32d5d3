-- A part that was found at the front of a stream stays there, whatever bytes follow.
-- They serve `cuts` of `cut_on`, and the law of the pieces of `http_lane`.
use Rattle.std.proofs.Common.{◌≡◌, suc, ◌+◌, ◌<◌, ◌≤◌, ◌-◌, true, false, length, take, drop, ℕ, List, [], ◌∷◌, ◌++◌, Option, Some, None, Bool, cond, refl, ap, sym, ◌∙◌, arith, append-nil, length-append, length-drop}
use Rattle.std.proofs.lemmas.List.{length-take}
use Rattle.std.specs.Prelude.{nat_le, nat_lt, position, ◌==◌, ◌&&◌}
use Rattle.std.specs.Option.{option_map}
use Rattle.std.proofs.lemmas.List.{take-append-le, take_all}
use Rattle.std.proofs.Math.Seq.{take-append-add}
use borrow.Author.Tests.{leb-true, leb-false, le-leb}
use Rattle.http_text.specs.Lines.{Whole, Waits, TooLong}
use Rattle.http_text.specs.declared.lines.TheConstants.{PART_LIMIT}
use Rattle.http_text.specs.Lines.{cut_of, cut, head_len, trailer_len, line_len, len_through_empty, blank_len, empty_line_len}
use Rattle.http_text.proofs.FieldLemmas.{position_within}
use Rattle.http_text.proofs.LineLemmas.{head_more, search_more, blank_within, empty_within}

-- an end that is found stays where it is
abbrev pub IsStable : (List ℕ → Option ℕ) → Type 0
IsStable len_of = (xs ys : List ℕ) (n : ℕ) → len_of xs ≡ Some n → len_of (xs ++ ys) ≡ Some n

abbrev pub IsWithin : (List ℕ → Option ℕ) → Type 0
IsWithin len_of = (xs : List ℕ) (n : ℕ) → len_of xs ≡ Some n → n ≤ length xs

take_more_by : (t : Bool) (n : ℕ) (xs ys : List ℕ) → nat_le n (length xs) ≡ t → (zs : List ℕ) × (take n (xs ++ ys) ≡ take n xs ++ zs)
take_more_by true n xs ys e = let le : n ≤ length xs = leb-true n (length xs) e in ([], take-append-le n xs ys le ∙ sym (append-nil _))
take_more_by false n xs ys e =
    let lt : length xs < n = leb-false n (length xs) e in
    let sum : n ≡ length xs + (n - length xs) = omega arith in
    (take (n - length xs) ys, ap (λ k. take k (xs ++ ys)) sum ∙ take-append-add xs ys (n - length xs) ∙ ap (λ l. l ++ take (n - length xs) ys) (sym (take_all n xs (omega arith))))

pub take_more : (n : ℕ) (xs ys : List ℕ) → (zs : List ℕ) × (take n (xs ++ ys) ≡ take n xs ++ zs)
take_more n xs ys = take_more_by (nat_le n (length xs)) n xs ys refl

no_end_whole : (t : Bool) (n : ℕ) → cond t TooLong Waits ≡ Whole n → ⊥
no_end_whole true n e = cc
no_end_whole false n e = cc

cut_of_whole : (len n : ℕ) (o : Option ℕ) → cut_of len o ≡ Whole n → o ≡ Some n
cut_of_whole len n None e = absurd (no_end_whole (nat_le PART_LIMIT len) n e)
cut_of_whole len n (Some k) e = cc

pub whole_end : (len_of : List ℕ → Option ℕ) (xs : List ℕ) (n : ℕ) → cut len_of xs ≡ Whole n → len_of (take PART_LIMIT xs) ≡ Some n
whole_end len_of xs n e = cut_of_whole (length xs) n (len_of (take PART_LIMIT xs)) e

-- what was found whole stays
pub whole_more : (len_of : List ℕ → Option ℕ) → IsStable len_of → (xs ys : List ℕ) (n : ℕ) → cut len_of xs ≡ Whole n → cut len_of (xs ++ ys) ≡ Whole n
whole_more len_of stable xs ys n e =
    let more = take_more PART_LIMIT xs ys in
    ap (cut_of (length (xs ++ ys))) (ap len_of more.1 ∙ stable (take PART_LIMIT xs) more.0 n (whole_end len_of xs n e))

long_len : (t : Bool) → cond t TooLong Waits ≡ TooLong → t ≡ true
long_len true e = refl
long_len false e = absurd (cc)

too_long_none : (len : ℕ) (o : Option ℕ) → cut_of len o ≡ TooLong → (o ≡ None) × (PART_LIMIT ≤ len)
too_long_none len (Some k) e = absurd (cc)
too_long_none len None e = (refl, leb-true PART_LIMIT len (long_len (nat_le PART_LIMIT len) e))

-- what was too long stays so
pub too_long_more : (len_of : List ℕ → Option ℕ) (xs ys : List ℕ) → cut len_of xs ≡ TooLong → cut len_of (xs ++ ys) ≡ TooLong
too_long_more len_of xs ys e =
    let known = too_long_none (length xs) (len_of (take PART_LIMIT xs)) e in
    let le : PART_LIMIT ≤ length xs = known.1 in
    let longer : PART_LIMIT ≤ length (xs ++ ys) = omega (arith, length-append xs ys) in
    ap (cut_of (length (xs ++ ys))) (ap len_of (take-append-le PART_LIMIT xs ys le) ∙ known.0)
    ∙ ap (λ t. cond t TooLong Waits) (le-leb PART_LIMIT (length (xs ++ ys)) longer)

map_some : (b n : ℕ) (o : Option ℕ) → option_map (λ k. b + k) o ≡ Some n → (k : ℕ) × (o ≡ Some k) × (n ≡ b + k)
map_some b n None e = absurd (cc)
map_some b n (Some k) e = (k, refl, cc)

map_suc : (n : ℕ) (o : Option ℕ) → option_map suc o ≡ Some n → (k : ℕ) × (o ≡ Some k) × (n ≡ suc k)
map_suc n None e = absurd (cc)
map_suc n (Some k) e = (k, refl, cc)

through_within_by : (t : Bool) (E n len : ℕ) (o : Option ℕ) → E ≤ suc len → ((k : ℕ) → o ≡ Some k → k ≤ len) → cond t (Some E) (option_map suc o) ≡ Some n → n ≤ suc len
through_within_by true E n len o le ih e = let same : E ≡ n = cc in omega arith
through_within_by false E n len o le ih e = let found = map_suc n o e in let lt = ih found.0 found.1 in omega (arith, found.2)

pub through_within : (s : Bool) (xs : List ℕ) (n : ℕ) → len_through_empty s xs ≡ Some n → n ≤ length xs
through_within s [] n e = absurd (cc)
through_within s (a ∷ xs) n e =
    through_within_by (s && nat_lt 0 (empty_line_len (a ∷ xs))) (empty_line_len (a ∷ xs)) n (length xs) (len_through_empty (a == 10) xs) (empty_within (a ∷ xs)) (λ k d. through_within (a == 10) xs k d) e

pub head_within : IsWithin head_len
head_within xs n e =
    let found = map_some (blank_len xs) n (len_through_empty true (drop (blank_len xs) xs)) e in
    let le = through_within true (drop (blank_len xs) xs) found.0 found.1 in
    omega (arith, found.2, blank_within xs, length-drop (blank_len xs) xs)

pub trailer_within : IsWithin trailer_len
trailer_within xs n e = through_within true xs n e

-- a part lies in the stream
pub cut_within : (len_of : List ℕ → Option ℕ) → IsWithin len_of → (xs : List ℕ) (n : ℕ) → cut len_of xs ≡ Whole n → n ≤ length xs
cut_within len_of within xs n e = omega (arith, within (take PART_LIMIT xs) n (whole_end len_of xs n e), length-take PART_LIMIT xs)

pub head_stable : IsStable head_len
head_stable xs ys n e = head_more xs ys n e

pub trailer_stable : IsStable trailer_len
trailer_stable xs ys n e = search_more true xs ys n e

-- a stream within the limit is looked at whole
pub cut_short : (len_of : List ℕ → Option ℕ) (xs : List ℕ) → length xs ≤ PART_LIMIT → cut_of (length xs) (len_of xs) ≡ cut len_of xs
cut_short len_of xs h = ap (λ l. cut_of (length xs) (len_of l)) (sym (take_all PART_LIMIT xs h))

line_found : (n : ℕ) (o : Option ℕ) → option_map (λ at. at + 1) o ≡ Some n → (k : ℕ) × (o ≡ Some k) × (n ≡ k + 1)
line_found n None e = absurd (cc)
line_found n (Some k) e = (k, refl, cc)

pub line_within : IsWithin line_len
line_within xs n e =
    let found = line_found n (position (λ b. b == 10) xs) e in
    let lt = position_within (λ b. b == 10) xs found.0 found.1 in
    omega (arith, found.2)
