-- The words of a comma list.
-- They serve the clauses of `has_word` and `find_elements`.
use Rattle.std.proofs.Common.{◌≡◌, suc, ◌+◌, [], ◌∷◌, true, false, take, drop, ℕ, List, Option, Some, None, Bool, cond, refl, ap, sym, ◌∙◌, arith}
use Rattle.std.specs.Prelude.{position, ◌==◌, ◌||◌, filter, map, nat_lt, length, ◌++◌}
use Rattle.std.specs.List.{list_any}
use Rattle.std.specs.Option.{option_map}
use Rattle.std.specs.Str.{str_eq_ignore_ascii_case}
use Rattle.httparse.specs.Grammar.{trim_ows}
use Rattle.http_text.specs.Fields.{split_commas, cons_first, has_word, elements}
use Rattle.http_text.proofs.FieldLemmas.{position_cons}

abbrev is_comma : ℕ → Bool
is_comma b = b == 44

-- the words, by where the first comma stands
abbrev words_at : List ℕ → Option ℕ → List (List ℕ)
words_at xs None = xs ∷ []
words_at xs (Some at) = take at xs ∷ split_commas (drop (at + 1) xs)

split_step : (t : Bool) (o : Option ℕ) (b : ℕ) (bytes : List ℕ) → (b == 44) ≡ t → split_commas bytes ≡ words_at bytes o
    → split_commas (b ∷ bytes) ≡ words_at (b ∷ bytes) (cond t (Some 0) (option_map suc o))
split_step true o b bytes e ih = ap (λ t. cond t ([] ∷ split_commas bytes) (cons_first b (split_commas bytes))) e
split_step false None b bytes e ih =
    ap (λ t. cond t ([] ∷ split_commas bytes) (cons_first b (split_commas bytes))) e ∙ ap (cons_first b) ih
split_step false (Some k) b bytes e ih =
    let step : suc (k + 1) ≡ suc k + 1 = omega arith in
    ap (λ t. cond t ([] ∷ split_commas bytes) (cons_first b (split_commas bytes))) e ∙ ap (cons_first b) ih
    ∙ ap (λ n. (b ∷ take k bytes) ∷ split_commas (drop n (b ∷ bytes))) step

split_at : (xs : List ℕ) → split_commas xs ≡ words_at xs (position is_comma xs)
split_at [] = refl
split_at (b ∷ bytes) =
    split_step (b == 44) (position is_comma bytes) b bytes refl (split_at bytes)
    ∙ ap (words_at (b ∷ bytes)) (sym (position_cons is_comma b bytes))

abbrev pub is_word : List ℕ → List ℕ → Bool
is_word word w = str_eq_ignore_ascii_case (trim_ows w) word

or_false : (s : Bool) → (s || false) ≡ s
or_false true = refl
or_false false = refl

or_assoc : (s t u : Bool) → ((s || t) || u) ≡ (s || (t || u))
or_assoc true t u = refl
or_assoc false t u = refl

-- one word more
pub word_more : (word xs : List ℕ) (at : ℕ) (found : Bool) → position is_comma xs ≡ Some at → (found || has_word word xs) ≡ ((found || is_word word (take at xs)) || has_word word (drop (at + 1) xs))
word_more word xs at found e =
    ap (λ ws. found || list_any (is_word word) ws) (split_at xs ∙ ap (words_at xs) e)
    ∙ sym (or_assoc found (is_word word (take at xs)) (has_word word (drop (at + 1) xs)))

-- the last word
pub word_last : (word xs : List ℕ) (found : Bool) → position is_comma xs ≡ None → (found || has_word word xs) ≡ (found || is_word word xs)
word_last word xs found e =
    ap (λ ws. found || list_any (is_word word) ws) (split_at xs ∙ ap (words_at xs) e)
    ∙ ap (λ t. found || t) (or_false (is_word word xs))

abbrev pub is_word_of : List ℕ → List ℕ → Bool
is_word_of word trimmed = str_eq_ignore_ascii_case trimmed word

-- a trimmed word as an element: none where it is empty
abbrev pub one_trimmed : List ℕ → List (List ℕ)
one_trimmed w = filter (λ v. nat_lt 0 (length v)) (w ∷ [])

abbrev pub one_of : List ℕ → List (List ℕ)
one_of w = one_trimmed (trim_ows w)

filter_cons : (t : Bool) (w : List ℕ) (ws : List (List ℕ)) → cond t (w ∷ ws) ws ≡ cond t (w ∷ []) [] ++ ws
filter_cons true w ws = refl
filter_cons false w ws = refl

-- one element more
pub elements_more : (xs : List ℕ) (at : ℕ) → position is_comma xs ≡ Some at → elements xs ≡ one_of (take at xs) ++ elements (drop (at + 1) xs)
elements_more xs at e =
    ap (λ ws. filter (λ w. nat_lt 0 (length w)) (map trim_ows ws)) (split_at xs ∙ ap (words_at xs) e)
    ∙ filter_cons (nat_lt 0 (length (trim_ows (take at xs)))) (trim_ows (take at xs)) (elements (drop (at + 1) xs))

-- the last element
pub elements_last : (xs : List ℕ) → position is_comma xs ≡ None → elements xs ≡ one_of xs
elements_last xs e = ap (λ ws. filter (λ w. nat_lt 0 (length w)) (map trim_ows ws)) (split_at xs ∙ ap (words_at xs) e)
