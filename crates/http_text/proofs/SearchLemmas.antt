-- What the next bytes say of the end of a part, whatever bytes follow.
-- They serve `ends` of `find` and `cuts` of `cut_on`.
-- For `find` and `cut_on`.
use Rattle.std.proofs.Common.{◌≡◌, suc, ◌+◌, ◌<◌, ◌≤◌, true, false, length, take, drop, ℕ, List, [], ◌∷◌, ◌++◌, Option, Some, None, Bool, cond, refl, ap, sym, ◌∙◌, subst, arith, append_assoc, append-nil, length-drop, drop-drop}
use Rattle.std.specs.Prelude.{◌==◌, ◌&&◌, nat_lt, nat_le, position}
use Rattle.std.specs.Option.{option_map}
use Rattle.std.proofs.lemmas.List.{take-append-drop, take_all, length-take, take-append-le}
use Rattle.std.proofs.Math.Seq.{take-add}
use borrow.Author.Tests.{lt-ltb, le-leb, leb-true}
use Rattle.http_text.specs.declared.search.SearchPlace.{SearchPlace}
use Rattle.http_text.specs.declared.search.SearchPlace.TheVariants.{Blank, Start, Middle, Line}
use Rattle.http_text.specs.declared.search.PartSearch.{PartSearch}
use Rattle.http_text.specs.declared.search.SearchStep.{SearchStep}
use Rattle.http_text.specs.declared.search.SearchStep.TheVariants.{Found, On, Pause}
use Rattle.http_text.specs.Lines.{head_len, line_len, len_through_empty, empty_line_len, blank_len, cut_of}
use Rattle.http_text.specs.declared.search.Ending.TheVariants.{At, Open}
use Rattle.http_text.specs.declared.search.Cutting.TheVariants.{Whole, Waits, TooLong}
use Rattle.http_text.specs.Lines.{Waits as CWaits, TooLong as CTooLong}
use Rattle.http_text.specs.declared.lines.TheConstants.{PART_LIMIT}
use Rattle.http_text.specs.Search.{ends, step, IsStep, Searched, IsEnding, IsCutting}
use Rattle.http_text.proofs.LineLemmas.{blank_end, blank_step, search_cons, search_found}
use Rattle.http_text.proofs.FieldLemmas.{position_cons}

map_one : (o : Option ℕ) → option_map suc o ≡ option_map (λ k. 1 + k) o
map_one None = refl
map_one (Some n) = ap Some (omega arith)

map_two : (o : Option ℕ) → option_map suc (option_map suc o) ≡ option_map (λ k. 2 + k) o
map_two None = refl
map_two (Some n) = ap Some (omega arith)

map_zero_is : (o : Option ℕ) → option_map (λ k. 0 + k) o ≡ o
map_zero_is None = refl
map_zero_is (Some n) = ap Some (omega arith)

map_sum : (a b : ℕ) (o : Option ℕ) → option_map (λ k. (a + b) + k) o ≡ option_map (λ k. a + k) (option_map (λ k. b + k) o)
map_sum a b None = refl
map_sum a b (Some n) = ap Some (omega arith)

-- a line that isn't empty
plain_byte : (a : ℕ) (ys : List ℕ) → (a == 10) ≡ false → (a == 13) ≡ false → empty_line_len (a ∷ ys) ≡ 0
plain_byte a [] e d = ap (λ t. cond {A = ℕ} t 1 0) e
plain_byte a (b ∷ ys) e d = ap (λ t. cond {A = ℕ} t 1 (cond ((a == 13) && (b == 10)) 2 0)) e ∙ ap (λ t. cond {A = ℕ} (t && (b == 10)) 2 0) d

return_byte : (a b : ℕ) (ys : List ℕ) → (a == 10) ≡ false → (a == 13) ≡ true → (b == 10) ≡ false → empty_line_len (a ∷ b ∷ ys) ≡ 0
return_byte a b ys e d f = ap (λ t. cond {A = ℕ} t 1 (cond ((a == 13) && (b == 10)) 2 0)) e ∙ ap (λ t. cond {A = ℕ} (t && (b == 10)) 2 0) d ∙ ap (λ t. cond {A = ℕ} t 2 0) f

-- an empty line
feed_byte : (a : ℕ) (ys : List ℕ) → (a == 10) ≡ true → empty_line_len (a ∷ ys) ≡ 1
feed_byte a [] e = ap (λ t. cond {A = ℕ} t 1 0) e
feed_byte a (b ∷ ys) e = ap (λ t. cond {A = ℕ} t 1 (cond ((a == 13) && (b == 10)) 2 0)) e

crlf_byte : (a b : ℕ) (ys : List ℕ) → (a == 10) ≡ false → (a == 13) ≡ true → (b == 10) ≡ true → empty_line_len (a ∷ b ∷ ys) ≡ 2
crlf_byte a b ys e d f = ap (λ t. cond {A = ℕ} t 1 (cond ((a == 13) && (b == 10)) 2 0)) e ∙ ap (λ t. cond {A = ℕ} (t && (b == 10)) 2 0) d ∙ ap (λ t. cond {A = ℕ} t 2 0) f

-- no empty line in front: a head is searched as a trailer is
head_plain : (xs : List ℕ) → empty_line_len xs ≡ 0 → head_len xs ≡ len_through_empty true xs
head_plain xs e = ap (λ n. option_map (λ k. n + k) (len_through_empty true (drop n xs))) (blank_end xs e) ∙ map_zero_is (len_through_empty true xs)

-- an empty line in front is left out
head_blank : (xs : List ℕ) (n : ℕ) → empty_line_len xs ≡ n → 0 < n → head_len xs ≡ option_map (λ k. n + k) (head_len (drop n xs))
head_blank xs n e h =
    let some : nat_lt 0 n ≡ true = lt-ltb 0 n h in
    let is : blank_len xs ≡ n + blank_len (drop n xs) = blank_step xs ∙ ap (λ k. k + cond (nat_lt 0 k) (blank_len (drop k xs)) 0) e ∙ ap (λ t. n + cond t (blank_len (drop n xs)) 0) some in
    let B = blank_len (drop n xs) in
    ap (λ k. option_map (λ j. k + j) (len_through_empty true (drop k xs))) is
    ∙ ap (λ l. option_map (λ j. (n + B) + j) (len_through_empty true l)) (sym (drop-drop' n B xs))
    ∙ map_sum n B (len_through_empty true (drop B (drop n xs)))
  where
    drop-drop' : (n B : ℕ) (xs : List ℕ) → drop B (drop n xs) ≡ drop (n + B) xs
    drop-drop' n B xs = drop-drop B n xs

start_plain : (a : ℕ) (ys : List ℕ) → empty_line_len (a ∷ ys) ≡ 0 → (a == 10) ≡ false → len_through_empty true (a ∷ ys) ≡ option_map (λ k. 1 + k) (len_through_empty false ys)
start_plain a ys e d = search_cons true a ys (λ _. e) ∙ ap (λ t. option_map suc (len_through_empty t ys)) d ∙ map_one (len_through_empty false ys)

start_two : (a b : ℕ) (ys : List ℕ) → empty_line_len (a ∷ b ∷ ys) ≡ 0 → (a == 10) ≡ false → (b == 10) ≡ false → len_through_empty true (a ∷ b ∷ ys) ≡ option_map (λ k. 2 + k) (len_through_empty false ys)
start_two a b ys e d f =
    search_cons true a (b ∷ ys) (λ _. e) ∙ ap (λ t. option_map suc (len_through_empty t (b ∷ ys))) d
    ∙ ap (λ t. option_map suc (option_map suc (len_through_empty t ys))) f ∙ map_two (len_through_empty false ys)

start_found : (a : ℕ) (ys : List ℕ) (n : ℕ) → empty_line_len (a ∷ ys) ≡ n → 0 < n → len_through_empty true (a ∷ ys) ≡ Some n
start_found a ys n e h = search_found a ys (subst (λ k. 0 < k) (sym e) h) ∙ ap Some e

-- a step at a byte that isn't the end of a line
abbrev Choice : SearchPlace → List ℕ → Bool → Bool → Bool → SearchStep → SearchStep → SearchStep → SearchStep → Type 0
Choice place rest s t u w x y z = IsStep place rest (cond s w (cond t (cond u x y) z))

blank_one : (a : ℕ) (s t : Bool) → (a == 10) ≡ s → (a == 13) ≡ t → IsStep Blank (a ∷ []) (cond s (On 1 Blank) (cond t Pause (On 1 Middle)))
blank_one a true t e d = (omega arith, omega arith, λ ys. head_blank (a ∷ ys) 1 (feed_byte a ys e) (omega arith))
blank_one a false true e d = ap (λ s. option_map (λ k. cond {A = ℕ} s 1 0 + k) (len_through_empty true (drop (cond {A = ℕ} s 1 0) (a ∷ [])))) e ∙ ap (λ s. option_map (λ k. 0 + k) (cond (nat_lt 0 (cond {A = ℕ} s 1 0)) (Some (cond {A = ℕ} s 1 0)) None)) e
blank_one a false false e d = (omega arith, omega arith, λ ys. head_plain (a ∷ ys) (plain_byte a ys e d) ∙ start_plain a ys (plain_byte a ys e d) e)

blank_two : (a b : ℕ) (bytes : List ℕ) (s t u : Bool) → (a == 10) ≡ s → (a == 13) ≡ t → (b == 10) ≡ u → Choice Blank (a ∷ b ∷ bytes) s t u (On 1 Blank) (On 2 Blank) (On 2 Middle) (On 1 Middle)
blank_two a b bytes true t u e d f = (omega arith, omega arith, λ ys. head_blank (a ∷ ys) 1 (feed_byte a ys e) (omega arith))
blank_two a b bytes false true true e d f = (omega arith, omega arith, λ ys. head_blank (a ∷ b ∷ ys) 2 (crlf_byte a b ys e d f) (omega arith))
blank_two a b bytes false true false e d f = (omega arith, omega arith, λ ys. head_plain (a ∷ b ∷ ys) (return_byte a b ys e d f) ∙ start_two a b ys (return_byte a b ys e d f) e f)
blank_two a b bytes false false u e d f = (omega arith, omega arith, λ ys. head_plain (a ∷ ys) (plain_byte a ys e d) ∙ start_plain a ys (plain_byte a ys e d) e)

start_one : (a : ℕ) (s t : Bool) → (a == 10) ≡ s → (a == 13) ≡ t → IsStep Start (a ∷ []) (cond s (Found 1) (cond t Pause (On 1 Middle)))
start_one a true t e d = (omega arith, omega arith, λ ys. start_found a ys 1 (feed_byte a ys e) (omega arith))
start_one a false true e d = ap (λ s. cond (nat_lt 0 (cond {A = ℕ} s 1 0)) (Some (cond {A = ℕ} s 1 0)) None) e
start_one a false false e d = (omega arith, omega arith, λ ys. start_plain a ys (plain_byte a ys e d) e)

start_twice : (a b : ℕ) (bytes : List ℕ) (s t u : Bool) → (a == 10) ≡ s → (a == 13) ≡ t → (b == 10) ≡ u → Choice Start (a ∷ b ∷ bytes) s t u (Found 1) (Found 2) (On 2 Middle) (On 1 Middle)
start_twice a b bytes true t u e d f = (omega arith, omega arith, λ ys. start_found a (b ∷ (bytes ++ ys)) 1 (feed_byte a (b ∷ (bytes ++ ys)) e) (omega arith))
start_twice a b bytes false true true e d f = (omega arith, omega arith, λ ys. start_found a (b ∷ (bytes ++ ys)) 2 (crlf_byte a b (bytes ++ ys) e d f) (omega arith))
start_twice a b bytes false true false e d f = (omega arith, omega arith, λ ys. start_two a b ys (return_byte a b ys e d f) e f)
start_twice a b bytes false false u e d f = (omega arith, omega arith, λ ys. start_plain a ys (plain_byte a ys e d) e)

middle_by : (a : ℕ) (bytes : List ℕ) (s : Bool) → (a == 10) ≡ s → IsStep Middle (a ∷ bytes) (cond s (On 1 Start) (On 1 Middle))
middle_by a bytes true e = (omega arith, omega arith, λ ys. ap (λ t. option_map suc (len_through_empty t ys)) e ∙ map_one (len_through_empty true ys))
middle_by a bytes false e = (omega arith, omega arith, λ ys. ap (λ t. option_map suc (len_through_empty t ys)) e ∙ map_one (len_through_empty false ys))

abbrev is_lf : ℕ → Bool
is_lf b = b == 10

line_shift : (o : Option ℕ) → option_map (λ at. at + 1) (option_map suc o) ≡ option_map (λ k. 1 + k) (option_map (λ at. at + 1) o)
line_shift None = refl
line_shift (Some n) = ap Some (omega arith)

line_cons : (a : ℕ) (ys : List ℕ) (s : Bool) → (a == 10) ≡ s → line_len (a ∷ ys) ≡ option_map (λ at. at + 1) (cond s (Some 0) (option_map suc (position is_lf ys)))
line_cons a ys s e = ap (option_map (λ at. at + 1)) (position_cons is_lf a ys ∙ ap (λ t. cond t (Some 0) (option_map suc (position is_lf ys))) e)

line_by : (a : ℕ) (bytes : List ℕ) (s : Bool) → (a == 10) ≡ s → IsStep Line (a ∷ bytes) (cond s (Found 1) (On 1 Line))
line_by a bytes true e = (omega arith, omega arith, λ ys. line_cons a (bytes ++ ys) true e)
line_by a bytes false e = (omega arith, omega arith, λ ys. line_cons a ys false e ∙ line_shift (position is_lf ys))

-- each step is right
pub step_is : (place : SearchPlace) (rest : List ℕ) → IsStep place rest (step place rest)
step_is Blank [] = refl
step_is Blank (a ∷ []) = blank_one a (a == 10) (a == 13) refl refl
step_is Blank (a ∷ b ∷ bytes) = blank_two a b bytes (a == 10) (a == 13) (b == 10) refl refl refl
step_is Start [] = refl
step_is Start (a ∷ []) = start_one a (a == 10) (a == 13) refl refl
step_is Start (a ∷ b ∷ bytes) = start_twice a b bytes (a == 10) (a == 13) (b == 10) refl refl refl
step_is Middle [] = refl
step_is Middle (a ∷ bytes) = middle_by a bytes (a == 10) refl
step_is Line [] = refl
step_is Line (a ∷ bytes) = line_by a bytes (a == 10) refl

-- a search goes on behind a step
pub searched_on : (len_of : List ℕ → Option ℕ) (at n : ℕ) (place next : SearchPlace) (bytes : List ℕ) → Searched len_of (record { at = at; place = place }) bytes
    → IsStep place (drop at bytes) (On n next) → Searched len_of (record { at = at + n; place = next }) bytes
searched_on len_of at n place next bytes s t = (
  omega (arith, s.0, t.1, length-drop at bytes),
  λ ys. ap len_of (ap (λ l. l ++ ys) (take-add at n bytes) ∙ append_assoc (take at bytes) (take n (drop at bytes)) ys)
      ∙ s.1 (take n (drop at bytes) ++ ys) ∙ ap (option_map (λ k. at + k)) (t.2 ys) ∙ sym (map_sum at n (ends next ys)),
)

-- and ends where a step ends it
pub searched_found : (len_of : List ℕ → Option ℕ) (at n : ℕ) (place : SearchPlace) (bytes : List ℕ) → Searched len_of (record { at = at; place = place }) bytes
    → IsStep place (drop at bytes) (Found n) → (len_of bytes ≡ Some (at + n)) × (at + n ≤ length bytes)
searched_found len_of at n place bytes s t = (
  ap len_of (sym (take-append-drop at bytes)) ∙ s.1 (drop at bytes) ∙ ap (λ l. option_map (λ k. at + k) (ends place l)) (sym (append-nil (drop at bytes))) ∙ ap (option_map (λ k. at + k)) (t.2 []),
  omega (arith, s.0, t.1, length-drop at bytes),
)

pub searched_open : (len_of : List ℕ → Option ℕ) (at : ℕ) (place : SearchPlace) (bytes : List ℕ) → Searched len_of (record { at = at; place = place }) bytes
    → ends place (drop at bytes) ≡ None → len_of bytes ≡ None
searched_open len_of at place bytes s t = ap len_of (sym (take-append-drop at bytes)) ∙ s.1 (drop at bytes) ∙ ap (option_map (λ k. at + k)) t

-- a search on the bytes in which the part has to end
pub searched_front : (len_of : List ℕ → Option ℕ) (s : PartSearch) (stream : List ℕ) → Searched len_of s stream → s.at ≤ PART_LIMIT → Searched len_of s (take PART_LIMIT stream)
searched_front len_of s stream h le =
    let fits : s.at ≤ length (take PART_LIMIT stream) = omega (arith, h.0, length-take PART_LIMIT stream) in
    let same : take s.at stream ≡ take s.at (take PART_LIMIT stream) = ap (take s.at) (sym (take-append-drop PART_LIMIT stream)) ∙ take-append-le s.at (take PART_LIMIT stream) (drop PART_LIMIT stream) fits in
    (fits, subst (λ l. (ys : List ℕ) → len_of (l ++ ys) ≡ option_map (λ k. s.at + k) (ends s.place ys)) same h.1)

pub cutting_at : (len_of : List ℕ → Option ℕ) (stream : List ℕ) (n : ℕ) → IsEnding len_of (take PART_LIMIT stream) (At n) → IsCutting len_of stream (Whole n)
cutting_at len_of stream n h = (ap (cut_of (length stream)) h.0, h.1, omega (arith, h.2, length-take PART_LIMIT stream))

pub cutting_long : (len_of : List ℕ → Option ℕ) (stream : List ℕ) (s : PartSearch) → IsEnding len_of (take PART_LIMIT stream) (Open s) → PART_LIMIT ≤ length stream → IsCutting len_of stream TooLong
cutting_long len_of stream s h le = ap (cut_of (length stream)) h.0 ∙ ap (λ t. cond t CTooLong CWaits) (le-leb PART_LIMIT (length stream) le)

pub cutting_waits : (len_of : List ℕ → Option ℕ) (stream : List ℕ) (s : PartSearch) → IsEnding len_of (take PART_LIMIT stream) (Open s) → length stream < PART_LIMIT → IsCutting len_of stream (Waits s)
cutting_waits len_of stream s h lt = (
  ap (cut_of (length stream)) h.0 ∙ ap (λ t. cond t CTooLong CWaits) (lt-leb' PART_LIMIT (length stream) lt),
  subst (Searched len_of s) (take_all PART_LIMIT stream (omega arith)) h.1,
  lt,
)
  where
    lt-leb'_by : (t : Bool) (a b : ℕ) → nat_le a b ≡ t → b < a → t ≡ false
    lt-leb'_by true a b e h = absurd (let le : a ≤ b = leb-true a b e in omega arith)
    lt-leb'_by false a b e h = refl

    lt-leb' : (a b : ℕ) → b < a → nat_le a b ≡ false
    lt-leb' a b h = lt-leb'_by (nat_le a b) a b refl h
