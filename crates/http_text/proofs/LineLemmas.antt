-- Where parts end, as more of a stream is looked at.
-- They serve `value` of `blank_len` and `cuts` of `cut_on`.
use Rattle.std.proofs.Common.{◌≡◌, suc, ◌+◌, ◌<◌, ◌≤◌, true, false, length, drop, ℕ, List, [], ◌∷◌, ◌++◌, Option, Some, None, Bool, cond, refl, ap, sym, ◌∙◌, arith, drop-drop}
use Rattle.std.proofs.lemmas.List.{drop-append-le}
use borrow.Author.Tests.{lt-ltb}
use Rattle.std.specs.Option.{option_map}
use Rattle.http_text.specs.Lines.{empty_line_len, blank_len, len_through_empty, head_len}
use Rattle.std.specs.Prelude.{◌==◌, nat_lt, ◌&&◌}

first_within : (t : Bool) → cond {A = ℕ} t 1 0 ≤ 1
first_within true = omega arith
first_within false = omega arith

two_within : (s t : Bool) (n : ℕ) → cond {A = ℕ} s 1 (cond t 2 0) ≤ suc (suc n)
two_within true t n = omega arith
two_within false true n = omega arith
two_within false false n = omega arith

pub empty_within : (bytes : List ℕ) → empty_line_len bytes ≤ length bytes
empty_within [] = omega arith
empty_within (a ∷ []) = first_within (a == 10)
empty_within (a ∷ b ∷ bytes) = two_within (a == 10) ((a == 13) && (b == 10)) (length bytes)

pub shift_none : (o : Option ℕ) → o ≡ option_map (λ n. 0 + n) o
shift_none None = refl
shift_none (Some n) = ap Some (omega arith)

blank_cases : (s t : Bool) (f : ℕ → ℕ) → let e : ℕ = cond s 1 (cond t 2 0) in cond s (suc (f 1)) (cond t (suc (suc (f 2))) 0) ≡ e + cond (nat_lt 0 e) (f e) 0
blank_cases true t f = omega arith
blank_cases false true f = omega arith
blank_cases false false f = refl

-- the empty lines begin with the first of them
pub blank_step : (bytes : List ℕ) → blank_len bytes ≡ empty_line_len bytes + cond (nat_lt 0 (empty_line_len bytes)) (blank_len (drop (empty_line_len bytes) bytes)) 0
blank_step [] = refl
blank_step (a ∷ []) = elim (a == 10) as (λ t. cond t 1 0 ≡ cond t 1 0 + cond (nat_lt 0 (cond t 1 0)) (blank_len (drop (cond t 1 0) (a ∷ []))) 0) [ true ↦ refl | false ↦ refl ]
blank_step (a ∷ b ∷ bytes) = blank_cases (a == 10) ((a == 13) && (b == 10)) (λ n. blank_len (drop n (a ∷ b ∷ bytes)))

pub blank_end : (bytes : List ℕ) → empty_line_len bytes ≡ 0 → blank_len bytes ≡ 0
blank_end bytes e = blank_step bytes ∙ ap (λ n. n + cond (nat_lt 0 n) (blank_len (drop n bytes)) 0) e

pub search_cons : (starts : Bool) (a : ℕ) (rest : List ℕ) → (starts ≡ true → empty_line_len (a ∷ rest) ≡ 0)
    → len_through_empty starts (a ∷ rest) ≡ option_map suc (len_through_empty (a == 10) rest)
search_cons false a rest e = refl
search_cons true a rest e = ap (λ (n : ℕ). cond (nat_lt 0 n) (Some n) (option_map suc (len_through_empty (a == 10) rest))) (e refl)

pub search_found : (a : ℕ) (rest : List ℕ) → 0 < empty_line_len (a ∷ rest) → len_through_empty true (a ∷ rest) ≡ Some (empty_line_len (a ∷ rest))
search_found a rest h = ap (λ t. cond t (Some (empty_line_len (a ∷ rest))) (option_map suc (len_through_empty (a == 10) rest))) (lt-ltb 0 (empty_line_len (a ∷ rest)) h)

-- behind the first empty line the others follow
pub blank_more : (i : ℕ) (bytes : List ℕ) (n : ℕ) → n ≡ empty_line_len (drop i bytes) → 0 < n → blank_len (drop i bytes) ≡ n + blank_len (drop (i + n) bytes)
blank_more i bytes n e h =
    blank_step (drop i bytes)
    ∙ ap (λ k. k + cond (nat_lt 0 k) (blank_len (drop k (drop i bytes))) 0) (sym e)
    ∙ ap (λ t. n + cond t (blank_len (drop n (drop i bytes))) 0) (lt-ltb 0 n h)
    ∙ ap (λ xs. n + blank_len xs) (drop-drop n i bytes)

empty_lf : (a : ℕ) (ys : List ℕ) → (a == 10) ≡ true → empty_line_len (a ∷ ys) ≡ 1
empty_lf a [] e = ap (λ t. cond {A = ℕ} t 1 0) e
empty_lf a (b ∷ ys) e = ap (λ t. cond {A = ℕ} t 1 (cond ((a == 13) && (b == 10)) 2 0)) e

found_more : (t : Bool) (E n : ℕ) (R R' : Option ℕ) → ((k : ℕ) → R ≡ Some k → R' ≡ Some k) → cond t (Some E) (option_map suc R) ≡ Some n → cond t (Some E) (option_map suc R') ≡ Some n
found_more true E n R R' ih h = h
found_more false E n None R' ih h = absurd (cc)
found_more false E n (Some k) R' ih h = ap (option_map suc) (ih k refl) ∙ h

last_found : (s t : Bool) (a n : ℕ) (ys : List ℕ) → (a == 10) ≡ t → cond (s && nat_lt 0 (cond t 1 0)) (Some (cond t 1 0)) None ≡ Some n → len_through_empty s (a ∷ ys) ≡ Some n
last_found true true a n ys e h = search_found a ys (rw (empty_lf a ys e) (omega arith)) ∙ ap Some (empty_lf a ys e) ∙ h
last_found true false a n ys e h = absurd (cc)
last_found false t a n ys e h = absurd (cc)

-- an empty line that was found stays where it is, whatever bytes follow
pub search_more : (s : Bool) (xs ys : List ℕ) (n : ℕ) → len_through_empty s xs ≡ Some n → len_through_empty s (xs ++ ys) ≡ Some n
search_more s [] ys n h = absurd (cc)
search_more s (a ∷ []) ys n h = last_found s (a == 10) a n ys refl h
search_more s (a ∷ b ∷ xs) ys n h = found_more (s && nat_lt 0 (empty_line_len (a ∷ b ∷ xs))) (empty_line_len (a ∷ b ∷ xs)) n (len_through_empty (a == 10) (b ∷ xs)) (len_through_empty (a == 10) (b ∷ (xs ++ ys))) (λ k e. search_more (a == 10) (b ∷ xs) ys k e) h

-- and so do the empty lines in front of a head
blank_more_cases : (s t : Bool) (m m' k k' : ℕ) → (s ≡ true → m' ≡ m) → (s ≡ false → t ≡ true → k' ≡ k) → cond s (suc m') (cond t (suc (suc k')) 0) ≡ cond s (suc m) (cond t (suc (suc k)) 0)
blank_more_cases true t m m' k k' f g = ap suc (f refl)
blank_more_cases false true m m' k k' f g = ap (λ n. suc (suc n)) (g refl refl)
blank_more_cases false false m m' k k' f g = refl

single_none : (t : Bool) (a : ℕ) → (a == 10) ≡ t → len_through_empty true (drop (cond {A = ℕ} t 1 0) (a ∷ [])) ≡ None
single_none true a e = refl
single_none false a e = ap (λ u. cond (nat_lt 0 (cond {A = ℕ} u 1 0)) (Some (cond {A = ℕ} u 1 0)) None) e

within_cases : (s t : Bool) (m k n : ℕ) → m ≤ n → k + 1 ≤ n → cond {A = ℕ} s (suc m) (cond t (suc (suc k)) 0) ≤ suc n
within_cases true t m k n f g = omega arith
within_cases false true m k n f g = omega arith
within_cases false false m k n f g = omega arith

pub blank_kept : (xs ys : List ℕ) (n : ℕ) → len_through_empty true (drop (blank_len xs) xs) ≡ Some n → blank_len (xs ++ ys) ≡ blank_len xs
blank_kept [] ys n h = absurd (cc)
blank_kept (a ∷ []) ys n h = absurd (let none : len_through_empty true (drop (cond {A = ℕ} (a == 10) 1 0) (a ∷ [])) ≡ None = single_none (a == 10) a refl in cc)
blank_kept (a ∷ b ∷ xs) ys n h =
    let s : Bool = a == 10 in
    let t : Bool = (a == 13) && (b == 10) in
    let at : Bool → Bool → Option ℕ = λ u v. len_through_empty true (drop (cond {A = ℕ} u (suc (blank_len (b ∷ xs))) (cond v (suc (suc (blank_len xs))) 0)) (a ∷ b ∷ xs)) in
    blank_more_cases s t (blank_len (b ∷ xs)) (blank_len (b ∷ (xs ++ ys))) (blank_len xs) (blank_len (xs ++ ys))
    (λ e. blank_kept (b ∷ xs) ys n (ap (λ u. at u t) (sym e) ∙ h))
    (λ e d. blank_kept xs ys n (ap (λ v. at false v) (sym d) ∙ ap (λ u. at u t) (sym e) ∙ h))

one_within : (t : Bool) → cond {A = ℕ} t 1 0 ≤ 1
one_within true = omega arith
one_within false = omega arith

pub blank_within : (xs : List ℕ) → blank_len xs ≤ length xs
blank_within [] = omega arith
blank_within (a ∷ []) = one_within (a == 10)
blank_within (a ∷ b ∷ xs) = within_cases (a == 10) ((a == 13) && (b == 10)) (blank_len (b ∷ xs)) (blank_len xs) (suc (length xs)) (let b_in = blank_within (b ∷ xs) in omega arith) (let in_xs = blank_within xs in omega arith)

head_found : (xs ys : List ℕ) (n : ℕ) (o : Option ℕ) → len_through_empty true (drop (blank_len xs) xs) ≡ o → option_map (λ k. blank_len xs + k) o ≡ Some n → head_len (xs ++ ys) ≡ Some n
head_found xs ys n None e h = absurd (cc)
head_found xs ys n (Some k) e h =
    ap (λ b. option_map (λ k. b + k) (len_through_empty true (drop b (xs ++ ys)))) (blank_kept xs ys k e)
    ∙ ap (λ l. option_map (λ k. blank_len xs + k) (len_through_empty true l)) (drop-append-le (blank_len xs) xs ys (blank_within xs))
    ∙ ap (option_map (λ k. blank_len xs + k)) (search_more true (drop (blank_len xs) xs) ys k e)
    ∙ h

-- the end of a head that was found stays where it is, whatever bytes follow
pub head_more : (xs ys : List ℕ) (n : ℕ) → head_len xs ≡ Some n → head_len (xs ++ ys) ≡ Some n
head_more xs ys n h = head_found xs ys n (len_through_empty true (drop (blank_len xs) xs)) refl h
