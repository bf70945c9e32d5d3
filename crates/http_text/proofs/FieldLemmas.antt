-- What stands before the first place at which a test passes.
-- They serve the clauses of `media_type`, `has_word` and `has_foreign_field`, and `value` of `blank_len`.
use Rattle.std.proofs.Common.{◌≡◌, suc, ◌<◌, ◌≤◌, ◌+◌, [], ◌∷◌, ◌++◌, get_or, ◌&&◌, true, false, length, take, ℕ, List, Option, Some, None, Bool, cond, refl, ap, sym, ◌∙◌, arith}
use Rattle.std.specs.Prelude.{nat_lt, position, map, ◌||◌}
use Rattle.std.specs.List.{before_first, position_or_len, position_from, list_all, list_any}
use Rattle.std.proofs.lemmas.List.{take_all, take_more}
use Rattle.std.proofs.lemmas.Iterator.Adapters.{position_from-zero}
use borrow.Author.Tests.{ltb-true, ltb-false}
use Rattle.std.specs.Option.{option_map}
use Rattle.std.proofs.lemmas.List.{map-append}
use Rattle.std.proofs.lemmas.List.Folds.{list_any-append}
use Rattle.httparse.specs.declared.spans.HeaderSpan.{HeaderSpan}
use Rattle.httparse.specs.Spans.{header_bytes, span_bytes}
use Rattle.http_text.specs.Fields.{Header}

place_some : (t : Bool) (n at : ℕ) → cond t (Some n) None ≡ Some at → n ≡ at
place_some true n at e = cc
place_some false n at e = absurd (cc)

place_none : (t : Bool) (n : ℕ) → cond t (Some n) None ≡ None → t ≡ false
place_none true n e = absurd (cc)
place_none false n e = refl

pub before_some : (p : ℕ → Bool) (xs : List ℕ) (at : ℕ) → position p xs ≡ Some at → before_first p xs ≡ take at xs
before_some p xs at e = ap (λ n. take n xs) (place_some (nat_lt (position_or_len p xs) (length xs)) (position_or_len p xs) at e)

pub before_none : (p : ℕ → Bool) (xs : List ℕ) → position p xs ≡ None → before_first p xs ≡ xs
before_none p xs e =
    let le : length xs ≤ position_or_len p xs = ltb-false _ _ (place_none (nat_lt (position_or_len p xs) (length xs)) (position_or_len p xs) e) in
    take_all (position_or_len p xs) xs le

-- each element passes, and so does one more
and_assoc : (a b c : Bool) → ((a && b) && c) ≡ (a && (b && c))
and_assoc true b c = refl
and_assoc false b c = refl

list_all-append : {X : Type 0} (p : X → Bool) (xs ys : List X) → list_all p (xs ++ ys) ≡ (list_all p xs && list_all p ys)
list_all-append p [] ys = refl
list_all-append p (x ∷ xs) ys = ap (λ t. p x && t) (list_all-append p xs ys) ∙ sym (and_assoc (p x) _ _)

pub list_all_more : {X : Type 0} (p : X → Bool) (xs : List X) (i : ℕ) (d : X) → i < length xs → list_all p (take i xs) ≡ true → p (get_or xs i d) ≡ true → list_all p (take (i + 1) xs) ≡ true
list_all_more p xs i d inside before here =
    ap (list_all p) (take_more xs i d inside) ∙ list_all-append p (take i xs) _ ∙ (λ k. before k && (here k && true))

-- the first place from a place on, and from the next
shifted : (t : Bool) (i : ℕ) (o : Option ℕ)
    → cond t (Some (i + 1)) (option_map suc o) ≡ option_map suc (cond t (Some i) o)
shifted true i o = let next : i + 1 ≡ suc i = omega arith in ap Some next
shifted false i o = refl

from_next : (p : ℕ → Bool) (i : ℕ) (xs : List ℕ) → position_from p (i + 1) xs ≡ option_map suc (position_from p i xs)
from_next p i [] = refl
from_next p i (x ∷ xs) =
    ap (cond (p x) (Some (i + 1))) (from_next p (i + 1) xs) ∙ shifted (p x) i (position_from p (i + 1) xs)

-- the first place, by recursion
pub position_cons : (p : ℕ → Bool) (x : ℕ) (xs : List ℕ) → position p (x ∷ xs) ≡ cond (p x) (Some 0) (option_map suc (position p xs))
position_cons p x xs =
    position_from-zero p (x ∷ xs)
    ∙ ap (cond (p x) (Some 0)) (from_next p 0 xs ∙ ap (option_map suc) (sym (position_from-zero p xs)))

more_by : (t : Bool) (o o' : Option ℕ) (n : ℕ) → ((k : ℕ) → o ≡ Some k → o' ≡ Some k) → cond t (Some 0) (option_map suc o) ≡ Some n → cond t (Some 0) (option_map suc o') ≡ Some n
more_by true o o' n ih e = e
more_by false None o' n ih e = absurd (cc)
more_by false (Some k) o' n ih e = ap (option_map suc) (ih k refl) ∙ e

within_by : (t : Bool) (m l n : ℕ) → nat_lt m l ≡ t → cond t (Some m) None ≡ Some n → n < l
within_by true m l n d e = let lt : m < l = ltb-true m l d in let same : m ≡ n = cc in omega arith
within_by false m l n d e = absurd (cc)

-- a place that was found stays the first
pub position_more : (p : ℕ → Bool) (xs ys : List ℕ) (n : ℕ) → position p xs ≡ Some n → position p (xs ++ ys) ≡ Some n
position_more p [] ys n e = absurd (cc)
position_more p (x ∷ xs) ys n e =
    position_cons p x (xs ++ ys) ∙ more_by (p x) (position p xs) (position p (xs ++ ys)) n (λ k d. position_more p xs ys k d) (sym (position_cons p x xs) ∙ e)

pub position_within : (p : ℕ → Bool) (xs : List ℕ) (n : ℕ) → position p xs ≡ Some n → n < length xs
position_within p xs n e = within_by (nat_lt (position_or_len p xs) (length xs)) (position_or_len p xs) (length xs) n refl e

-- one header more
pub any_more : (p : Header → Bool) (text : List ℕ) (spans : List HeaderSpan) (i : ℕ) (d : HeaderSpan) (before here : Bool) (name value : List ℕ) → i < length spans
    → list_any p (map (header_bytes text) (take i spans)) ≡ before → here ≡ p (name, value) → name ≡ span_bytes text (get_or spans i d).name → value ≡ span_bytes text (get_or spans i d).value
    → list_any p (map (header_bytes text) (take (i + 1) spans)) ≡ (before || here)
any_more p text spans i d before here name value inside e h n v =
    let header : Header = header_bytes text (get_or spans i d) in
    let same : here ≡ p header = h ∙ ap (λ k. p (k, value)) n ∙ ap (λ k. p (span_bytes text (get_or spans i d).name, k)) v in
    ap (λ s. list_any p (map (header_bytes text) s)) (take_more spans i d inside)
    ∙ ap (list_any p) (map-append (header_bytes text) (take i spans) (get_or spans i d ∷ []))
    ∙ list_any-append p (map (header_bytes text) (take i spans)) (header_bytes text (get_or spans i d) ∷ [])
    ∙ ap (λ b. b || (p (header_bytes text (get_or spans i d)) || false)) e
    ∙ ap (λ t. before || t) (or_false (p (header_bytes text (get_or spans i d))) ∙ sym same)
  where
    or_false : (s : Bool) → (s || false) ≡ s
    or_false true = refl
    or_false false = refl
