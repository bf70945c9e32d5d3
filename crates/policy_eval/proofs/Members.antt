-- The members of a comma-separated list.
-- For the clause of `has_member`.
use Rattle.std.proofs.Common.{◌≡◌, suc, not, ◌<◌, ◌≤◌, ◌+◌, [], ◌∷◌, true, false, length, take, drop, ℕ, List, Option, Some, None, Bool, cond, refl, ap, sym, ◌∙◌, arith}
use Rattle.std.specs.Prelude.{position, nat_lt, ◌==◌, ◌||◌}
use Rattle.std.specs.List.{list_any, position_or_len}
use borrow.Author.Tests.{ltb-true, ltb-false, lt-ltb, le-ltb}
use Rattle.std.specs.Option.{option_map}
use Rattle.policy_eval.specs.TraceState.{split_commas, put_first, trimmed, is_member, has_member}

lt_suc_by : (u : Bool) (m l : ℕ) → nat_lt m l ≡ u → nat_lt (suc m) (suc l) ≡ u
lt_suc_by true m l e = let lt : m < l = ltb-true m l e in lt-ltb (suc m) (suc l) (omega arith)
lt_suc_by false m l e = let le : l ≤ m = ltb-false m l e in le-ltb (suc m) (suc l) (omega arith)

map_cond : (t : Bool) (m : ℕ) → cond t (Some (suc m)) None ≡ option_map suc (cond t (Some m) None)
map_cond true m = refl
map_cond false m = refl

place_cons : (t : Bool) (m l : ℕ) → cond (nat_lt (cond {A = ℕ} (not t) (suc m) 0) (suc l)) (Some (cond {A = ℕ} (not t) (suc m) 0)) None ≡ cond t (Some 0) (option_map suc (cond (nat_lt m l) (Some m) None))
place_cons true m l = ap (λ u. cond u (Some 0) None) (lt-ltb 0 (suc l) (omega arith))
place_cons false m l = ap (λ u. cond u (Some (suc m)) None) (lt_suc_by (nat_lt m l) m l refl) ∙ map_cond (nat_lt m l) m

-- the first place, by recursion
pub position_cons : (p : ℕ → Bool) (x : ℕ) (xs : List ℕ) → position p (x ∷ xs) ≡ cond (p x) (Some 0) (option_map suc (position p xs))
position_cons p x xs =
    let one : 1 + position_or_len p xs ≡ suc (position_or_len p xs) = omega arith in
    ap (λ (k : ℕ). cond (nat_lt (cond {A = ℕ} (not (p x)) k 0) (suc (length xs))) (Some (cond {A = ℕ} (not (p x)) k 0)) None) one ∙ place_cons (p x) (position_or_len p xs) (length xs)

abbrev is_comma : ℕ → Bool
is_comma b = b == 44

map_some : (n : ℕ) (o : Option ℕ) → option_map suc o ≡ Some n → (k : ℕ) × (o ≡ Some k) × (n ≡ suc k)
map_some n None e = absurd (cc)
map_some n (Some k) e = (k, refl, cc)

map_none : (o : Option ℕ) → option_map suc o ≡ None → o ≡ None
map_none None e = refl
map_none (Some k) e = absurd (cc)

split_by : (t : Bool) (b : ℕ) (bytes : List ℕ) (at : ℕ) → (b == 44) ≡ t → cond t (Some 0) (option_map suc (position is_comma bytes)) ≡ Some at
    → ((k : ℕ) → position is_comma bytes ≡ Some k → split_commas bytes ≡ take k bytes ∷ split_commas (drop (k + 1) bytes)) → split_commas (b ∷ bytes) ≡ take at (b ∷ bytes) ∷ split_commas (drop (at + 1) (b ∷ bytes))
split_by true b bytes at e d ih =
    let zero_is : 0 ≡ at = cc in
    ap (λ t. cond t ([] ∷ split_commas bytes) (put_first b (split_commas bytes))) e ∙ ap (λ n. take n (b ∷ bytes) ∷ split_commas (drop (n + 1) (b ∷ bytes))) zero_is
split_by false b bytes at e d ih =
    let found = map_some at (position is_comma bytes) d in
    let k = found.0 in
    let step : suc (k + 1) ≡ suc k + 1 = omega arith in
    ap (λ t. cond t ([] ∷ split_commas bytes) (put_first b (split_commas bytes))) e ∙ ap (put_first b) (ih k found.1)
    ∙ ap (λ n. (b ∷ take k bytes) ∷ split_commas (drop n (b ∷ bytes))) step ∙ ap (λ n. take n (b ∷ bytes) ∷ split_commas (drop (n + 1) (b ∷ bytes))) (sym found.2)

-- the first word ends at the first comma
pub split_some : (xs : List ℕ) (at : ℕ) → position is_comma xs ≡ Some at → split_commas xs ≡ take at xs ∷ split_commas (drop (at + 1) xs)
split_some [] at e = absurd (cc)
split_some (b ∷ bytes) at e = split_by (b == 44) b bytes at refl (sym (position_cons is_comma b bytes) ∙ e) (λ k d. split_some bytes k d)

none_by : (t : Bool) (b : ℕ) (bytes : List ℕ) → (b == 44) ≡ t → cond t (Some 0) (option_map suc (position is_comma bytes)) ≡ None → (position is_comma bytes ≡ None → split_commas bytes ≡ bytes ∷ []) → split_commas (b ∷ bytes) ≡ (b ∷ bytes) ∷ []
none_by true b bytes e d ih = absurd (cc)
none_by false b bytes e d ih = ap (λ t. cond t ([] ∷ split_commas bytes) (put_first b (split_commas bytes))) e ∙ ap (put_first b) (ih (map_none (position is_comma bytes) d))

-- without a comma there is one word
pub split_none : (xs : List ℕ) → position is_comma xs ≡ None → split_commas xs ≡ xs ∷ []
split_none [] e = refl
split_none (b ∷ bytes) e = none_by (b == 44) b bytes refl (sym (position_cons is_comma b bytes) ∙ e) (λ d. split_none bytes d)

or_false : (s : Bool) → (s || false) ≡ s
or_false true = refl
or_false false = refl

-- the first member, and those behind its comma
pub member_more : (key : List ℕ) (values : List (List ℕ)) (xs : List ℕ) (at : ℕ) → position is_comma xs ≡ Some at
    → has_member key values xs ≡ (is_member key values (trimmed (take at xs)) || has_member key values (drop (at + 1) xs))
member_more key values xs at e = ap (λ ms. list_any (λ m. is_member key values (trimmed m)) ms) (split_some xs at e)

-- the last member
pub member_last : (key : List ℕ) (values : List (List ℕ)) (xs : List ℕ) → position is_comma xs ≡ None → has_member key values xs ≡ is_member key values (trimmed xs)
member_last key values xs e = ap (λ ms. list_any (λ m. is_member key values (trimmed m)) ms) (split_none xs e) ∙ or_false (is_member key values (trimmed xs))
