-- Lists that get one element more each.
-- For the contracts of `deal` and `take_row`.
use Rattle.std.proofs.Common.{◌≡◌, ℕ, zero, suc, ◌+◌, ◌<◌, ◌≤◌, List, [], ◌∷◌, ◌++◌, length, get_or, set, slice_get, Some, All, sym, refl, ap, ◌∙◌, subst, arith, length-append, append_assoc}
use Rattle.std.specs.Prelude.{Vec, replicate}
use Rattle.std.proofs.lemmas.List.Elements.{All-head, All-tail}
use Rattle.lane_queue.specs.Grid.{dealt, ends_of, AreLong}

module _ {X : Type 0} where
  pub dealt_none : (columns : List (List X)) → dealt columns [] ≡ columns
  dealt_none [] = refl
  dealt_none (c ∷ cs) = refl

  -- the next element is dealt
  pub dealt_more : (columns : List (List X)) (done : List X) (x : X) (c : List X) → slice_get (dealt columns done) (length done) ≡ Some c
      → set (dealt columns done) (length done) (c ++ x ∷ []) ≡ dealt columns (done ++ x ∷ [])
  dealt_more [] done x c at = refl
  dealt_more (d ∷ columns) [] x c at = let is : d ≡ c = cc in (λ i. (sym is i ++ x ∷ []) ∷ sym (dealt_none columns) i)
  dealt_more (d ∷ columns) (y ∷ done) x c at = ap (λ l. (d ++ y ∷ []) ∷ l) (dealt_more columns done x c at)

  -- the last element of the next column is taken
  pub dealt_less : (columns : List (List X)) (row : List X) (x : X) (c : List X) → slice_get columns (length row) ≡ Some (c ++ x ∷ [])
      → dealt (set columns (length row) c) (row ++ x ∷ []) ≡ dealt columns row
  dealt_less [] row x c at = refl
  dealt_less (d ∷ columns) [] x c at = let is : d ≡ c ++ x ∷ [] = cc in (λ i. sym is i ∷ dealt_none columns i)
  dealt_less (d ∷ columns) (y ∷ row) x c at = ap (λ l. (d ++ y ∷ []) ∷ l) (dealt_less columns row x c at)

  -- behind the row the columns are as before
  pub get_behind : (columns : List (List X)) (row : List X) (place : ℕ) → length row ≤ place → slice_get (dealt columns row) place ≡ slice_get columns place
  get_behind [] row place behind = refl
  get_behind (c ∷ columns) [] place behind = refl
  get_behind (c ∷ columns) (y ∷ row) zero behind = absurd (omega arith)
  get_behind (c ∷ columns) (y ∷ row) (suc place) behind = get_behind columns row place (omega arith)

  long_get : (columns : List (List X)) (place : ℕ) (c : List X) → AreLong columns → slice_get columns place ≡ Some c → 0 < length c
  long_get [] place c long at = absurd (cc)
  long_get (d ∷ columns) zero c long at = (let is : d ≡ c = cc in subst (λ (l : List X). 0 < length l) is (All-head (λ (l : List X). 0 < length l) d columns long))
  long_get (d ∷ columns) (suc place) c long at = long_get columns place c (All-tail (λ (l : List X). 0 < length l) d columns long) at

  pub long_at : (columns olds : List (List X)) (row : List X) (place : ℕ) (c : List X) → dealt columns row ≡ olds → length row ≡ place → AreLong olds → slice_get columns place ≡ Some c → 0 < length c
  long_at columns olds row place c is same long at =
      long_get olds place c long (ap (λ l. slice_get l place) (sym is) ∙ get_behind columns row place (omega arith) ∙ at)

  pub dealt_length : (columns : List (List X)) (row : List X) → length (dealt columns row) ≡ length columns
  dealt_length [] row = refl
  dealt_length (c ∷ columns) [] = refl
  dealt_length (c ∷ columns) (x ∷ row) = ap suc (dealt_length columns row)

module _ {X : Type 0} where
  pub get_at : (xs : List X) (place : ℕ) (x : X) → x ≡ get_or xs place x → place < length xs → slice_get xs place ≡ Some x
  get_at [] place x is within = absurd (omega arith)
  get_at (y ∷ xs) zero x is within = ap Some (sym is)
  get_at (y ∷ xs) (suc place) x is within = get_at xs place x is (omega arith)

  pub replicate_more : (n : ℕ) (x : X) → replicate n x ++ x ∷ [] ≡ replicate (suc n) x
  replicate_more zero x = refl
  replicate_more (suc n) x = ap (λ l. x ∷ l) (replicate_more n x)

module _ {X Z : Type 0} where
  pub ends_set : (lists : List (Vec X Z)) (place : ℕ) (v : Vec X Z) → ends_of (set lists place v) ≡ set (ends_of lists) place v.items
  ends_set [] place v = refl
  ends_set (x ∷ lists) zero v = refl
  ends_set (x ∷ lists) (suc place) v = ap (λ l. x.items ∷ l) (ends_set lists place v)

  pub ends_get : (lists : List (Vec X Z)) (place : ℕ) (v : Vec X Z) → slice_get lists place ≡ Some v → slice_get (ends_of lists) place ≡ Some v.items
  ends_get [] place v at = absurd (cc)
  ends_get (x ∷ lists) zero v at = (let is : x ≡ v = cc in ap (λ (w : Vec X Z). Some w.items) is)
  ends_get (x ∷ lists) (suc place) v at = ends_get lists place v at
