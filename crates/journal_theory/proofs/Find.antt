-- The first that passes, and fronts of lists.
-- For the contracts of `decides_standing`, `due_by_first_root`, `found_as_held`, `keeps_standing` and others.
use Rattle.std.proofs.Common.{◌≡◌, ℕ, zero, suc, Bool, true, false, cond, ◌||◌, List, [], ◌∷◌, ◌++◌, take, find, slice_get, Some, None, option_to_list, refl, ap}
use Rattle.std.specs.List.{list_any}
use Rattle.journal_theory.proofs.ListFacts.{Each}

pub record Found {X : Type 0} (q : X → Bool) (x : X) (xs : List X) : Type 0 where
  pub front : List X
  pub back : List X
  pub is : xs ≡ front ++ x ∷ back
  pub passes : q x ≡ true
  pub before : Each (λ y. q y ≡ false) front

pub found : {X : Type 0} (q : X → Bool) (xs : List X) (x : X) → find q xs ≡ Some x → Found q x xs
found q [] x e = absurd (cc e)
found {X} q (y ∷ ys) x e = go (q y) refl e (found q ys x)
  where
    go : (b : Bool) → q y ≡ b → cond b (Some y) (find q ys) ≡ Some x → (find q ys ≡ Some x → Found q x ys) → Found q x (y ∷ ys)
    go true p h f = let k : y ≡ x = cc h in record { front = []; back = ys; is = ap (λ (z : X). z ∷ ys) k; passes = rw (← k) p; before = tt }
    go false p h f = let k = f h in record { front = y ∷ k.front; back = k.back; is = cc (k.is); passes = k.passes; before = (p, k.before) }

pub not_found : {X : Type 0} (q : X → Bool) (xs : List X) → find q xs ≡ None → Each (λ y. q y ≡ false) xs
not_found q [] e = tt
not_found q (y ∷ ys) e = go (q y) refl e (not_found q ys)
  where
    go : (b : Bool) → q y ≡ b → cond b (Some y) (find q ys) ≡ None → (find q ys ≡ None → Each (λ y. q y ≡ false) ys) → Each (λ y. q y ≡ false) (y ∷ ys)
    go true p h f = absurd (cc h)
    go false p h f = (p, f h)

pub find_past : {X : Type 0} (q : X → Bool) (xs ys : List X) → Each (λ y. q y ≡ false) xs → find q (xs ++ ys) ≡ find q ys
find_past q [] ys h = refl
find_past q (x ∷ xs) ys h = rw (h.0) (find_past q xs ys h.1)

pub find_none : {X : Type 0} (q : X → Bool) (xs : List X) → Each (λ y. q y ≡ false) xs → find q xs ≡ None
find_none q [] h = refl
find_none q (x ∷ xs) h = rw (h.0) (find_none q xs h.1)

pub find_front : {X : Type 0} (q : X → Bool) (xs ys : List X) (x : X) → find q xs ≡ Some x → find q (xs ++ ys) ≡ Some x
find_front q [] ys x e = absurd (cc e)
find_front {X} q (y ∷ xs) ys x e = go (q y) e (find_front q xs ys x)
  where
    go : (b : Bool) → cond b (Some y) (find q xs) ≡ Some x → (find q xs ≡ Some x → find q (xs ++ ys) ≡ Some x) → cond b (Some y) (find q (xs ++ ys)) ≡ Some x
    go true h f = h
    go false h f = f h

pub any_none : {X : Type 0} (q : X → Bool) (xs : List X) → Each (λ y. q y ≡ false) xs → list_any q xs ≡ false
any_none q [] h = refl
any_none q (x ∷ xs) h = rw (h.0) (any_none q xs h.1)

pub any_split : {X : Type 0} (q : X → Bool) (front back : List X) (x : X) → q x ≡ true → list_any q (front ++ x ∷ back) ≡ true
any_split q [] back x h = rw h refl
any_split q (y ∷ front) back x h = go (q y) (any_split q front back x h)
  where
    go : (b : Bool) → list_any q (front ++ x ∷ back) ≡ true → (b || list_any q (front ++ x ∷ back)) ≡ true
    go true k = refl
    go false k = k

pub take_next : {X : Type 0} (m : ℕ) (xs : List X) → take (suc m) xs ≡ take m xs ++ option_to_list (slice_get xs m)
take_next zero [] = refl
take_next zero (x ∷ xs) = refl
take_next (suc m) [] = refl
take_next {X} (suc m) (x ∷ xs) = ap (λ (z : List X). x ∷ z) (take_next m xs)
