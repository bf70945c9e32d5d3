-- Lists whose members are all so, or all different.
-- For the contracts of `decides_standing` and `keeps_standing`.
use Rattle.std.proofs.Common.{◌≡◌, ℕ, suc, ◌+◌, Bool, true, false, ◌&&◌, ◌||◌, cond, List, [], ◌∷◌, ◌++◌, reverse, length, drop, Option, Some, None, refl, ap, subst, arith, append-nil}
use Rattle.journal_theory.proofs.ListFacts.{Each, Pairs as Apart}
use Rattle.std.specs.List.{list_any, filter, find}
use Rattle.std.specs.Option.{option_or}
use Rattle.std.proofs.lemmas.List.{reverse-append}
use Rattle.std.proofs.lemmas.List.Elements.{filter-append}

pub or-true : (b : Bool) → (b || true) ≡ true
or-true true = refl
or-true false = refl

pub one-add : (n : ℕ) → 1 + n ≡ suc n
one-add n = omega arith

module _ {X : Type 0} where
  pub Each-append : (P : X → Type 0) (xs ys : List X) → Each P xs → Each P ys → Each P (xs ++ ys)
  Each-append P [] ys a b = b
  Each-append P (x ∷ xs) ys a b = (a.0, Each-append P xs ys a.1 b)

  pub Each-weaken : (P Q : X → Type 0) → ((x : X) → P x → Q x) → (xs : List X) → Each P xs → Each Q xs
  Each-weaken P Q f [] a = tt
  Each-weaken P Q f (x ∷ xs) a = (f x a.0, Each-weaken P Q f xs a.1)

  pub Each-both : (P Q : X → Type 0) (xs : List X) → Each P xs → Each Q xs → Each (λ x. P x × Q x) xs
  Each-both P Q [] a b = tt
  Each-both P Q (x ∷ xs) a b = ((a.0, b.0), Each-both P Q xs a.1 b.1)

  pub Each-all : (P : X → Type 0) → ((x : X) → P x) → (xs : List X) → Each P xs
  Each-all P f [] = tt
  Each-all P f (x ∷ xs) = (f x, Each-all P f xs)

  pub reverse-cons : (x : X) (xs : List X) → reverse (x ∷ xs) ≡ reverse xs ++ x ∷ []
  reverse-cons x xs = reverse-append (x ∷ []) xs

  filter-one : (p : X → Bool) (x : X) (xs : List X) (b : Bool) → p x ≡ b → filter p (reverse xs) ≡ reverse (filter p xs) → filter p (reverse (x ∷ xs)) ≡ reverse (filter p (x ∷ xs))
  filter-one p x xs true h ih = rw (reverse-cons x xs, filter-append p (reverse xs) (x ∷ []), h, ih, reverse-cons x (filter p xs))
  filter-one p x xs false h ih = rw (reverse-cons x xs, filter-append p (reverse xs) (x ∷ []), h, ih) (append-nil (reverse (filter p xs)))

  pub filter-reverse : (p : X → Bool) (xs : List X) → filter p (reverse xs) ≡ reverse (filter p xs)
  filter-reverse p [] = refl
  filter-reverse p (x ∷ xs) = filter-one p x xs (p x) refl (filter-reverse p xs)

  -- filters that agree on each member
  pub filter-same : (p q : X → Bool) (xs : List X) → Each (λ x. p x ≡ q x) xs → filter p xs ≡ filter q xs
  filter-same p q [] a = refl
  filter-same p q (x ∷ xs) a = rw (a.0, filter-same p q xs a.1)

  pub filter-none : (p : X → Bool) (xs : List X) → Each (λ x. p x ≡ false) xs → filter p xs ≡ []
  filter-none p [] a = refl
  filter-none p (x ∷ xs) a = rw a.0 (filter-none p xs a.1)

  none-step : (p : X → Bool) (x : X) (xs : List X) (b : Bool) → p x ≡ b → filter p (x ∷ xs) ≡ [] → (p x ≡ false) × (filter p xs ≡ [])
  none-step p x xs true h e = let e' = rw h at e in cc
  none-step p x xs false h e = (h, rw h at e)

  pub Each-from_none : (p : X → Bool) (xs : List X) → filter p xs ≡ [] → Each (λ x. p x ≡ false) xs
  Each-from_none p [] e = tt
  Each-from_none p (x ∷ xs) e = let w = none-step p x xs (p x) refl e in (w.0, Each-from_none p xs w.1)

  filter-two : (p q : X → Bool) (x : X) (xs : List X) (b : Bool) → q x ≡ b → filter p (filter q xs) ≡ filter (λ x. q x && p x) xs → filter p (filter q (x ∷ xs)) ≡ filter (λ x. q x && p x) (x ∷ xs)
  filter-two p q x xs true h ih = rw (h, ih)
  filter-two p q x xs false h ih = rw h ih

  pub filter-filter : (p q : X → Bool) (xs : List X) → filter p (filter q xs) ≡ filter (λ x. q x && p x) xs
  filter-filter p q [] = refl
  filter-filter p q (x ∷ xs) = filter-two p q x xs (q x) refl (filter-filter p q xs)

  pub Each-filter : (P : X → Type 0) (p : X → Bool) (xs : List X) → Each P xs → Each (λ x. P x × (p x ≡ true)) (filter p xs)
  Each-filter P p [] a = tt
  Each-filter P p (x ∷ xs) a = (elim (p x) as (λ b. p x ≡ b → Each (λ x. P x × (p x ≡ true)) (cond b (x ∷ filter p xs) (filter p xs))) [
    | true ↦ λ h. ((a.0, h), Each-filter P p xs a.1)
    | false ↦ λ h. Each-filter P p xs a.1
  ]) refl

  -- ---- at most one member passes

  abbrev pub Single : (X → Bool) → List X → Type 0
  Single p xs = Apart (λ x y. p x ≡ true → p y ≡ true → ⊥) xs

  pub Each-from_find : (p : X → Bool) (xs : List X) → find p xs ≡ None → Each (λ x. p x ≡ false) xs
  Each-from_find p [] e = tt
  Each-from_find p (x ∷ xs) e = (elim (p x) as (λ b. p x ≡ b → cond b (Some x) (find p xs) ≡ None → (p x ≡ false) × Each (λ x. p x ≡ false) xs) [
    | true ↦ λ h e. cc
    | false ↦ λ h e. (h, Each-from_find p xs e)
  ]) refl e

  option_or-none : (o : Option X) → option_or o None ≡ o
  option_or-none None = refl
  option_or-none (Some x) = refl

  -- what is found passes
  pub find-passes : (p : X → Bool) (xs : List X) (y : X) → find p xs ≡ Some y → p y ≡ true
  find-passes p [] y e = cc
  find-passes p (x ∷ xs) y e = (elim (p x) as (λ b. p x ≡ b → cond b (Some x) (find p xs) ≡ Some y → p y ≡ true) [
    | true ↦ λ h e. let same : x ≡ y = cc in subst (λ z. p z ≡ true) same h
    | false ↦ λ h e. find-passes p xs y e
  ]) refl e

  -- what holds of each holds of what is found
  pub find-each : (P : X → Type 0) (p : X → Bool) (xs : List X) (y : X) → Each P xs → find p xs ≡ Some y → P y
  find-each P p [] y a e = cc
  find-each P p (x ∷ xs) y a e = (elim (p x) as (λ b. cond b (Some x) (find p xs) ≡ Some y → P y) [
    | true ↦ λ e. let same : x ≡ y = cc in subst P same a.0
    | false ↦ λ e. find-each P p xs y a.1 e
  ]) e

  pub Each-reverse : (P : X → Type 0) (xs : List X) → Each P xs → Each P (reverse xs)
  Each-reverse P [] a = tt
  Each-reverse P (x ∷ xs) a = rw (reverse-cons x xs) (Each-append P (reverse xs) (x ∷ []) (Each-reverse P xs a.1) (a.0, tt))

  pub drop-length : (xs : List X) → drop (length xs) xs ≡ []
  drop-length [] = refl
  drop-length (x ∷ xs) = drop-length xs

  pub filter-from_find : (p : X → Bool) (xs : List X) (y : X) → find p xs ≡ Some y → (ys : List X) × (filter p xs ≡ y ∷ ys)
  filter-from_find p [] y e = cc
  filter-from_find p (x ∷ xs) y e = (elim (p x) as (λ b. cond b (Some x) (find p xs) ≡ Some y → (ys : List X) × (cond b (x ∷ filter p xs) (filter p xs) ≡ y ∷ ys)) [
    | true ↦ λ e. let same : x ≡ y = cc in (filter p xs, ap (λ z. z ∷ filter p xs) same)
    | false ↦ λ e. filter-from_find p xs y e
  ]) e

  pub none-from_find : (p : X → Bool) (xs : List X) → find p xs ≡ None → filter p xs ≡ []
  none-from_find p xs e = filter-none p xs (Each-from_find p xs e)

  -- ---- the first that passes

  abbrev pub set_first : (X → Bool) → (X → X) → List X → List X
  set_first p f [] = []
  set_first p f (x ∷ xs) = cond (p x) (f x ∷ xs) (x ∷ set_first p f xs)

  pub find-from_any : (p : X → Bool) (xs : List X) → list_any p xs ≡ false → find p xs ≡ None
  find-from_any p [] e = refl
  find-from_any p (x ∷ xs) e = (elim (p x) as (λ b. (b || list_any p xs) ≡ false → cond b (Some x) (find p xs) ≡ None) [
    | true ↦ λ e. cc
    | false ↦ λ e. find-from_any p xs e
  ]) e
