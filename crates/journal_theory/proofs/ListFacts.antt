-- Lists: what holds of each element and of each pair, how often an element occurs, and sums.
-- For the contracts of `decides_standing`, `due_by_first_root`, `found_as_held`, `keeps_standing` and others.
use Rattle.std.proofs.Common.{◌≡◌, ℕ, zero, suc, ◌+◌, ◌<◌, Bool, true, false, cond, not, ◌||◌, List, [], ◌∷◌, ◌++◌, length, map, filter, flat_map, reverse, slice_get, slice_set, Some, AllPairs, get_or, refl, ap, sym, ◌∙◌, arith, append_assoc}
use Rattle.std.specs.List.{list_any}
use Rattle.std.proofs.lemmas.List.{append-nil, reverse-append}

-- ---- each element

abbrev pub Each : {X : Type 0} → (X → Type 0) → List X → Type 0
Each P [] = Unit {0}
Each P (x ∷ xs) = P x × Each P xs

pub Each-append : {X : Type 0} (P : X → Type 0) (xs ys : List X) → Each P xs → Each P ys → Each P (xs ++ ys)
Each-append P [] ys h k = k
Each-append P (x ∷ xs) ys h k = (h.0, Each-append P xs ys h.1 k)

pub Each-left : {X : Type 0} (P : X → Type 0) (xs ys : List X) → Each P (xs ++ ys) → Each P xs
Each-left P [] ys h = tt
Each-left P (x ∷ xs) ys h = (h.0, Each-left P xs ys h.1)

pub Each-right : {X : Type 0} (P : X → Type 0) (xs ys : List X) → Each P (xs ++ ys) → Each P ys
Each-right P [] ys h = h
Each-right P (x ∷ xs) ys h = Each-right P xs ys h.1

pub Each-all : {X : Type 0} (P : X → Type 0) (xs : List X) → ((x : X) → P x) → Each P xs
Each-all P [] f = tt
Each-all P (x ∷ xs) f = (f x, Each-all P xs f)

pub Each-weaker : {X : Type 0} (P Q : X → Type 0) (xs : List X) → ((x : X) → P x → Q x) → Each P xs → Each Q xs
Each-weaker P Q [] f h = tt
Each-weaker P Q (x ∷ xs) f h = (f x h.0, Each-weaker P Q xs f h.1)

pub Each-both : {X : Type 0} (P Q R : X → Type 0) (xs : List X) → ((x : X) → P x → Q x → R x) → Each P xs → Each Q xs → Each R xs
Each-both P Q R [] f h k = tt
Each-both P Q R (x ∷ xs) f h k = (f x h.0 k.0, Each-both P Q R xs f h.1 k.1)

pub Each-reverse : {X : Type 0} (P : X → Type 0) (xs : List X) → Each P xs → Each P (reverse xs)
Each-reverse P [] h = tt
Each-reverse P (x ∷ xs) h = rw (reverse-append (x ∷ []) xs) (Each-append P (reverse xs) (x ∷ []) (Each-reverse P xs h.1) (h.0, tt))

pub Each-filter : {X : Type 0} (P : X → Type 0) (q : X → Bool) (xs : List X) → Each P xs → Each P (filter q xs)
Each-filter P q [] h = tt
Each-filter P q (x ∷ xs) h = go (q x) (Each-filter P q xs h.1)
  where
    go : (b : Bool) → Each P (filter q xs) → Each P (cond b (x ∷ filter q xs) (filter q xs))
    go true k = (h.0, k)
    go false k = k

pub Each-passes : {X : Type 0} (q : X → Bool) (xs : List X) → Each (λ x. q x ≡ true) (filter q xs)
Each-passes q [] = tt
Each-passes q (x ∷ xs) = go (q x) refl (Each-passes q xs)
  where
    go : (b : Bool) → q x ≡ b → Each (λ x. q x ≡ true) (filter q xs) → Each (λ x. q x ≡ true) (cond b (x ∷ filter q xs) (filter q xs))
    go true e k = (e, k)
    go false e k = k

pub Each-map : {X Y : Type 0} (P : Y → Type 0) (f : X → Y) (xs : List X) → Each (λ x. P (f x)) xs → Each P (map f xs)
Each-map P f [] h = tt
Each-map P f (x ∷ xs) h = (h.0, Each-map P f xs h.1)

-- ---- each pair, the earlier element first

abbrev pub Pairs : {X : Type 0} → (X → X → Type 0) → List X → Type 0
Pairs R [] = Unit {0}
Pairs R (x ∷ xs) = Each (R x) xs × Pairs R xs

-- each of the first list against each of the second
abbrev pub Across : {X : Type 0} → (X → X → Type 0) → List X → List X → Type 0
Across R xs ys = Each (λ x. Each (R x) ys) xs

pub Pairs-append : {X : Type 0} (R : X → X → Type 0) (xs ys : List X) → Pairs R xs → Pairs R ys → Across R xs ys → Pairs R (xs ++ ys)
Pairs-append R [] ys h k a = k
Pairs-append R (x ∷ xs) ys h k a = (Each-append (R x) xs ys h.0 a.0, Pairs-append R xs ys h.1 k a.1)

pub Pairs-left : {X : Type 0} (R : X → X → Type 0) (xs ys : List X) → Pairs R (xs ++ ys) → Pairs R xs
Pairs-left R [] ys h = tt
Pairs-left R (x ∷ xs) ys h = (Each-left (R x) xs ys h.0, Pairs-left R xs ys h.1)

pub Pairs-right : {X : Type 0} (R : X → X → Type 0) (xs ys : List X) → Pairs R (xs ++ ys) → Pairs R ys
Pairs-right R [] ys h = h
Pairs-right R (x ∷ xs) ys h = Pairs-right R xs ys h.1

pub Pairs-across : {X : Type 0} (R : X → X → Type 0) (xs ys : List X) → Pairs R (xs ++ ys) → Across R xs ys
Pairs-across R [] ys h = tt
Pairs-across R (x ∷ xs) ys h = (Each-right (R x) xs ys h.0, Pairs-across R xs ys h.1)

pub Pairs-weaker : {X : Type 0} (R S : X → X → Type 0) (xs : List X) → ((x y : X) → R x y → S x y) → Pairs R xs → Pairs S xs
Pairs-weaker R S [] f h = tt
Pairs-weaker R S (x ∷ xs) f h = (Each-weaker (R x) (S x) xs (f x) h.0, Pairs-weaker R S xs f h.1)

pub Pairs-filter : {X : Type 0} (R : X → X → Type 0) (q : X → Bool) (xs : List X) → Pairs R xs → Pairs R (filter q xs)
Pairs-filter R q [] h = tt
Pairs-filter R q (x ∷ xs) h = go (q x) (Pairs-filter R q xs h.1)
  where
    go : (b : Bool) → Pairs R (filter q xs) → Pairs R (cond b (x ∷ filter q xs) (filter q xs))
    go true k = (Each-filter (R x) q xs h.0, k)
    go false k = k

pub Pairs-reverse : {X : Type 0} (R : X → X → Type 0) (xs : List X) → Pairs R xs → Pairs (λ x y. R y x) (reverse xs)
Pairs-reverse R [] h = tt
Pairs-reverse R (x ∷ xs) h = rw (reverse-append (x ∷ []) xs) (Pairs-append (λ x y. R y x) (reverse xs) (x ∷ []) (Pairs-reverse R xs h.1) (tt, tt)
    (Each-reverse (λ y. R x y × Unit {0}) xs (Each-weaker (R x) (λ y. R x y × Unit {0}) xs (λ y r. (r, tt)) h.0)))

pub AllPairs-from : {X : Type 0} (R : X → X → Type 0) (xs : List X) → Pairs R xs → AllPairs R xs
AllPairs-from {X} R xs h = go xs h
  where
    at_each : (P : X → Type 0) (ys : List X) → Each P ys → (j : ℕ) (d : X) → j < length ys → P (get_or ys j d)
    at_each P [] h j d l = absurd (omega arith)
    at_each P (y ∷ ys) h zero d l = h.0
    at_each P (y ∷ ys) h (suc j) d l = at_each P ys h.1 j d (omega arith)

    go : (ys : List X) → Pairs R ys → (i j : ℕ) (d : X) → i < j → j < length ys → R (get_or ys i d) (get_or ys j d)
    go [] h i j d l m = absurd (omega arith)
    go (y ∷ ys) h i zero d l m = absurd (omega arith)
    go (y ∷ ys) h zero (suc j) d l m = at_each (R y) ys h.0 j d (omega arith)
    go (y ∷ ys) h (suc i) (suc j) d l m = go ys h.1 i j d (omega arith) (omega arith)

-- ---- an element and what stands before and after it

pub record Split {X : Type 0} (x : X) (xs : List X) : Type 0 where
  pub front : List X
  pub back : List X
  pub is : xs ≡ front ++ x ∷ back

pub Split-cons : {X : Type 0} (x y : X) (xs : List X) → Split x xs → Split x (y ∷ xs)
Split-cons x y xs h = record { front = y ∷ h.front; back = h.back; is = cc (h.is) }

pub Split-more : {X : Type 0} (x : X) (xs ys : List X) → Split x xs → Split x (xs ++ ys)
Split-more {X} x xs ys h = record { front = h.front; back = h.back ++ ys; is = ap (λ (z : List X). z ++ ys) h.is ∙ append_assoc h.front (x ∷ h.back) ys }

pub Split-behind : {X : Type 0} (x : X) (xs ys : List X) → Split x ys → Split x (xs ++ ys)
Split-behind {X} x xs ys h = record { front = xs ++ h.front; back = h.back; is = ap (λ (z : List X). xs ++ z) h.is ∙ sym (append_assoc xs h.front (x ∷ h.back)) }

pub Each-split : {X : Type 0} (P : X → Type 0) (x : X) (xs : List X) → Split x xs → Each P xs → P x
Each-split P x xs k h = (Each-right P k.front (x ∷ k.back) (rw (k.is) at h)).0

-- ---- how often

-- how many pass
abbrev pub tally : {X : Type 0} → (X → Bool) → List X → ℕ
tally p [] = 0
tally p (x ∷ xs) = cond (p x) 1 0 + tally p xs

pub tally-append : {X : Type 0} (p : X → Bool) (xs ys : List X) → tally p (xs ++ ys) ≡ tally p xs + tally p ys
tally-append p [] ys = omega arith
tally-append p (x ∷ xs) ys = omega (arith, tally-append p xs ys)

pub length_filter : {X : Type 0} (p : X → Bool) (xs : List X) → length (filter p xs) ≡ tally p xs
length_filter p [] = refl
length_filter p (x ∷ xs) = go (p x) (length_filter p xs)
  where
    go : (b : Bool) → length (filter p xs) ≡ tally p xs → length (cond b (x ∷ filter p xs) (filter p xs)) ≡ cond b 1 0 + tally p xs
    go true h = omega arith
    go false h = omega arith

pub tally-map : {X Y : Type 0} (p : Y → Bool) (f : X → Y) (xs : List X) → tally p (map f xs) ≡ tally (λ x. p (f x)) xs
tally-map p f [] = refl
tally-map p f (x ∷ xs) = omega (arith, tally-map p f xs)

pub tally-flat_map_map : {X Y : Type 0} (p : Y → Bool) (f : X → Y) (xs : List (List X)) → tally p (flat_map (map f) xs) ≡ tally (λ x. p (f x)) (flat_map (λ y. y) xs)
tally-flat_map_map p f [] = refl
tally-flat_map_map p f (x ∷ xs) = omega (arith, tally-append p (map f x) (flat_map (map f) xs), tally-append (λ x. p (f x)) x (flat_map (λ y. y) xs), tally-map p f x, tally-flat_map_map p f xs)

pub tally-halves : {X : Type 0} (p q : X → Bool) (xs : List X) → tally p (filter q xs) + tally p (filter (λ x. not (q x)) xs) ≡ tally p xs
tally-halves p q [] = refl
tally-halves p q (x ∷ xs) = go (q x) (tally-halves p q xs)
  where
    go : (b : Bool) → tally p (filter q xs) + tally p (filter (λ x. not (q x)) xs) ≡ tally p xs
        → tally p (cond b (x ∷ filter q xs) (filter q xs)) + tally p (cond (not b) (x ∷ filter (λ x. not (q x)) xs) (filter (λ x. not (q x)) xs)) ≡ cond (p x) 1 0 + tally p xs
    go true h = omega arith
    go false h = omega arith

pub tally-any : {X : Type 0} (p : X → Bool) (xs : List X) → list_any p xs ≡ false → tally p xs ≡ 0
tally-any p [] e = refl
tally-any p (x ∷ xs) e = go (p x) e (tally-any p xs)
  where
    go : (b : Bool) → (b || list_any p xs) ≡ false → (list_any p xs ≡ false → tally p xs ≡ 0) → cond b 1 0 + tally p xs ≡ 0
    go true h f = absurd (cc h)
    go false h f = omega (arith, f h)

pub tally-some : {X : Type 0} (p : X → Bool) (xs : List X) → list_any p xs ≡ true → 0 < tally p xs
tally-some p [] e = absurd (cc e)
tally-some p (x ∷ xs) e = go (p x) e (tally-some p xs)
  where
    go : (b : Bool) → (b || list_any p xs) ≡ true → (list_any p xs ≡ true → 0 < tally p xs) → 0 < cond b 1 0 + tally p xs
    go true h f = omega arith
    go false h f = omega (arith, f h)

-- ---- sums

abbrev pub total : {X : Type 0} → (X → ℕ) → List X → ℕ
total f [] = 0
total f (x ∷ xs) = f x + total f xs

pub total-set : {X : Type 0} (f : X → ℕ) (xs : List X) (i : ℕ) (x y : X) → slice_get xs i ≡ Some x → total f (slice_set xs i y) + f x ≡ total f xs + f y
total-set f [] i x y e = absurd (cc e)
total-set f (z ∷ xs) zero x y e = let k : f z ≡ f x = ap f (cc e) in omega arith
total-set f (z ∷ xs) (suc i) x y e = omega (arith, total-set f xs i x y e)

pub length-slice_set : {X : Type 0} (xs : List X) (i : ℕ) (y : X) → length (slice_set xs i y) ≡ length xs
length-slice_set [] i y = refl
length-slice_set (x ∷ xs) zero y = refl
length-slice_set (x ∷ xs) (suc i) y = ap suc (length-slice_set xs i y)

-- ---- what the passing ones hold, the last one's first

abbrev pub spill : {X Y : Type 0} → (X → List Y) → (X → Bool) → List X → List Y
spill f p [] = []
spill f p (x ∷ xs) = spill f p xs ++ cond (p x) (f x) []

pub flat_map-append' : {X Y : Type 0} (f : X → List Y) (xs ys : List X) → flat_map f (xs ++ ys) ≡ flat_map f xs ++ flat_map f ys
flat_map-append' f [] ys = refl
flat_map-append' f (x ∷ xs) ys = ap (λ z. f x ++ z) (flat_map-append' f xs ys) ∙ sym (append_assoc (f x) (flat_map f xs) (flat_map f ys))

pub spill_is : {X Y : Type 0} (f : X → List Y) (p : X → Bool) (xs : List X) → flat_map f (reverse (filter p xs)) ≡ spill f p xs
spill_is f p [] = refl
spill_is f p (x ∷ xs) = go (p x) (spill_is f p xs)
  where
    go : (b : Bool) → flat_map f (reverse (filter p xs)) ≡ spill f p xs → flat_map f (reverse (cond b (x ∷ filter p xs) (filter p xs))) ≡ spill f p xs ++ cond b (f x) []
    go true h = ap (flat_map f) (reverse-append (x ∷ []) (filter p xs)) ∙ flat_map-append' f (reverse (filter p xs)) (x ∷ []) ∙ ap (λ z. z ++ (f x ++ [])) h ∙ ap (λ z. spill f p xs ++ z) (append-nil (f x))
    go false h = h ∙ sym (append-nil (spill f p xs))

pub spill-append : {X Y : Type 0} (f : X → List Y) (p : X → Bool) (xs ys : List X) → spill f p (xs ++ ys) ≡ spill f p ys ++ spill f p xs
spill-append f p [] ys = sym (append-nil (spill f p ys))
spill-append f p (x ∷ xs) ys = ap (λ z. z ++ cond (p x) (f x) []) (spill-append f p xs ys) ∙ append_assoc (spill f p ys) (spill f p xs) (cond (p x) (f x) [])

-- the same where each element that passes holds the same, and the same ones pass
pub spill-same : {X Y : Type 0} (f g : X → List Y) (p q : X → Bool) (xs : List X) → Each (λ x. cond (p x) (f x) [] ≡ cond (q x) (g x) []) xs → spill f p xs ≡ spill g q xs
spill-same f g p q [] h = refl
spill-same f g p q (x ∷ xs) h = cc (spill-same f g p q xs h.1, h.0)

pub Each-spill : {X Y : Type 0} (P : Y → Type 0) (f : X → List Y) (p : X → Bool) (xs : List X) → Each (λ x. p x ≡ true → Each P (f x)) xs → Each P (spill f p xs)
Each-spill P f p [] h = tt
Each-spill P f p (x ∷ xs) h = Each-append P (spill f p xs) (cond (p x) (f x) []) (Each-spill P f p xs h.1) (go (p x) h.0)
  where
    go : (b : Bool) → (b ≡ true → Each P (f x)) → Each P (cond b (f x) [])
    go true k = k refl
    go false k = tt
