-- What is so of at most one element, and which that is.
-- For the laws of the headline, `headline` and each of its parts.
use Rattle.std.proofs.Common.{◌≡◌, ℕ, zero, suc, ◌<◌, ◌≤◌, Bool, true, cond, ◌&&◌, ◌==◌, List, [], ◌∷◌, ◌++◌, length, flat_map, slice_get, get_or, Contains, Some, refl, ap, sym, subst, ◌∙◌, arith, append_assoc, eqb-true, eq-eqb}
use Rattle.std.proofs.lemmas.Bool.{and_parts}
use Rattle.otlp_types.specs.declared.arrival.Arrival.{Arrival}
use Rattle.span_ids.specs.declared.keys.ArrivalKey.{ArrivalKey}
use Rattle.world_theory.specs.World.{CoreLane, same_key}
use Rattle.journal_theory.proofs.ListFacts.{Split, Split-cons, tally, tally-append, total}
use Rattle.world_theory.proofs.Balance.{occ, occ-append}

-- ---- keys

pub same_key_is : (j k : ArrivalKey) → same_key j k ≡ true → j ≡ k
same_key_is j k e =
    let p = and_parts ((j.conn.lane == k.conn.lane) && (j.conn.ordinal == k.conn.ordinal)) (j.number == k.number) e in
    let q = and_parts (j.conn.lane == k.conn.lane) (j.conn.ordinal == k.conn.ordinal) p.0 in
    let x = eqb-true j.conn.lane k.conn.lane q.0 in
    let y = eqb-true j.conn.ordinal k.conn.ordinal q.1 in
    let z = eqb-true j.number k.number p.1 in
    λ i. record { conn = record { lane = x i; ordinal = y i }; number = z i }

pub key_self : (k : ArrivalKey) → same_key k k ≡ true
key_self k = rw (eq-eqb k.conn.lane k.conn.lane refl, eq-eqb k.conn.ordinal k.conn.ordinal refl, eq-eqb k.number k.number refl) refl

-- ---- one hit

pub some_hit : {X : Type 0} (p : X → Bool) (front back : List X) (x : X) → p x ≡ true → 0 < tally p (front ++ x ∷ back)
some_hit p front back x e =
    let q : cond (p x) 1 0 ≡ 1 = ap (λ (b : Bool). cond {A = ℕ} b 1 0) e in omega (arith, q, tally-append p front (x ∷ back))

pub split_hit : {X : Type 0} (p : X → Bool) (xs : List X) (x : X) → Split x xs → p x ≡ true → 0 < tally p xs
split_hit p xs x h e = subst (λ (n : ℕ). 0 < n) (ap (tally p) (sym h.is)) (some_hit p h.front h.back x e)

-- where at most one passes, two that pass are one, and so is what stands behind them
pub one_hit : {X : Type 0} (p : X → Bool) (xs : List X) (x y : X) → tally p xs ≤ 1 → p x ≡ true → p y ≡ true → (h : Split x xs) (k : Split y xs) → (x ≡ y) × (h.back ≡ k.back)
one_hit {X} p xs x y l a b h k = go xs l h.front k.front h.is k.is
  where
    go : (xs : List X) → tally p xs ≤ 1 → (f g : List X) → xs ≡ f ++ x ∷ h.back → xs ≡ g ++ y ∷ k.back → (x ≡ y) × (h.back ≡ k.back)
    go [] l [] g e m = absurd (cc e)
    go [] l (z ∷ f) g e m = absurd (cc e)
    go (o ∷ xs) l [] [] e m = (cc (e, m), cc (e, m))
    go (o ∷ xs) l [] (z ∷ g) e m =
        let n : o ≡ x = cc e in let r : xs ≡ g ++ y ∷ k.back = cc m in
        let c : cond (p o) 1 0 ≡ 1 = ap (λ (b : Bool). cond {A = ℕ} b 1 0) (ap p n ∙ a) in
        let t : tally p xs ≡ tally p (g ++ y ∷ k.back) = ap (tally p) r in absurd (omega (arith, c, t, some_hit p g k.back y b))
    go (o ∷ xs) l (z ∷ f) [] e m =
        let n : o ≡ y = cc m in let r : xs ≡ f ++ x ∷ h.back = cc e in
        let c : cond (p o) 1 0 ≡ 1 = ap (λ (b : Bool). cond {A = ℕ} b 1 0) (ap p n ∙ b) in
        let t : tally p xs ≡ tally p (f ++ x ∷ h.back) = ap (tally p) r in absurd (omega (arith, c, t, some_hit p f h.back x a))
    go (o ∷ xs) l (z ∷ f) (u ∷ g) e m = go xs (omega arith) f g (cc e) (cc m)

-- ---- one part of a sum

pub total-at : {X : Type 0} (f : X → ℕ) (xs : List X) (i : ℕ) (x : X) → slice_get xs i ≡ Some x → f x ≤ total f xs
total-at f [] i x e = absurd (cc e)
total-at f (z ∷ xs) zero x e = let k : f z ≡ f x = ap f (cc e) in omega arith
total-at f (z ∷ xs) (suc i) x e = omega (arith, total-at f xs i x e)

pub total-split : {X : Type 0} (f : X → ℕ) (xs : List X) (x : X) → Split x xs → f x ≤ total f xs
total-split {X} f xs x h = go xs h.front h.is
  where
    go : (xs front : List X) → xs ≡ front ++ x ∷ h.back → f x ≤ total f xs
    go [] [] e = absurd (cc e)
    go [] (y ∷ front) e = absurd (cc e)
    go (z ∷ xs) [] e = let k : f z ≡ f x = ap f (cc e) in omega arith
    go (z ∷ xs) (y ∷ front) e = omega (arith, go xs front (cc e))

-- where a sum is at most 1, two places with a part are one
pub one_at : {X : Type 0} (f : X → ℕ) (xs : List X) (i j : ℕ) (x y : X) → total f xs ≤ 1 → slice_get xs i ≡ Some x → slice_get xs j ≡ Some y → 0 < f x → 0 < f y → i ≡ j
one_at f [] i j x y l e m p q = absurd (cc e)
one_at f (z ∷ xs) zero zero x y l e m p q = refl
one_at f (z ∷ xs) zero (suc j) x y l e m p q = let k : f z ≡ f x = ap f (cc e) in absurd (omega (arith, total-at f xs j y m))
one_at f (z ∷ xs) (suc i) zero x y l e m p q = let k : f z ≡ f y = ap f (cc m) in absurd (omega (arith, total-at f xs i x e))
one_at f (z ∷ xs) (suc i) (suc j) x y l e m p q = ap suc (one_at f xs i j x y (omega arith) e m p q)

pub one_long : {X : Type 0} (xs : List X) → length xs ≡ 1 → (x : X) × (xs ≡ x ∷ [])
one_long [] e = absurd (omega arith)
one_long (x ∷ []) e = (x, refl)
one_long (x ∷ y ∷ xs) e = absurd (omega arith)

-- ---- one arrival of a key

abbrev pub all_received : List CoreLane → List Arrival
all_received lanes = flat_map (λ (l : CoreLane). l.received) lanes

pub occ_all : (k : ArrivalKey) (lanes : List CoreLane) → occ k (all_received lanes) ≡ total (λ (l : CoreLane). occ k l.received) lanes
occ_all k [] = refl
occ_all k (l ∷ rest) = omega (arith, occ-append k l.received (all_received rest), occ_all k rest)

pub in_all : (b : Arrival) (lanes : List CoreLane) (i : ℕ) (l : CoreLane) → slice_get lanes i ≡ Some l → Split b l.received → Split b (all_received lanes)
in_all b [] i l e h = absurd (cc e)
in_all b (x ∷ rest) zero l e h =
    let k : l ≡ x = cc e in
    let m = subst (λ (l : CoreLane). Split b l.received) k h in
    record { front = m.front; back = m.back ++ all_received rest; is = ap (λ (z : List Arrival). z ++ all_received rest) m.is ∙ append_assoc m.front (b ∷ m.back) (all_received rest) }
in_all b (x ∷ rest) (suc i) l e h =
    let m = in_all b rest i l e h in
    record { front = x.received ++ m.front; back = m.back; is = ap (λ (z : List Arrival). x.received ++ z) m.is ∙ sym (append_assoc x.received m.front (b ∷ m.back)) }

-- ---- what a list contains

pub split_contains : {X : Type 0} (x : X) (xs : List X) → Split x xs → Contains xs x
split_contains {X} x xs h = subst (λ (z : List X). Contains z x) (sym h.is) (length h.front, below h.front, at h.front)
  where
    below : (front : List X) → length front < length (front ++ x ∷ h.back)
    below [] = omega arith
    below (y ∷ front) = omega (arith, below front)

    at : (front : List X) → get_or (front ++ x ∷ h.back) (length front) x ≡ x
    at [] = refl
    at (y ∷ front) = at front

pub contains_split : {X : Type 0} (xs : List X) (x : X) → Contains xs x → Split x xs
contains_split {X} xs x h = go xs h.0 h.1 h.2
  where
    go : (xs : List X) (k : ℕ) → k < length xs → get_or xs k x ≡ x → Split x xs
    go [] k l e = absurd (omega arith)
    go (y ∷ ys) zero l e = record { front = []; back = ys; is = ap (λ (z : X). z ∷ ys) e }
    go (y ∷ ys) (suc k) l e = Split-cons x y ys (go ys k (omega arith) e)
