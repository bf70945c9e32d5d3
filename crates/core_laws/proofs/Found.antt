-- Elements that pass a test are found.
-- For the law `untaken_is_counted`, and for the laws of answers.
use Rattle.std.proofs.Common.{◌≡◌, ℕ, zero, suc, Bool, true, false, ◌||◌, List, [], ◌∷◌, ◌++◌, slice_get, Some, refl, ap, ◌∙◌}
use Rattle.std.specs.List.{list_any}
use Rattle.otlp_types.specs.declared.arrival.Arrival.{Arrival}
use Rattle.journal_theory.proofs.ListFacts.{Split}
use Rattle.world_theory.specs.World.{CoreLane, World, same_key}
use Rattle.world_theory.specs.Headline.{WasReceived, is_received}
use Rattle.world_theory.proofs.Single.{contains_split, key_self}

any_there : {X : Type 0} (p : X → Bool) (front : List X) (x : X) (back : List X) → p x ≡ true → list_any p (front ++ x ∷ back) ≡ true
any_there p [] x back h = ap (λ b. b || list_any p back) h
any_there p (y ∷ front) x back h = go (p y) (any_there p front x back h)
  where
    go : (b : Bool) → list_any p (front ++ x ∷ back) ≡ true → (b || list_any p (front ++ x ∷ back)) ≡ true
    go true e = refl
    go false e = e

pub any_in : {X : Type 0} (p : X → Bool) (xs : List X) (x : X) → Split x xs → p x ≡ true → list_any p xs ≡ true
any_in p xs x s h = ap (list_any p) s.is ∙ any_there p s.front x s.back h

pub any_at : {X : Type 0} (p : X → Bool) (xs : List X) (i : ℕ) (x : X) → slice_get xs i ≡ Some x → p x ≡ true → list_any p xs ≡ true
any_at p [] i x e h = absurd (cc e)
any_at p (y ∷ ys) zero x e h = let same : y ≡ x = cc e in ap (λ z. p z || list_any p ys) same ∙ ap (λ b. b || list_any p ys) h
any_at p (y ∷ ys) (suc i) x e h = go (p y) (any_at p ys i x e h)
  where
    go : (b : Bool) → list_any p ys ≡ true → (b || list_any p ys) ≡ true
    go true e = refl
    go false e = e

-- the key of a received span was received
pub received_key : (w : World) (a : Arrival) → WasReceived w a → is_received w a.key ≡ true
received_key w a got =
    let own : list_any (λ (b : Arrival). same_key b.key a.key) got.of.received ≡ true = any_in (λ (b : Arrival). same_key b.key a.key) got.of.received a (contains_split got.of.received a got.has) (key_self a.key) in
    any_at (λ (l : CoreLane). list_any (λ (b : Arrival). same_key b.key a.key) l.received) w.lanes got.lane got.of got.in_world own
