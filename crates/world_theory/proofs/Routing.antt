-- What becomes of a lane's first unrouted span for a shard, by the lane and the shard read at their places.
-- For proofs of `span_world`.
use Rattle.std.proofs.Common.{◌≡◌, ℕ, zero, suc, ◌<◌, true, false, is_some, List, [], ◌∷◌, ◌++◌, length, get_or, slice_get, slice_set, Option, Some, None, refl, ap, sym, subst, ◌∙◌, arith}
use Rattle.std.specs.List.{position, remove}
use Rattle.std.specs.Prelude.{Result, Ok, Err, OnOk, is_err}
use Rattle.otlp_types.specs.declared.arrival.Arrival.{Arrival}
use Rattle.span_ids.specs.declared.outcome.Reason.TheVariants.{QueueFull}
use Rattle.world_theory.specs.World.{CoreConfig, CoreLane, CoreShard, World, goes_to}
use Rattle.world_theory.specs.Step.{route, refuse, step, take_first}
use Rattle.world_theory.proofs.Firsts.{first_taken, none_taken}

pub read_is : {X : Type 0} (xs : List X) (i : ℕ) (x : X) → i < length xs → x ≡ get_or xs i x → slice_get xs i ≡ Some x
read_is [] i x l e = absurd (omega arith)
read_is (y ∷ xs) zero x l e = ap (λ z. Some z) (sym e)
read_is (y ∷ xs) (suc i) x l e = read_is xs i x (omega arith) e

-- an element put back where it was read
pub put_back : {X : Type 0} (xs : List X) (i : ℕ) (x : X) → slice_get xs i ≡ Some x → slice_set xs i x ≡ xs
put_back [] i x e = refl
put_back (y ∷ xs) zero x e = let at : y ≡ x = cc in ap (λ z. z ∷ xs) (sym at)
put_back (y ∷ xs) (suc i) x e = ap (λ z. y ∷ z) (put_back xs i x e)

pub some_read : {X : Type 0} (xs : List X) (i : ℕ) → i < length xs → (x : X) × (slice_get xs i ≡ Some x)
some_read [] i l = absurd (omega arith)
some_read (x ∷ xs) zero l = (x, refl)
some_read (x ∷ xs) (suc i) l = some_read xs i (omega arith)

-- what is so of an answer that is no error
pub on_ok : {T E : Type 0} {P : Type 0} (r : Result T E) → is_err r ≡ false → OnOk r P → P
on_ok (Ok x) e p = p
on_ok (Err x) e p = absurd (cc e)

pub reads_same : {X : Type 0} (xs : List X) (i : ℕ) (x y : X) → slice_get xs i ≡ Some x → slice_get xs i ≡ Some y → x ≡ y
reads_same xs i x y e f = let both : Some x ≡ Some y = sym e ∙ f in cc

module _ (c : CoreConfig) (w : World) (lane shard : ℕ) (l : CoreLane) (sh : CoreShard) (g : slice_get w.lanes lane ≡ Some l) (h : slice_get w.shards shard ≡ Some sh)
    (n : ℕ) (at : n ≡ length w.shards) (found : Option ℕ) (is : found ≡ position (goes_to n shard) l.unrouted) where
  none : found ≡ None → take_first (goes_to (length w.shards) shard) l.unrouted ≡ None
  none e = none_taken (goes_to (length w.shards) shard) l.unrouted (subst (λ (k : ℕ). position (goes_to k shard) l.unrouted ≡ None) at (sym is ∙ e))

  first : (i : ℕ) (d : Arrival) → found ≡ Some i → take_first (goes_to (length w.shards) shard) l.unrouted ≡ Some (get_or l.unrouted i d, remove l.unrouted i)
  first i d e = first_taken (goes_to (length w.shards) shard) l.unrouted i d (subst (λ (k : ℕ). position (goes_to k shard) l.unrouted ≡ Some i) at (sym is ∙ e))

  some_first : (i : ℕ) → found ≡ Some i → (r : Arrival × List Arrival) × (take_first (goes_to (length w.shards) shard) l.unrouted ≡ Some r)
  some_first i e = go l.unrouted (subst (λ (k : ℕ). position (goes_to k shard) l.unrouted ≡ Some i) at (sym is ∙ e))
    where
      go : (xs : List Arrival) → position (goes_to (length w.shards) shard) xs ≡ Some i → (r : Arrival × List Arrival) × (take_first (goes_to (length w.shards) shard) xs ≡ Some r)
      go [] f = absurd (cc f)
      go (a ∷ rest) f = (_, first_taken (goes_to (length w.shards) shard) (a ∷ rest) i a f)

  pub can_route : (i : ℕ) → found ≡ Some i → is_some (step c w (route lane shard)) ≡ true
  can_route i e = rw (g, h, (some_first i e).1) refl

  pub can_refuse : (i : ℕ) → found ≡ Some i → is_some (step c w (refuse lane shard)) ≡ true
  can_refuse i e = rw (g, h, (some_first i e).1) refl

  pub no_route : found ≡ None → step c w (route lane shard) ≡ None
  no_route e = rw (g, h, none e) refl

  pub no_refuse : found ≡ None → step c w (refuse lane shard) ≡ None
  no_refuse e = rw (g, h, none e) refl

  pub routes : (i : ℕ) (new : CoreLane) (grown : CoreShard) → found ≡ Some i → new ≡ record l { unrouted = remove l.unrouted i } → ((a : Arrival) → grown ≡ record sh { queue = sh.queue ++ get_or l.unrouted i a ∷ [] })
      → step c w (route lane shard) ≡ Some (record w { lanes = slice_set w.lanes lane new; shards = slice_set w.shards shard grown })
  routes i new grown e f q =
      let r = some_first i e in
      let t : take_first (goes_to (length w.shards) shard) l.unrouted ≡ Some (get_or l.unrouted i r.0.0, remove l.unrouted i) = first i r.0.0 e in
      rw (g, h, t, f, q r.0.0) refl

  pub refuses : (i : ℕ) (a : Arrival) (new : CoreLane) → found ≡ Some i → a ≡ get_or l.unrouted i a → new ≡ record l { unrouted = remove l.unrouted i }
      → step c w (refuse lane shard) ≡ Some (record w { lanes = slice_set w.lanes lane new; counted = w.counted ++ record { reason = QueueFull; key = a.key } ∷ [] })
  refuses i a new e f q =
      let t : take_first (goes_to (length w.shards) shard) l.unrouted ≡ Some (a, remove l.unrouted i) = first i a e ∙ ap (λ (z : Arrival). Some (z, remove l.unrouted i)) (sym f) in
      rw (g, h, t, q) refl
