-- The first of a list that passes a test, taken out at its place.
-- For proofs of `collector_serve`, `pipeline`, `run_weave`, `script_run`, `script_session` and `span_world`.
use Rattle.std.proofs.Common.{◌≡◌, ℕ, suc, ◌<◌, ◌≤◌, Bool, true, false, cond, nat_lt, List, [], ◌∷◌, length, get_or, Some, None, option_map, ap, ◌∙◌, sym, refl, arith, subst, ltb-true, ltb-false}
use Rattle.std.specs.List.{position, position_or_len, remove}
use Rattle.otlp_types.specs.declared.arrival.Arrival.{Arrival}
use Rattle.world_theory.specs.Step.{take_first}

module _ (p : Arrival → Bool) where
  -- one step of both functions, where the head does not pass
  module _ (x : Arrival) (xs : List Arrival) (e : p x ≡ false) where
    later : position_or_len p (x ∷ xs) ≡ suc (position_or_len p xs)
    later = rw e (omega arith)

    rest_taken : take_first p (x ∷ xs) ≡ option_map (λ (r : Arrival × List Arrival). (r.0, x ∷ r.1)) (take_first p xs)
    rest_taken = rw e refl

  taken_at : (xs : List Arrival) (d : Arrival) → position_or_len p xs < length xs → take_first p xs ≡ Some (get_or xs (position_or_len p xs) d, remove xs (position_or_len p xs))
  taken_at [] d l = absurd (omega arith)
  taken_at (x ∷ xs) d l = go (p x) refl l (taken_at xs d)
    where
      go : (b : Bool) → p x ≡ b → position_or_len p (x ∷ xs) < length (x ∷ xs) → (position_or_len p xs < length xs → take_first p xs ≡ Some (get_or xs (position_or_len p xs) d, remove xs (position_or_len p xs)))
          → take_first p (x ∷ xs) ≡ Some (get_or (x ∷ xs) (position_or_len p (x ∷ xs)) d, remove (x ∷ xs) (position_or_len p (x ∷ xs)))
      go true e l rest = rw e refl
      go false e l rest =
          let m : suc (position_or_len p xs) < length (x ∷ xs) = subst (λ (k : ℕ). k < length (x ∷ xs)) (later x xs e) l in
          subst (λ (k : ℕ). take_first p (x ∷ xs) ≡ Some (get_or (x ∷ xs) k d, remove (x ∷ xs) k)) (sym (later x xs e))
          (rest_taken x xs e ∙ ap (option_map (λ (r : Arrival × List Arrival). (r.0, x ∷ r.1))) (rest (omega arith)))

  none_at : (xs : List Arrival) → length xs ≤ position_or_len p xs → take_first p xs ≡ None
  none_at [] l = refl
  none_at (x ∷ xs) l = go (p x) refl l (none_at xs)
    where
      go : (b : Bool) → p x ≡ b → length (x ∷ xs) ≤ position_or_len p (x ∷ xs) → (length xs ≤ position_or_len p xs → take_first p xs ≡ None) → take_first p (x ∷ xs) ≡ None
      go true e l rest =
          let z : position_or_len p (x ∷ xs) ≡ 0 = rw e refl in
          let m : length (x ∷ xs) ≤ 0 = subst (λ (k : ℕ). length (x ∷ xs) ≤ k) z l in absurd (omega arith)
      go false e l rest =
          let m : length (x ∷ xs) ≤ suc (position_or_len p xs) = subst (λ (k : ℕ). length (x ∷ xs) ≤ k) (later x xs e) l in
          rest_taken x xs e ∙ ap (option_map (λ (r : Arrival × List Arrival). (r.0, x ∷ r.1))) (rest (omega arith))

  pub first_taken : (xs : List Arrival) (i : ℕ) (d : Arrival) → position p xs ≡ Some i → take_first p xs ≡ Some (get_or xs i d, remove xs i)
  first_taken xs i d e = go (nat_lt (position_or_len p xs) (length xs)) refl e
    where
      go : (b : Bool) → nat_lt (position_or_len p xs) (length xs) ≡ b → cond b (Some (position_or_len p xs)) None ≡ Some i → take_first p xs ≡ Some (get_or xs i d, remove xs i)
      go true t e = let at : position_or_len p xs ≡ i = cc in subst (λ (k : ℕ). take_first p xs ≡ Some (get_or xs k d, remove xs k)) at (taken_at xs d (omega (arith, ltb-true)))
      go false t e = absurd (cc e)

  pub none_taken : (xs : List Arrival) → position p xs ≡ None → take_first p xs ≡ None
  none_taken xs e = go (nat_lt (position_or_len p xs) (length xs)) refl e
    where
      go : (b : Bool) → nat_lt (position_or_len p xs) (length xs) ≡ b → cond b (Some (position_or_len p xs)) None ≡ None → take_first p xs ≡ None
      go true t e = absurd (cc e)
      go false t e = none_at xs (omega (arith, ltb-false))
