-- Lists by the numbers of their places, and taking out the first span that goes to a shard.
-- For the contract of `weave`.
use Rattle.std.proofs.Common.{◌≡◌, ◌≢◌, ℕ, zero, suc, ◌+◌, ◌<◌, ◌≤◌, ◌==◌, ◌||◌, Bool, true, false, List, [], ◌∷◌, length, cond, filter, replicate, slice_get, slice_set, Option, Some, None, option_map, sym, refl, ap, ◌∙◌, eq-eqb, ne_eqb, eqb-true, arith}
use Rattle.std.specs.List.{list_any}
use Rattle.otlp_types.specs.declared.arrival.Arrival.{Arrival}
use Rattle.otlp_types.specs.declared.span.Ids.{Ids}
use Rattle.span_ids.specs.Route.{shard_of}
use Rattle.world_theory.specs.World.{goes_to, ids_go_to}
use Rattle.world_theory.specs.Step.{take_first}
use Rattle.lane_queue.specs.Merges.{of}

-- ---- a function with another value at one number

-- f, with this at a number
abbrev pub set_at : {X : Type 0} → (ℕ → X) → (number : ℕ) → X → ℕ → X
set_at f i x j = cond (i == j) x (f j)

module _ {X : Type 0} where
  pub set_same : (f : ℕ → X) (i : ℕ) (x : X) → set_at f i x i ≡ x
  set_same f i x = ap (λ b. cond b x (f i)) (eq-eqb i i refl)

  pub set_other : (f : ℕ → X) (i j : ℕ) (x : X) → j ≢ i → set_at f i x j ≡ f j
  set_other f i j x apart = ap (λ b. cond b x (f j)) (ne_eqb i j (λ e. apart (sym e)))

  -- putting in what stands there changes nothing
  pub set_back : (f : ℕ → X) (i : ℕ) (x : X) → f i ≡ x → (j : ℕ) → f j ≡ set_at f i x j
  set_back f i x e j = go (i == j) refl
    where
      go : (b : Bool) → (i == j) ≡ b → f j ≡ cond b x (f j)
      go true t = sym (ap f (eqb-true i j t)) ∙ e
      go false t = refl

-- ---- the list of a function's values

-- f at so many numbers from the first on
abbrev pub tab : {X : Type 0} → (f : ℕ → X) → (first many : ℕ) → List X
tab f first zero = []
tab f first (suc many) = f first ∷ tab f (first + 1) many

module _ {X : Type 0} where
  pub length_tab : (f : ℕ → X) (first many : ℕ) → length (tab f first many) ≡ many
  length_tab f first zero = refl
  length_tab f first (suc many) = ap suc (length_tab f (first + 1) many)

  pub get_tab : (f : ℕ → X) (first many i k : ℕ) → i < many → k ≡ first + i → slice_get (tab f first many) i ≡ Some (f k)
  get_tab f first zero i k h e = absurd (omega (arith, h))
  get_tab f first (suc many) zero k h e = let same : first ≡ k = omega (arith, e) in ap (λ n. Some (f n)) same
  get_tab f first (suc many) (suc i) k h e = get_tab f (first + 1) many i k (omega (arith, h)) (omega (arith, e))

  pub past_tab : (f : ℕ → X) (first many i : ℕ) → many ≤ i → slice_get (tab f first many) i ≡ None
  past_tab f first zero i h = refl
  past_tab f first (suc many) zero h = absurd (omega (arith, h))
  past_tab f first (suc many) (suc i) h = past_tab f (first + 1) many i (omega (arith, h))

  pub tab_same : (f g : ℕ → X) (first many : ℕ) → ((k : ℕ) → first ≤ k → k < first + many → f k ≡ g k) → tab f first many ≡ tab g first many
  tab_same f g first zero h = refl
  tab_same f g first (suc many) h =
      ap (λ (x : X). x ∷ tab f (first + 1) many) (h first (omega arith) (omega arith))
      ∙ ap (λ (z : List X). g first ∷ z) (tab_same f g (first + 1) many (λ k a b. h k (omega (arith, a)) (omega (arith, b))))

  pub set_tab : (f g : ℕ → X) (first many i k : ℕ) (x : X) → k ≡ first + i → g k ≡ x → ((j : ℕ) → j ≢ k → f j ≡ g j) → slice_set (tab f first many) i x ≡ tab g first many
  set_tab f g first zero i k x e here there = refl
  set_tab f g first (suc many) zero k x e here there =
      let same : k ≡ first = omega (arith, e) in
      ap (λ (y : X). y ∷ tab f (first + 1) many) (sym here ∙ ap g same)
      ∙ ap (λ (z : List X). g first ∷ z) (tab_same f g (first + 1) many (λ j a b. there j (λ q. absurd (omega (arith, q, e, a)))))
  set_tab f g first (suc many) (suc i) k x e here there =
      ap (λ (y : X). y ∷ slice_set (tab f (first + 1) many) i x) (there first (λ q. absurd (omega (arith, q, e))))
      ∙ ap (λ (z : List X). g first ∷ z) (set_tab f g (first + 1) many i k x (omega (arith, e)) here there)

  pub replicate_tab : (x : X) (first many : ℕ) → replicate many x ≡ tab (λ i. x) first many
  replicate_tab x first zero = refl
  replicate_tab x first (suc many) = ap (λ (z : List X). x ∷ z) (replicate_tab x (first + 1) many)

  -- ---- one list of a merge

  pub of_here : (k : ℕ) (x : X) (rest : List (ℕ × X)) → of k ((k, x) ∷ rest) ≡ x ∷ of k rest
  of_here k x rest = ap (λ b. cond b (x ∷ of k rest) (of k rest)) (eq-eqb k k refl)

  pub of_there : (j k : ℕ) (x : X) (rest : List (ℕ × X)) → j ≢ k → of j ((k, x) ∷ rest) ≡ of j rest
  of_there j k x rest apart = ap (λ b. cond b (x ∷ of j rest) (of j rest)) (ne_eqb k j (λ e. apart (sym e)))

  -- ---- tests

  -- what no element passes, the filter leaves nothing of
  pub any_of_filter : (p : X → Bool) (xs : List X) → filter p xs ≡ [] → list_any p xs ≡ false
  any_of_filter p [] e = refl
  any_of_filter p (x ∷ xs) e = go (p x) e (any_of_filter p xs)
    where
      go : (b : Bool) → cond b (x ∷ filter p xs) (filter p xs) ≡ [] → (filter p xs ≡ [] → list_any p xs ≡ false) → (b || list_any p xs) ≡ false
      go true h f = absurd (cc h)
      go false h f = f h

-- ---- the first that passes

-- a is the first of the list that passes; without it others pass, and what fails stays
pub record First (p : Arrival → Bool) (xs : List Arrival) (a : Arrival) (others : List Arrival) : Type 0 where
  pub rest : List Arrival
  pub takes : take_first p xs ≡ Some (a, rest)
  pub leaves : filter p rest ≡ others
  pub keeps : (q : Arrival → Bool) → ((x : Arrival) → p x ≡ true → q x ≡ false) → filter q rest ≡ filter q xs

first_at : (p : Arrival → Bool) (x : Arrival) (xs : List Arrival) (a : Arrival) (others : List Arrival) → (filter p xs ≡ a ∷ others → First p xs a others) → (b : Bool) → p x ≡ b
    → cond b (x ∷ filter p xs) (filter p xs) ≡ a ∷ others → First p (x ∷ xs) a others
first_at p x xs a others later true is h =
    let head : x ≡ a = cc h in
    let tail : filter p xs ≡ others = cc h in
    record {
      rest = xs;
      takes = ap (λ b. cond b (Some (x, xs)) (option_map (λ (r : Arrival × List Arrival). (r.0, x ∷ r.1)) (take_first p xs))) is ∙ ap (λ (y : Arrival). Some (y, xs)) head;
      leaves = tail;
      keeps = λ q apart. sym (ap (λ b. cond b (x ∷ filter q xs) (filter q xs)) (apart x is));
    }
first_at p x xs a others later false is h =
    let more = later h in
    record {
      rest = x ∷ more.rest;
      takes = ap (λ b. cond b (Some (x, xs)) (option_map (λ (r : Arrival × List Arrival). (r.0, x ∷ r.1)) (take_first p xs))) is ∙ ap (option_map (λ (r : Arrival × List Arrival). (r.0, x ∷ r.1))) more.takes;
      leaves = ap (λ b. cond b (x ∷ filter p more.rest) (filter p more.rest)) is ∙ more.leaves;
      keeps = λ q apart. ap (λ (l : List Arrival). cond (q x) (x ∷ l) l) (more.keeps q apart);
    }

-- of a list whose passing elements are a and then others, a is the first
pub first_of_filter : (p : Arrival → Bool) (xs : List Arrival) (a : Arrival) (others : List Arrival) → filter p xs ≡ a ∷ others → First p xs a others
first_of_filter p [] a others e = absurd (cc e)
first_of_filter p (x ∷ xs) a others e = first_at p x xs a others (λ h. first_of_filter p xs a others h) (p x) refl e

-- what goes to one shard goes to no other
pub elsewhere : (shards k s : ℕ) → k ≢ s → (a : Arrival) → goes_to shards s a ≡ true → goes_to shards k a ≡ false
elsewhere shards k s apart a t = go a.rec.span.ids t
  where
    go : (ids : Option Ids) → ids_go_to shards s ids ≡ true → ids_go_to shards k ids ≡ false
    go None h = refl
    go (Some ids) h = ne_eqb (shard_of ids.trace shards) k (λ e. apart (sym e ∙ eqb-true (shard_of ids.trace shards) s h))
