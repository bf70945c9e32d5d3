-- One more group, and the last one, at each level.
-- For the contracts of `group`, `resource_group` and `scope_group`.
use Rattle.std.proofs.lemmas.Bool.Decides.{nat_tests}
use Rattle.std.proofs.Common.{◌≡◌, ◌≢◌, ℕ, zero, suc, true, ◌==◌, get_or, ◌<◌, ◌≤◌, ◌+◌, List, [], ◌∷◌, ◌++◌, map, length, take, drop, Some, option_map, refl, sym, ap, subst, ◌∙◌, arith, set, add-one}
use Rattle.std.specs.List.{AllByRecursion, flat_map, slice_get}
use Rattle.std.proofs.Math.Seq.{drop-cons}
use Rattle.std.proofs.lemmas.List.{take-append-drop, map-append, drop-set-lt}
use Rattle.otlp_types.specs.declared.request.Resource.{Resource}
use Rattle.otlp_types.specs.declared.request.ScopeSpans.{ScopeSpans}
use Rattle.otlp_types.specs.declared.request.ResourceSpans.{ResourceSpans}
use Rattle.otlp_types.specs.declared.arrival.Record.{Record}
use Rattle.otlp_flatten.specs.Flat.{scope_records, resource_records}
use Rattle.otlp_flatten.specs.Grouped.{HasSpan, IsResourceGroup, scope_key, resource_key}
use Rattle.otlp_flatten.specs.Runs.{resource_of, scope_of, IsKeyRun}
use Rattle.otlp_flatten.proofs.Groups.{Continues, Continues-push, Continues-end, Another, another_behind}
use Rattle.otlp_flatten.proofs.Levels.{scope_begins, resource_begins, scope_records-restored}

module _ {A : Type 0} where
  pub all_front : (P : A → Type 0) (xs ys : List A) → AllByRecursion P (xs ++ ys) → AllByRecursion P xs
  all_front P [] ys a = tt
  all_front P (x ∷ xs) ys a = (a.0, all_front P xs ys a.1)

  pub all_back : (P : A → Type 0) (xs ys : List A) → AllByRecursion P (xs ++ ys) → AllByRecursion P ys
  all_back P [] ys a = a
  all_back P (x ∷ xs) ys a = all_back P xs ys a.1

  slice_get-take : (xs : List A) (n : ℕ) → 0 < n → slice_get (take n xs) 0 ≡ slice_get xs 0
  slice_get-take xs zero h = absurd (omega arith)
  slice_get-take [] (suc n) h = refl
  slice_get-take (x ∷ xs) (suc n) h = refl

  all_taken : {K : Type 0} (key : A → K) (c : K) (xs : List A) (n : ℕ) → n ≤ length xs
      → ((k : ℕ) → k < n → option_map key (slice_get xs k) ≡ Some c) → AllByRecursion (λ x. key x ≡ c) (take n xs)
  all_taken key c xs zero within h = tt
  all_taken key c [] (suc n) within h = tt
  all_taken key c (x ∷ xs) (suc n) within h = (some_same (h 0 (omega arith)), all_taken key c xs n (omega arith) (λ k l. h (suc k) (omega arith)))
    where
      some_same : Some (key x) ≡ Some c → key x ≡ c
      some_same e = cc

  some_mapped : {B K : Type 0} (c : K) (key : A → K) (f : A → B) (xs : List A) → Some c ≡ option_map key (slice_get xs 0) → map f xs ≢ []
  some_mapped c key f [] e p = cc
  some_mapped c key f (x ∷ xs) e p = cc

  -- the first of a run's part
  first_taken : {K : Type 0} (c : K) (key : A → K) (rest front : List A) (n : ℕ) → 0 < n → front ≡ take n rest
      → Some c ≡ option_map key (slice_get front 0) → Some c ≡ option_map key (slice_get rest 0)
  first_taken c key rest front n some is_front first =
      first ∙ ap (λ xs. option_map key (slice_get xs 0)) is_front ∙ ap (option_map key) (slice_get-take rest n some)

  all_mapped : (record_in : A → Record) (n : ℕ) (rest front behind : List A) → front ≡ take n rest → behind ≡ drop n rest
      → map record_in rest ≡ map record_in front ++ map record_in behind
  all_mapped record_in n rest front behind is_front is_behind =
      sym (ap (λ xs. map record_in xs ++ map record_in behind) is_front ∙ ap (λ xs. map record_in (take n rest) ++ map record_in xs) is_behind
      ∙ sym (map-append record_in (take n rest) (drop n rest)) ∙ ap (map record_in) (take-append-drop n rest))

  module _ (record_in : A → Record) (rest front behind : List A) (n : ℕ) (all : List Record) (is_front : front ≡ take n rest) (is_behind : behind ≡ drop n rest) where
    pub scope_step : (r : Resource) (url : List ℕ) (done : List ScopeSpans) (g : ScopeSpans) → IsKeyRun (λ x. scope_of (record_in x)) rest n
        → g.spans ≡ map (λ x. (record_in x).span) front → Some (scope_key g) ≡ option_map (λ x. scope_of (record_in x)) (slice_get front 0)
        → AllByRecursion (λ x. resource_of (record_in x) ≡ (r, url)) rest
        → Continues scope_key (scope_records r url) HasSpan done (map record_in rest) all
        → AllByRecursion (λ x. resource_of (record_in x) ≡ (r, url)) behind
        × Continues scope_key (scope_records r url) HasSpan (done ++ g ∷ []) (map record_in behind) all
    scope_step r url done g run spans first same continues =
        let key = λ (x : A). scope_of (record_in x) in
        let IsOf = λ (x : A). resource_of (record_in x) ≡ (r, url) in
        let here = first_taken (scope_key g) key rest front n run.some is_front first in
        let parts : AllByRecursion IsOf (take n rest ++ drop n rest) = subst (AllByRecursion IsOf) (sym (take-append-drop n rest)) same in
        let of_resource : AllByRecursion IsOf front = subst (AllByRecursion IsOf) (sym is_front) (all_front IsOf (take n rest) (drop n rest) parts) in
        let of_scope : AllByRecursion (λ (x : A). key x ≡ scope_key g) front =
        subst (AllByRecursion (λ (x : A). key x ≡ scope_key g)) (sym is_front) (all_taken key (scope_key g) rest n run.within (λ k l. run.same k l ∙ sym here)) in
        let some : HasSpan g = λ e. some_mapped (scope_key g) key (λ x. (record_in x).span) front first (sym spans ∙ e) in
        let other : Another scope_of (scope_key g) (map record_in behind) =
        subst (λ (xs : List A). Another scope_of (scope_key g) (map record_in xs)) (sym is_behind) (another_behind record_in scope_of rest n (scope_key g) run.other here) in (
          subst (AllByRecursion IsOf) (sym is_behind) (all_back IsOf (take n rest) (drop n rest) parts),
          Continues-push scope_key (scope_records r url) scope_of HasSpan (scope_begins r url) done g (map record_in front) (map record_in behind) (map record_in rest) all continues
              some (scope_records-restored record_in r url g front spans of_scope of_resource) (all_mapped record_in n rest front behind is_front is_behind) other,
        )

    pub resource_step : (done : List ResourceSpans) (g : ResourceSpans) → IsKeyRun (λ x. resource_of (record_in x)) rest n
        → IsResourceGroup g → resource_records g ≡ map record_in front → Some (resource_key g) ≡ option_map (λ x. resource_of (record_in x)) (slice_get front 0)
        → Continues resource_key resource_records IsResourceGroup done (map record_in rest) all
        → Continues resource_key resource_records IsResourceGroup (done ++ g ∷ []) (map record_in behind) all
    resource_step done g run is_group records_are first continues =
        let key = λ (x : A). resource_of (record_in x) in
        let here = first_taken (resource_key g) key rest front n run.some is_front first in
        let other : Another resource_of (resource_key g) (map record_in behind) =
        subst (λ (xs : List A). Another resource_of (resource_key g) (map record_in xs)) (sym is_behind) (another_behind record_in resource_of rest n (resource_key g) run.other here) in
        Continues-push resource_key resource_records resource_of IsResourceGroup resource_begins done g (map record_in front) (map record_in behind) (map record_in rest) all continues
        is_group records_are (all_mapped record_in n rest front behind is_front is_behind) other

  -- all groups of a resource
  pub scope_end : (record_in : A → Record) (r : Resource) (url : List ℕ) (groups : List ScopeSpans) (rest spans : List A) → rest ≡ [] → 0 < length spans
      → Continues scope_key (scope_records r url) HasSpan groups (map record_in rest) (map record_in spans)
      → IsResourceGroup (record { resource = r; scope_spans = groups; schema_url = url }) × (flat_map (scope_records r url) groups ≡ map record_in spans)
  scope_end record_in r url groups rest spans gone some continues =
      let ended : Continues scope_key (scope_records r url) HasSpan groups [] (map record_in spans) =
      subst (λ (xs : List A). Continues scope_key (scope_records r url) HasSpan groups (map record_in xs) (map record_in spans)) gone continues in
      let both = Continues-end scope_key (scope_records r url) HasSpan groups (map record_in spans) ended in
      (record { some_scope = λ e. has_some spans some (sym (ap (λ gs. flat_map (scope_records r url) gs) (sym e) ∙ both.1)); some_span = both.0.whole; scopes_differ = both.0.differ }, both.1)
    where
      has_some : (xs : List A) → 0 < length xs → map record_in xs ≢ []
      has_some [] h e = absurd (omega arith)
      has_some (x ∷ xs) h e = cc

  first_left : (xs : List A) (i : ℕ) (x : A) (left : List A) → drop i xs ≡ x ∷ left → (take (suc i) xs ≡ take i xs ++ x ∷ []) × (drop (suc i) xs ≡ left)
  first_left [] zero x left e = cc
  first_left [] (suc i) x left e = cc
  first_left (y ∷ xs) zero x left e = (cc, cc)
  first_left (y ∷ xs) (suc i) x left e = let both = first_left xs i x left e in (ap (λ zs. y ∷ zs) both.0, both.1)

  -- what is taken of one more item, with another item put in its place
  pub one_more_taken : {B : Type 0} (part : A → B) (xs whole : List A) (i : ℕ) (x new : A) (taken : B) (so_far now : List B)
      → i < length xs → x ≡ get_or xs i x → taken ≡ part x → now ≡ so_far ++ taken ∷ []
      → (so_far ≡ map part (take i whole)) × (drop i xs ≡ drop i whole)
      → (now ≡ map part (take (i + 1) whole)) × (drop (i + 1) (set xs i new) ≡ drop (i + 1) whole)
  one_more_taken part xs whole i x new taken so_far now within is taken_is pushed both =
      let left : drop i whole ≡ x ∷ drop (suc i) xs = sym both.1 ∙ drop-cons xs i x within ∙ ap (λ y. y ∷ drop (suc i) xs) (sym is) in
      let more = first_left whole i x (drop (suc i) xs) left in
      let grown : now ≡ map part (take (suc i) whole) = pushed ∙ ap (λ ys. ys ++ taken ∷ []) both.0 ∙ ap (λ y. map part (take i whole) ++ y ∷ []) taken_is
      ∙ sym (map-append part (take i whole) (x ∷ [])) ∙ ap (map part) (sym more.0) in
      let rest_kept : drop (suc i) (set xs i new) ≡ drop (suc i) whole = drop-set-lt (suc i) xs i new (omega arith) ∙ sym more.1 in
      rw (add-one i) (grown, rest_kept)

is_zero : (n : ℕ) → true ≡ (n == 0) → n ≡ 0
is_zero n e = grind (arith, nat_tests)

pub nothing_left : {A : Type 0} (xs : List A) → true ≡ (length xs == 0) → xs ≡ []
nothing_left [] e = refl
nothing_left (x ∷ xs) e = let none : length (x ∷ xs) ≡ 0 = is_zero (length (x ∷ xs)) e in absurd (omega arith)
