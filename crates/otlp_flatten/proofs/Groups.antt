-- A list of groups is put together from the front.
-- For the contracts of `group` and `resource_group`.
use Rattle.std.proofs.Common.{◌≡◌, ◌≢◌, ℕ, zero, suc, ◌<◌, List, [], ◌∷◌, ◌++◌, map, length, drop, Some, option_map, refl, sym, ap, ◌∙◌, append_assoc, append-nil}
use Rattle.std.specs.List.{AllByRecursion, flat_map, slice_get}
use Rattle.std.proofs.lemmas.Option.{slice_get_within}
use Rattle.otlp_types.specs.declared.arrival.Record.{Record}
use Rattle.otlp_flatten.specs.Grouped.{NeighboursDiffer}

-- the records of a group begin with one of the group's key
pub record Begins {G : Type 0} {K : Type 0} (key : G → K) (records : G → List Record) (key_of : Record → K) (g : G) : Type 0 where
  pub first : Record
  pub rest : List Record
  pub records_are : records g ≡ first ∷ rest
  pub key_is : key_of first ≡ key g

-- all are whole, and neighbours have different keys
pub record AreGroups {G : Type 0} {K : Type 0} (key : G → K) (IsWhole : G → Type 0) (gs : List G) : Type 0 where
  pub whole : AllByRecursion IsWhole gs
  pub differ : NeighboursDiffer (map key gs)

-- records that stand behind those of a group begin with another key
abbrev pub Another : {K : Type 0} → (Record → K) → K → List Record → Type 0
Another key_of c rs = (r : Record) (more : List Record) → rs ≡ r ∷ more → key_of r ≢ c

-- however the records to come are grouped, these groups and those are groups of all records
abbrev pub Continues : {G : Type 0} {K : Type 0} → (G → K) → (G → List Record) → (G → Type 0) → List G → List Record → List Record → Type 0
Continues {G} key records IsWhole done rest all = (more : List G) → AreGroups key IsWhole more → flat_map records more ≡ rest
    → AreGroups key IsWhole (done ++ more) × (flat_map records (done ++ more) ≡ all)

module _ {G : Type 0} {K : Type 0} (key : G → K) (records : G → List Record) (key_of : Record → K) (IsWhole : G → Type 0)
    (begins : (g : G) → IsWhole g → Begins key records key_of g) where
  -- a group in front of groups
  pub AreGroups-cons : (g : G) → IsWhole g → (behind : List Record) → Another key_of (key g) behind
      → (more : List G) → AreGroups key IsWhole more → flat_map records more ≡ behind → AreGroups key IsWhole (g ∷ more)
  AreGroups-cons g is_whole behind another [] are e = record { whole = (is_whole, tt); differ = tt }
  AreGroups-cons g is_whole behind another (h ∷ more) are e =
      let b = begins h are.whole.0 in
      let follows : behind ≡ b.first ∷ (b.rest ++ flat_map records more) = sym e ∙ ap (λ rs. rs ++ flat_map records more) b.records_are in
      record { whole = (is_whole, are.whole); differ = ((λ p. another b.first (b.rest ++ flat_map records more) follows (b.key_is ∙ sym p)), are.differ) }

  -- one more group
  pub Continues-push : (done : List G) (g : G) (front behind rest all : List Record) → Continues key records IsWhole done rest all
      → IsWhole g → records g ≡ front → rest ≡ front ++ behind → Another key_of (key g) behind
      → Continues key records IsWhole (done ++ g ∷ []) behind all
  Continues-push done g front behind rest all continues is_whole records_are splits another more are e =
      let here = AreGroups-cons g is_whole behind another more are e in
      let both = continues (g ∷ more) here (ap (λ rs. rs ++ flat_map records more) records_are ∙ ap (λ rs. front ++ rs) e ∙ sym splits) in
      rw append_assoc both

-- nothing is left
pub Continues-end : {G : Type 0} {K : Type 0} (key : G → K) (records : G → List Record) (IsWhole : G → Type 0) (done : List G) (all : List Record)
    → Continues key records IsWhole done [] all → AreGroups key IsWhole done × (flat_map records done ≡ all)
Continues-end key records IsWhole done all continues = rw append-nil at (continues [] (record { whole = tt; differ = tt }) refl)

pub slice_get-drop : {A : Type 0} (xs : List A) (n : ℕ) (y : A) (ys : List A) → drop n xs ≡ y ∷ ys → slice_get xs n ≡ Some y
slice_get-drop [] zero y ys e = cc
slice_get-drop [] (suc n) y ys e = cc
slice_get-drop (x ∷ xs) zero y ys e = cc
slice_get-drop (x ∷ xs) (suc n) y ys e = slice_get-drop xs n y ys e

-- the first of what is left behind a run has another key
pub key-behind : {A : Type 0} {K : Type 0} (key : A → K) (xs : List A) (n : ℕ) (c : K)
    → (n < length xs → option_map key (slice_get xs n) ≢ option_map key (slice_get xs 0)) → Some c ≡ option_map key (slice_get xs 0)
    → (y : A) (ys : List A) → drop n xs ≡ y ∷ ys → key y ≢ c
key-behind key xs n c other first y ys e p =
    let found : slice_get xs n ≡ Some y = slice_get-drop xs n y ys e in
    other (slice_get_within xs n y found) (ap (option_map key) found ∙ ap Some p ∙ first)

another_mapped : {A : Type 0} {K : Type 0} (record_in : A → Record) (key_of : Record → K) (c : K) (xs : List A)
    → ((y : A) (ys : List A) → xs ≡ y ∷ ys → key_of (record_in y) ≢ c) → Another key_of c (map record_in xs)
another_mapped record_in key_of c [] h r more e = cc
another_mapped record_in key_of c (x ∷ xs) h r more e =
    let same : record_in x ≡ r = cc in
    λ p. h x xs refl (ap key_of same ∙ p)

pub another_behind : {A : Type 0} {K : Type 0} (record_in : A → Record) (key_of : Record → K) (xs : List A) (n : ℕ) (c : K)
    → (n < length xs → option_map (λ x. key_of (record_in x)) (slice_get xs n) ≢ option_map (λ x. key_of (record_in x)) (slice_get xs 0))
    → Some c ≡ option_map (λ x. key_of (record_in x)) (slice_get xs 0)
    → Another key_of c (map record_in (drop n xs))
another_behind record_in key_of xs n c other first =
    another_mapped record_in key_of c (drop n xs) (key-behind (λ x. key_of (record_in x)) xs n c other first)
