-- Names that move up, from the last one to the first.
-- For the contract of `shift_names`.
use Rattle.std.proofs.Common.{◌≡◌, ◌∙◌, ◌⊎◌, inl, inr, ℕ, zero, suc, ◌+◌, ◌<◌, ◌≤◌, true, false, List, [], ◌∷◌, ◌++◌, length, take, drop, Option, Some, None, Result, Ok, Err, refl, sym, ap, arith}
use Rattle.std.specs.Prelude.{⊤, OnErr}
use Rattle.output_file.specs.Names.{shifted, file_at, is_some_file, moved, TellsTaken, Changes, AreSoMany, IsShiftedBehind}

-- the file of the last name that moves does so into a free name, or into the very last one
first_moves : (old : List (Option ℕ)) (at : ℕ) → is_some_file (file_at at old) ≡ true → suc at < length old
    → (is_some_file (file_at (suc at) old) ≡ false) ⊎ (length old ≡ suc (suc at)) → moved at old ≡ take at old ++ shifted (drop at old)
first_moves [] at taken within free = let e : false ≡ true = taken in cc
first_moves (None ∷ names) zero taken within free = let e : false ≡ true = taken in cc
first_moves (Some file ∷ []) zero taken within free = let e : ⊥ = omega (arith, within) in absurd e
first_moves (Some file ∷ None ∷ names) zero taken within free = refl
first_moves (Some file ∷ Some next ∷ names) zero taken within (inl free) = let e : true ≡ false = free in cc
first_moves (Some file ∷ Some next ∷ []) zero taken within (inr last) = refl
first_moves (Some file ∷ Some next ∷ name ∷ names) zero taken within (inr last) = let e : ⊥ = omega (arith, last) in absurd e
first_moves (name ∷ names) (suc at) taken within (inl free) =
    ap (λ l. name ∷ l) (first_moves names at taken (omega (arith, within)) (inl free))
first_moves (name ∷ names) (suc at) taken within (inr last) =
    ap (λ l. name ∷ l) (first_moves names at taken (omega (arith, within)) (inr (omega (arith, last))))

-- each file before it moves into the name that became free
next_moves : (old : List (Option ℕ)) (at : ℕ) → is_some_file (file_at at old) ≡ true → suc at < length old
    → moved at (take (suc at) old ++ shifted (drop (suc at) old)) ≡ take at old ++ shifted (drop at old)
next_moves [] at taken within = let e : false ≡ true = taken in cc
next_moves (None ∷ names) zero taken within = let e : false ≡ true = taken in cc
next_moves (Some file ∷ []) zero taken within = let e : ⊥ = omega (arith, within) in absurd e
next_moves (Some file ∷ None ∷ names) zero taken within = refl
next_moves (Some file ∷ Some next ∷ names) zero taken within = refl
next_moves (name ∷ names) (suc at) taken within = ap (λ l. name ∷ l) (next_moves names at taken (omega (arith, within)))

-- so far nothing has moved, and the name at which it begins is free or the last one; or the names from here on are
-- shifted
abbrev pub IsGoing : (keep : ℕ) → (old : Option (List (Option ℕ))) → (at : ℕ) → (now : Option (List (Option ℕ))) → Type 0
IsGoing keep None at now = ⊤
IsGoing keep (Some old) at None = ⊥
IsGoing keep (Some old) at (Some now) =
    (at ≤ keep) × (length old ≡ keep + 1) × ((j : ℕ) → j < at → true ≡ is_some_file (file_at j old))
    × (((now ≡ old) × ((is_some_file (file_at at old) ≡ false) ⊎ (at ≡ keep))) ⊎ (now ≡ take at old ++ shifted (drop at old)))

below_or_at : (a b : ℕ) → a ≤ b → (a < b) ⊎ (a ≡ b)
below_or_at zero zero within = inr refl
below_or_at zero (suc b) within = inl (omega arith)
below_or_at (suc a) zero within = let e : ⊥ = omega (arith, within) in absurd e
below_or_at (suc a) (suc b) within = elim (below_or_at a b (omega (arith, within))) [ inl below ↦ inl (omega (arith, below)) | inr same ↦ inr (omega (arith, same)) ]

free_or_last : (keep free : ℕ) (old : List (Option ℕ)) → free ≤ keep → (free < keep → false ≡ is_some_file (file_at free old)) → (is_some_file (file_at free old) ≡ false) ⊎ (free ≡ keep)
free_or_last keep free old within tells = elim (below_or_at free keep within) [ inl below ↦ inl (sym (tells below)) | inr same ↦ inr same ]

-- it begins at the first name that is free, or at the last one
pub begins : (keep free : ℕ) (names : Option (List (Option ℕ))) → free ≤ keep → AreSoMany (keep + 1) names → ((j : ℕ) → j < free → TellsTaken names j true) → (free < keep → TellsTaken names free false)
    → IsGoing keep names free names
begins keep free None within many taken tells = tt
begins keep free (Some old) within many taken tells = (within, many, taken, inl (refl, free_or_last keep free old within tells))

last_is : (keep n : ℕ) (old : List (Option ℕ)) → length old ≡ keep + 1 → (is_some_file (file_at (suc n) old) ≡ false) ⊎ (suc n ≡ keep) → (is_some_file (file_at (suc n) old) ≡ false) ⊎ (length old ≡ suc (suc n))
last_is keep n old many (inl free) = inl free
last_is keep n old many (inr last) = inr (omega (arith, many, last))

moves : (keep n : ℕ) (old now : List (Option ℕ)) → length old ≡ keep + 1 → is_some_file (file_at n old) ≡ true → suc n < length old
    → ((now ≡ old) × ((is_some_file (file_at (suc n) old) ≡ false) ⊎ (suc n ≡ keep))) ⊎ (now ≡ take (suc n) old ++ shifted (drop (suc n) old))
    → moved n now ≡ take n old ++ shifted (drop n old)
moves keep n old now many taken within (inl begun) = ap (moved n) begun.0 ∙ first_moves old n taken within (last_is keep n old many begun.1)
moves keep n old now many taken within (inr going) = ap (moved n) going ∙ next_moves old n taken within

-- one file more has moved
pub goes_on : (keep n : ℕ) (old now new : Option (List (Option ℕ))) → IsGoing keep old (suc n) now → Changes (moved n) now new → IsGoing keep old n new
goes_on keep n None now new going change = tt
goes_on keep n (Some old) None new going change = absurd going
goes_on keep n (Some old) (Some now) None going change = absurd change
goes_on keep n (Some old) (Some now) (Some new) going change =
    let within : suc n < length old = omega (arith, going.0, going.1) in
    (omega (arith, going.0), going.1, λ j h. going.2 j (omega (arith, h)), inr (change ∙ moves keep n old now going.1 (sym (going.2 n (omega arith))) within going.3))

free_first : (names : List (Option ℕ)) → is_some_file (file_at 0 names) ≡ false → names ≡ shifted names
free_first [] free = refl
free_first (None ∷ names) free = refl
free_first (Some file ∷ names) free = let e : true ≡ false = free in cc

-- all have moved
pub ends : (keep : ℕ) (old now : Option (List (Option ℕ))) → 0 < keep → IsGoing keep old 0 now → Changes shifted old now
ends keep None now some going = tt
ends keep (Some old) None some going = absurd going
ends keep (Some old) (Some now) some going = elim (going.3) [
  | inl begun ↦ begun.0 ∙ elim (begun.1) [ inl free ↦ free_first old free | inr last ↦ (let e : ⊥ = omega (arith, some, last) in absurd e) ]
  | inr all ↦ all
]

nothing_moved : (names : List (Option ℕ)) → names ≡ take (length names) names ++ shifted (drop (length names) names)
nothing_moved [] = refl
nothing_moved (name ∷ names) = ap (λ l. name ∷ l) (nothing_moved names)

-- a name can't be told or changed
pub stays : (names : Option (List (Option ℕ))) → IsShiftedBehind names names
stays None = (0, tt)
stays (Some names) = (length names, nothing_moved names)

stopped : (keep at : ℕ) (old now new : List (Option ℕ)) → ((now ≡ old) × ((is_some_file (file_at at old) ≡ false) ⊎ (at ≡ keep))) ⊎ (now ≡ take at old ++ shifted (drop at old)) → new ≡ now
    → IsShiftedBehind (Some old) (Some new)
stopped keep at old now new (inl begun) same = (length old, same ∙ begun.0 ∙ nothing_moved old)
stopped keep at old now new (inr going) same = (at, same ∙ going)

pub stops : (keep at : ℕ) (old now new : Option (List (Option ℕ))) → IsGoing keep old at now → Changes (λ same. same) now new → IsShiftedBehind old new
stops keep at None now new going same = (0, tt)
stops keep at (Some old) None new going same = absurd going
stops keep at (Some old) (Some now) None going same = absurd same
stops keep at (Some old) (Some now) (Some new) going same = stopped keep at old now new going.3 same

-- what holds in any case does so at an error
pub at_error : {A E P : Type 0} (answer : Result A E) → P → OnErr answer P
at_error (Ok done) p = tt
at_error (Err error) p = p
