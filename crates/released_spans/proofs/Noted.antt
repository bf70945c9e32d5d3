-- Records that are noted one after the other.
-- For the contract of `note_policies`.
use Rattle.std.proofs.Common.{◌≡◌, ℕ, ◌<◌, zero, suc, List, [], ◌∷◌, length, Option, refl, ap, arith}
use Rattle.std.proofs.Math.ListN.{get_or, set}
use Rattle.otlp_types.specs.declared.arrival.Record.{Record}
use Rattle.released_spans.specs.Noting.{noted, noted_records}

-- the first so many records are noted
abbrev pub noted_to : ℕ → (names : List (List ℕ)) → (policies : List (Option ℕ)) → List Record → List Record
noted_to zero names policies records = records
noted_to (suc n) names [] records = records
noted_to (suc n) names (policy ∷ policies) [] = []
noted_to (suc n) names (policy ∷ policies) (rec ∷ records) = noted names policy rec ∷ noted_to n names policies records

-- one more is noted
pub noted_next : (i : ℕ) (names : List (List ℕ)) (policies : List (Option ℕ)) (records : List Record) (d : Option ℕ) (e : Record) → i < length policies → length policies ≡ length records
    → set (noted_to i names policies records) i (noted names (get_or policies i d) (get_or (noted_to i names policies records) i e)) ≡ noted_to (suc i) names policies records
noted_next zero names [] records d e below same = absurd (omega (arith, below))
noted_next zero names (policy ∷ policies) [] d e below same = absurd (omega (arith, same))
noted_next zero names (policy ∷ policies) (rec ∷ records) d e below same = refl
noted_next (suc i) names [] records d e below same = absurd (omega (arith, below))
noted_next (suc i) names (policy ∷ policies) [] d e below same = absurd (omega (arith, same))
noted_next (suc i) names (policy ∷ policies) (rec ∷ records) d e below same =
    ap (λ (z : List Record). noted names policy rec ∷ z) (noted_next i names policies records d e (omega (arith, below)) (omega (arith, same)))

-- all are noted
pub noted_all : (names : List (List ℕ)) (policies : List (Option ℕ)) (records : List Record) → length policies ≡ length records
    → noted_to (length policies) names policies records ≡ noted_records names policies records
noted_all names [] records same = refl
noted_all names (policy ∷ policies) [] same = refl
noted_all names (policy ∷ policies) (rec ∷ records) same = ap (λ (z : List Record). noted names policy rec ∷ z) (noted_all names policies records (omega (arith, same)))
