-- What the loops of the writer have appended.
-- For writing::put_answers and writing::put_parts.
use Rattle.std.proofs.Common.{◌≡◌, ℕ, ◌≤◌, Bool, List, [], ◌∷◌, ◌++◌, length, take, map, refl, sym, ◌∙◌, ap, arith, append_assoc}
use Rattle.std.specs.Prelude.{flat_map}
use Rattle.std.proofs.lemmas.List.{take_all}
use Rattle.journal_entry.specs.Bytes.{bit, bytes_of_answers, bytes_of_decisions, bytes_with}

as_bits : (answers : List Bool) → map bit answers ++ 2 ∷ [] ≡ bytes_of_answers answers
as_bits [] = refl
as_bits (b ∷ answers) = ap (λ (l : List ℕ). bit b ∷ l) (as_bits answers)

as_answers : (ds : List (List Bool)) → flat_map bytes_of_answers ds ++ 3 ∷ [] ≡ bytes_of_decisions ds
as_answers [] = refl
as_answers (a ∷ ds) = append_assoc (bytes_of_answers a) (flat_map bytes_of_answers ds) (3 ∷ []) ∙ ap (λ (l : List ℕ). bytes_of_answers a ++ l) (as_answers ds)

pub answers_put : (out now : List ℕ) (answers : List Bool) (n : ℕ) → now ≡ out ++ map bit (take n answers) → length answers ≤ n → now ++ 2 ∷ [] ≡ out ++ bytes_of_answers answers
answers_put out now answers n known all =
    ap (λ (l : List ℕ). l ++ 2 ∷ []) (known ∙ ap (λ (a : List Bool). out ++ map bit a) (take_all n answers all))
    ∙ append_assoc out (map bit answers) (2 ∷ [])
    ∙ ap (λ (l : List ℕ). out ++ l) (as_bits answers)

pub parts_put : (out now item : List ℕ) (refused lost : Bool) (ds : List (List Bool)) (n : ℕ)
    → now ≡ (out ++ 1 ∷ bit refused ∷ bit lost ∷ []) ++ flat_map bytes_of_answers (take n ds) → length ds ≤ n
    → (now ++ 3 ∷ []) ++ item ≡ out ++ bytes_with refused lost ds item
parts_put out now item refused lost ds n known all =
    let head : List ℕ = 1 ∷ bit refused ∷ bit lost ∷ [] in
    ap (λ (l : List ℕ). (l ++ 3 ∷ []) ++ item) (known ∙ ap (λ (d : List (List Bool)). (out ++ head) ++ flat_map bytes_of_answers d) (take_all n ds all))
    ∙ ap (λ (l : List ℕ). l ++ item) (append_assoc (out ++ head) (flat_map bytes_of_answers ds) (3 ∷ []) ∙ ap (λ (l : List ℕ). (out ++ head) ++ l) (as_answers ds))
    ∙ append_assoc (out ++ head) (bytes_of_decisions ds) item
    ∙ append_assoc out head (bytes_of_decisions ds ++ item)
