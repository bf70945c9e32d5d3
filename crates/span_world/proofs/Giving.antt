-- Answers go to the last entry of a journal.
-- Serves the clauses `journal` and `err` of `give`.
use Rattle.std.proofs.Common.{◌≡◌, ℕ, zero, suc, ◌<◌, ◌-◌, Bool, List, [], ◌∷◌, ◌++◌, length, reverse, take, get_or, slice_get, slice_set, Some, refl, sym, ap, ◌∙◌, arith}
use Rattle.std.proofs.lemmas.List.{reverse-append, length-append, set-set}
use Rattle.std.proofs.Math.Seq.{take-append_seam}
use Rattle.journal_theory.specs.Journal.{Entry, answered}
use Rattle.world_theory.proofs.Routing.{put_back}

-- a list by its last element
record Last (xs : List Entry) (i : ℕ) (e : Entry) : Type 0 where
  front : List Entry
  is : xs ≡ front ++ e ∷ []
  set : (x : Entry) → slice_set xs i x ≡ front ++ x ∷ []

last : (xs : List Entry) (i : ℕ) (e : Entry) → slice_get xs i ≡ Some e → length xs ≡ suc i → Last xs i e
last [] i e g l = absurd (cc g)
last (y ∷ []) zero e g l = let same : y ≡ e = cc g in record { front = []; is = ap (λ (z : Entry). z ∷ []) same; set = λ x. refl }
last (y ∷ z ∷ xs) zero e g l = absurd (omega (arith, l))
last (y ∷ xs) (suc i) e g l = let k = last xs i e g (omega (arith, l)) in record { front = y ∷ k.front; is = ap (λ (zs : List Entry). y ∷ zs) k.is; set = λ x. ap (λ (zs : List Entry). y ∷ zs) (k.set x) }

pub answers_last : (xs : List Entry) (i : ℕ) (e new : Entry) (answers : List Bool) → slice_get xs i ≡ Some e → length xs ≡ suc i → new ≡ record e { answers = e.answers ++ answers ∷ [] } → reverse (slice_set xs i new) ≡ answered (reverse xs) answers
answers_last xs i e new answers g l n =
    let k = last xs i e g l in
    ap reverse (k.set new) ∙ reverse-append k.front (new ∷ []) ∙ ap (λ (x : Entry). x ∷ reverse k.front) n
    ∙ sym (ap (λ (zs : List Entry). answered (reverse zs) answers) k.is ∙ ap (λ (zs : List Entry). answered zs answers) (reverse-append k.front (e ∷ [])))

read_set : (xs : List Entry) (i : ℕ) (x y : Entry) → i < length xs → y ≡ get_or (slice_set xs i x) i y → y ≡ x
read_set [] i x y l e = absurd (omega (arith, l))
read_set (z ∷ xs) zero x y l e = e
read_set (z ∷ xs) (suc i) x y l e = read_set xs i x y (omega (arith, l)) e

pub answers_back : (xs : List Entry) (i : ℕ) (e new again back : Entry) (answers : List Bool) → slice_get xs i ≡ Some e → length xs ≡ suc i → new ≡ record e { answers = e.answers ++ answers ∷ [] }
    → again ≡ get_or (slice_set xs i new) i again → back ≡ record again { answers = take (length again.answers - 1) again.answers } → slice_set (slice_set xs i new) i back ≡ xs
answers_back xs i e new again back answers g l n r b =
    let same : again ≡ record e { answers = e.answers ++ answers ∷ [] } = read_set xs i new again (omega (arith, l)) r ∙ n in
    let shorter : length (e.answers ++ answers ∷ []) - 1 ≡ length e.answers = (let k = length-append e.answers (answers ∷ []) in omega (arith, k)) in
    let restored : back ≡ e = b ∙ ap (λ (x : Entry). record x { answers = take (length x.answers - 1) x.answers }) same ∙ ap (λ (given : List (List Bool)). record e { answers = given }) (ap (λ (k : ℕ). take k (e.answers ++ answers ∷ [])) shorter ∙ take-append_seam e.answers (answers ∷ [])) in
    set-set xs i new back ∙ ap (slice_set xs i) restored ∙ put_back xs i e g
