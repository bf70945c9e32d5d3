-- What the pushes of a text leave.
-- For the clauses of `push_zeros` and `push_number`.
use Rattle.std.proofs.Common.{◌≡◌, ℕ, ◌+◌, ◌<◌, ◌≤◌, List, [], ◌∷◌, ◌++◌, length, replicate, ap, ◌∙◌, arith, append_assoc}
use Rattle.std.proofs.lemmas.Fmt.{length-decimal-le}
use Rattle.std.proofs.lemmas.List.{replicate-append-replicate}
use Rattle.std.specs.Fmt.{decimal}

pub short_decimal : (n : ℕ) → n < 1000 → length (decimal n) ≤ 3
short_decimal n h = length-decimal-le 3 n (omega arith) (omega arith) (omega arith)

pub one_more : (old : List ℕ) (i : ℕ) → (old ++ replicate i 48) ++ 48 ∷ [] ≡ old ++ replicate (i + 1) 48
one_more old i = append_assoc old (replicate i 48) (48 ∷ []) ∙ ap (λ l. old ++ l) (replicate-append-replicate i 1 48)
