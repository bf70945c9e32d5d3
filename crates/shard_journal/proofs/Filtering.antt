-- A filter of a list, one element further.
-- For the contracts of `due_at_tick` and `undecided`.
use Rattle.std.proofs.Common.{◌≡◌, ℕ, ◌+◌, ◌<◌, Bool, true, false, cond, List, [], ◌∷◌, ◌++◌, length, take, filter, reverse, get_or, refl, ap, sym, ◌∙◌}
use Rattle.std.proofs.lemmas.List.{append-nil, take_more, reverse-append}
use Rattle.std.proofs.lemmas.List.Elements.{filter-append}

-- one element more
pub filter_more : {X : Type 0} (p : X → Bool) (xs : List X) (i : ℕ) (x : X) → i < length xs → x ≡ get_or xs i x → filter p (take (i + 1) xs) ≡ cond (p x) (filter p (take i xs) ++ x ∷ []) (filter p (take i xs))
filter_more {X} p xs i x l e =
    ap (filter p) (take_more xs i x l ∙ ap (λ (y : X). take i xs ++ y ∷ []) (sym e)) ∙ filter-append p (take i xs) (x ∷ []) ∙ go (p x)
  where
    go : (b : Bool) → filter p (take i xs) ++ cond b (x ∷ []) [] ≡ cond b (filter p (take i xs) ++ x ∷ []) (filter p (take i xs))
    go true = refl
    go false = append-nil (filter p (take i xs))

-- one element more, seen from the end
pub reverse_filter_more : {X : Type 0} (p : X → Bool) (xs : List X) (i : ℕ) (x : X) → i < length xs → x ≡ get_or xs i x → reverse (filter p (take (i + 1) xs)) ≡ cond (p x) (x ∷ reverse (filter p (take i xs))) (reverse (filter p (take i xs)))
reverse_filter_more {X} p xs i x l e = ap reverse (filter_more p xs i x l e) ∙ go (p x)
  where
    go : (b : Bool) → reverse (cond b (filter p (take i xs) ++ x ∷ []) (filter p (take i xs))) ≡ cond b (x ∷ reverse (filter p (take i xs))) (reverse (filter p (take i xs)))
    go true = reverse-append (filter p (take i xs)) (x ∷ [])
    go false = refl
