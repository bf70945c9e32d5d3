-- Traces that are looked at one after the other give the first that differ.
-- For the contract of `first_differing`.
use Rattle.std.proofs.Common.{◌≡◌, ◌∙◌, ◌<◌, ◌≤◌, ◌+◌, min, ℕ, Bool, true, false, cond, ◌&&◌, List, [], ◌∷◌, ◌++◌, map, fold, length, take, nat_lt, refl, sym, ap, append_assoc, append-nil, length-append, arith}
use Rattle.std.proofs.lemmas.Bool.Decides.{nat_tests}
use Rattle.std.proofs.lemmas.List.{length-map, length-take, map-append, take_all, take-append-le}
use Rattle.std.proofs.lemmas.List.Elements.{filter-append}
use Rattle.std.specs.Prelude.{filter, is_none}
use Rattle.std.specs.Map.{keys_of}
use Rattle.span_ids.specs.declared.ids.TraceId.{TraceId}
use Rattle.run_comparison.specs.Ends.{Traces, end_of}
use Rattle.run_comparison.specs.declared.differing.Differing.{Differing}
use Rattle.run_comparison.specs.Overlaps.{differs, ended_in_new, first_differing, fold_differing, fold_new_differing, trace_kept_by, traces_of_both, with_differing, with_ends}

module _ {X Y : Type 0} (f : X → Y) (p : X → Bool) (n : ℕ) where
  -- the first n that pass, as f tells them
  abbrev first_of : List X → List Y
  first_of xs = map f (take n (filter p xs))

  -- one that passes, where there is room
  abbrev with_one : List Y → X → List Y
  with_one found x = cond (nat_lt (length found) n && p x) (found ++ f x ∷ []) found

  long : (xs : List X) → length (map f (take n xs)) ≡ min n (length xs)
  long xs = length-map (take n xs) f ∙ length-take n xs

  room : (xs : List X) (x : X) → length xs < n → map f (take n xs) ++ f x ∷ [] ≡ map f (take n (xs ++ x ∷ []))
  room xs x l =
      let all : take n xs ≡ xs = take_all n xs (omega (arith, l)) in
      let more : take n (xs ++ x ∷ []) ≡ xs ++ x ∷ [] = take_all n (xs ++ x ∷ []) (grind (arith, length-append)) in
      ap (λ (ys : List X). map f ys ++ f x ∷ []) all ∙ sym (map-append f xs (x ∷ [])) ∙ ap (map f) (sym more)

  full : (xs : List X) (x : X) → n ≤ length xs → map f (take n xs) ≡ map f (take n (xs ++ x ∷ []))
  full xs x l = ap (map f) (sym (take-append-le n xs (x ∷ []) l))

  one-more : (xs : List X) (x : X) → with_one (map f (take n xs)) x ≡ map f (take n (xs ++ filter p (x ∷ [])))
  one-more xs x = (elim (p x) as (λ b. cond (nat_lt (length (map f (take n xs))) n && b) (map f (take n xs) ++ f x ∷ []) (map f (take n xs)) ≡ map f (take n (xs ++ cond b (x ∷ []) []))) [
    | true ↦ (elim (nat_lt (length (map f (take n xs))) n) as (λ b. nat_lt (length (map f (take n xs))) n ≡ b → cond (b && true) (map f (take n xs) ++ f x ∷ []) (map f (take n xs)) ≡ map f (take n (xs ++ x ∷ []))) [
      | true ↦ λ e. let few : length (map f (take n xs)) < n = grind (arith, nat_tests) in room xs x (omega (arith, few, long xs))
      | false ↦ λ e. let many : n ≤ length (map f (take n xs)) = grind (arith, nat_tests) in full xs x (omega (arith, many, long xs))
    ]) refl
    | false ↦ (elim (nat_lt (length (map f (take n xs))) n) as (λ b. cond (b && false) (map f (take n xs) ++ f x ∷ []) (map f (take n xs)) ≡ map f (take n (xs ++ []))) [
      | true ↦ ap (λ (ys : List X). map f (take n ys)) (sym (append-nil xs))
      | false ↦ ap (λ (ys : List X). map f (take n ys)) (sym (append-nil xs))
    ])
  ])

  all : (xs ys : List X) → fold with_one (first_of xs) ys ≡ first_of (xs ++ ys)
  all xs [] = ap first_of (sym (append-nil xs))
  all xs (y ∷ ys) =
      ap (λ found. fold with_one found ys) (one-more (filter p xs) y ∙ ap (λ (zs : List X). map f (take n zs)) (sym (filter-append p xs (y ∷ []))))
      ∙ all (xs ++ y ∷ []) ys ∙ ap first_of (append_assoc xs (y ∷ []) ys)

in-a-row : {A B : Type 0} (g : B → A → B) (b : B) (xs ys : List A) → fold g (fold g b xs) ys ≡ fold g b (xs ++ ys)
in-a-row g b [] ys = refl
in-a-row g b (x ∷ xs) ys = in-a-row g (g b x) xs ys

-- those that haven't ended in the old run are looked at, one after the other
of-new : (old new : Traces) (found : List Differing) (traces : List TraceId) → fold_new_differing old new found traces ≡ fold_differing old new found (ended_in_new old traces)
of-new old new found [] = refl
of-new old new found (t ∷ ts) = (elim (is_none (end_of old.ends t)) as (λ b. fold_new_differing old new (cond b (with_differing old new found t) found) ts ≡ fold_differing old new found (cond b (t ∷ ended_in_new old ts) (ended_in_new old ts))) [
  | true ↦ of-new old new (with_differing old new found t) ts
  | false ↦ of-new old new found ts
])

pub all_differing : (old new : Traces) → fold_new_differing old new (fold_differing old new [] (keys_of old.ends)) (keys_of new.ends) ≡ first_differing old new
all_differing old new =
    of-new old new (fold_differing old new [] (keys_of old.ends)) (keys_of new.ends)
    ∙ in-a-row (with_differing old new) [] (keys_of old.ends) (ended_in_new old (keys_of new.ends))
    ∙ all (with_ends old new) (λ trace. differs (trace_kept_by old new trace)) 100 [] (traces_of_both old new)
