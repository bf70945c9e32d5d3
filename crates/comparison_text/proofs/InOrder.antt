-- The items of an array, written one after the other. For the contracts of `put_numbers`, `put_policies`, `put_services` and `put_differing`.
use Rattle.std.proofs.Common.{◌≡◌, ◌<◌, ◌≤◌, ◌+◌, ◌++◌, ◌∷◌, ◌∙◌, ℕ, suc, List, ap, arith, subst, sym, append_assoc, drop, drop-cons, get_or, length, map}
use Rattle.std.proofs.lemmas.List.{drop_all, get_or_default}
use Rattle.std.specs.Prelude.{Err, Ok, Result}
use Rattle.json.specs.Json.{Items, Json}
use Rattle.json.specs.Token.{Token, end_array}
use Rattle.json.specs.Tree.{HasNumbers, ItemsHaveNumbers, items_tokens, json_tokens}
use Rattle.json.specs.Written.{Written, Writes}
use Rattle.comparison_text.specs.Value.{items_of}
use Rattle.comparison_text.proofs.Appended.{PutsItems}

-- the items from a place on
abbrev pub items_from : {A : Type 0} → (value : A → Json) → List A → (place : ℕ) → Items
items_from value these place = items_of (map value (drop place these))

-- those before a place were written behind what was there: with what is left they are the whole; and all numbers are numbers, where those that are left are
pub record AreWritten {A : Type 0} (value : A → Json) (these : List A) (old new : Written) (place : ℕ) : Type 0 where
  pub tokens : new.tokens ++ items_tokens (items_from value these place) ≡ old.tokens ++ items_tokens (items_from value these 0)
  pub before : new.before ≡ old.before
  pub numbers : ItemsHaveNumbers (items_from value these place) → ItemsHaveNumbers (items_from value these 0)

-- one more was written, and one less is left
pub item-next : {A : Type 0} (value : A → Json) (these : List A) (old between new : Written) (place : ℕ) (one : A) → place < length these → one ≡ get_or these place one
    → AreWritten value these old between place → (new.tokens ≡ between.tokens ++ json_tokens (value one)) × (new.before ≡ between.before) × HasNumbers (value one)
    → AreWritten value these old new (place + 1)
item-next {A} value these old between new place one some is so h =
    let next : suc place ≡ place + 1 = omega arith in
    let here : drop place these ≡ one ∷ drop (suc place) these = drop-cons these place one some ∙ ap (λ (x : A). x ∷ drop (suc place) these) (sym is) in
    subst (λ (n : ℕ). AreWritten value these old new n) next
    (record {
      tokens =
          ap (λ (ts : List Token). ts ++ items_tokens (items_from value these (suc place))) h.0
          ∙ append_assoc between.tokens (json_tokens (value one)) (items_tokens (items_from value these (suc place)))
          ∙ ap (λ (xs : List A). between.tokens ++ items_tokens (items_of (map value xs))) (sym here) ∙ so.tokens;
      before = h.1 ∙ so.before;
      numbers = λ rest. so.numbers (subst (λ (xs : List A). ItemsHaveNumbers (items_of (map value xs))) (sym here) (h.2, rest));
    })

-- the same of one that was read from the list
pub item-read : {A : Type 0} (value : A → Json) (these : List A) (old between new : Written) (place : ℕ) (d : A) → place < length these → AreWritten value these old between place
    → (new.tokens ≡ between.tokens ++ json_tokens (value (get_or these place d))) × (new.before ≡ between.before) × HasNumbers (value (get_or these place d))
    → AreWritten value these old new (place + 1)
item-read value these old between new place d some so h = item-next value these old between new place (get_or these place d) some (get_or_default these place _ _ some) so h

-- all were written, and the end of the array
pub items-end : {E A : Type 0} (result : Result (Unit {0}) E) (value : A → Json) (these : List A) (old between new : Written) (place : ℕ) → length these ≤ place
    → AreWritten value these old between place → Writes result between new end_array → PutsItems result old new (items_of (map value these))
items-end {A} (Ok done) value these old between new place past so h =
    record {
      all = (
        h.ok ∙ ap (λ (xs : List A). between.tokens ++ items_tokens (items_of (map value xs))) (sym (drop_all place these past)) ∙ so.tokens,
        h.room.0 ∙ so.before,
        so.numbers (subst (λ (xs : List A). ItemsHaveNumbers (items_of (map value xs))) (sym (drop_all place these past)) tt),
      );
    }
items-end (Err fault) value these old between new place past so h = record { all = tt }
