-- The policies' answers, one after the other. For the contract of `put_answers`.
use Rattle.std.proofs.Common.{◌≡◌, ◌<◌, ◌≤◌, ◌+◌, ◌++◌, ◌∷◌, ◌∙◌, ℕ, suc, List, [], ap, arith, refl, sym, append_assoc, drop, drop-cons, get_or, length}
use Rattle.std.proofs.lemmas.List.{drop-drop, drop_all, get_or-drop}
use Rattle.std.specs.Prelude.{Err, Ok, Result}
use Rattle.json.specs.Token.{Token, end_array}
use Rattle.json.specs.Tree.{items_tokens, json_tokens}
use Rattle.json.specs.Written.{Written, Writes}
use Rattle.decision_line.specs.declared.decision.Said.{Said}
use Rattle.decision_line.specs.declared.decision.Said.TheVariants.{NotAsked}
use Rattle.decision_json.specs.Putting.{PutsAll}
use Rattle.decision_json.specs.Value.{answer_items, answer_value}

first-and-others : (name : List ℕ) (names : List (List ℕ)) (said : List Said)
    → items_tokens (answer_items (name ∷ names) said) ≡ json_tokens (answer_value name (get_or said 0 NotAsked)) ++ items_tokens (answer_items names (drop 1 said))
first-and-others name names [] = refl
first-and-others name names (first ∷ said) = refl

-- from a place on
abbrev pub from_place : (names : List (List ℕ)) (said : List Said) (place : ℕ) → List Token
from_place names said place = items_tokens (answer_items (drop place names) (drop place said))

one-answer : (names : List (List ℕ)) (said : List Said) (place : ℕ) (name : List ℕ) → place < length names → name ≡ get_or names place name
    → from_place names said place ≡ json_tokens (answer_value name (get_or said place NotAsked)) ++ from_place names said (place + 1)
one-answer names said place name some is =
    let here : drop place names ≡ name ∷ drop (suc place) names = drop-cons names place name some ∙ ap (λ (n : List ℕ). n ∷ drop (suc place) names) (sym is) in
    let told : get_or (drop place said) 0 NotAsked ≡ get_or said place NotAsked = get_or-drop place said 0 NotAsked ∙ ap (λ (n : ℕ). get_or said n NotAsked) (omega arith) in
    let others : drop 1 (drop place said) ≡ drop (place + 1) said = drop-drop 1 place said in
    let next : place + 1 ≡ suc place = omega arith in
    ap (λ (ns : List (List ℕ)). items_tokens (answer_items ns (drop place said))) here
    ∙ first-and-others name (drop (suc place) names) (drop place said)
    ∙ (λ i. json_tokens (answer_value name (told i)) ++ items_tokens (answer_items (drop (sym next i) names) (others i)))

-- an answer more is there, and one less is left
pub answers-next : (names : List (List ℕ)) (said : List Said) (place : ℕ) (name : List ℕ) (text new whole : List Token) → place < length names → name ≡ get_or names place name
    → text ++ from_place names said place ≡ whole → new ≡ text ++ json_tokens (answer_value name (get_or said place NotAsked))
    → new ++ from_place names said (place + 1) ≡ whole
answers-next names said place name text new whole some is so e =
    ap (λ (x : List Token). x ++ from_place names said (place + 1)) e
    ∙ append_assoc text (json_tokens (answer_value name (get_or said place NotAsked))) (from_place names said (place + 1))
    ∙ ap (λ (x : List Token). text ++ x) (sym (one-answer names said place name some is)) ∙ so

-- all answers are there, and the end of their array
pub answers-end : {E : Type 0} (result : Result (Unit {0}) E) (names : List (List ℕ)) (said : List Said) (place : ℕ) (old text new : Written) → length names ≤ place
    → text.tokens ++ from_place names said place ≡ old.tokens ++ from_place names said 0 → text.before ≡ old.before → Writes result text new end_array
    → PutsAll result old new (from_place names said 0)
answers-end (Ok done) names said place old text new past so b h =
    record {
      all = (
        h.ok ∙ ap (λ (ns : List (List ℕ)). text.tokens ++ items_tokens (answer_items ns (drop place said))) (sym (drop_all place names past)) ∙ so,
        h.room.0 ∙ b,
      );
    }
answers-end (Err fault) names said place old text new past so b h = record { all = tt }
