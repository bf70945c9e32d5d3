-- Values of what runs show, by their models. For the contracts of `put_comparison` and `json_of`.
use Rattle.std.proofs.Common.{◌≡◌, ◌++◌, ◌∷◌, ◌∙◌, List, [], ap, map, refl}
use Rattle.json.specs.Json.{Json, array, item}
use Rattle.json.specs.Print.{print}
use Rattle.json.specs.Token.{Token}
use Rattle.json.specs.Tree.{json_tokens}
use Rattle.std.specs.Prelude.{ℕ}
use Rattle.comparison_text.specs.Value.{array_of, items_of}

-- what is made of two, by another spelling of both
pub at-both : {A B C : Type 0} (made : A → B → C) (a other_a : A) (b other_b : B) → a ≡ other_a → b ≡ other_b → made a b ≡ made other_a other_b
at-both made a other_a b other_b e f = ap (λ x. made x b) e ∙ ap (λ y. made other_a y) f

items-seen : {A B : Type 0} (value : B → Json) (seen : A → B) (rows : List A) → items_of (map (λ row. value (seen row)) rows) ≡ items_of (map value (map seen rows))
items-seen value seen [] = refl
items-seen value seen (row ∷ rows) = ap (item (value (seen row))) (items-seen value seen rows)

-- an array of the values of rows, by what is seen of them
pub array-seen : {A B : Type 0} (value : B → Json) (seen : A → B) (rows : List A) (all : List B) → map seen rows ≡ all → array_of (λ row. value (seen row)) rows ≡ array_of value all
array-seen value seen rows all e = ap array (items-seen value seen rows) ∙ ap (array_of value) e

-- a value that was written behind nothing
pub text-alone : (text before : List ℕ) (tokens : List Token) (value : Json) → text ≡ before ++ print tokens → before ≡ [] → tokens ≡ json_tokens value → text ≡ print (json_tokens value)
text-alone text before tokens value h b t = h ∙ ap (λ (bs : List ℕ). bs ++ print tokens) b ∙ ap print t
