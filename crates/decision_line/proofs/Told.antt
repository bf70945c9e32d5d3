-- What is appended piece by piece is what the definitions say.
-- For the contracts of `quoted`, `put_decider`, `put_policy`, `append_decided` and `append_evicted`.
use Rattle.std.proofs.Common.{◌≡◌, ◌++◌, ◌∷◌, ◌∙◌, ℕ, List, [], Bool, true, false, ap, fold, refl, subst, sym, append_assoc, append-nil, nat_lt}
use Rattle.std.specs.Prelude.{Option, Some, None, Result, codes, cond, option_and_then, slice_get}
use Rattle.json.specs.Json.{Items, array, number, object, string}
use Rattle.json.specs.Print.{ends, escape, escape_byte, print, print_from, quoted, separator}
use Rattle.json.specs.Token.{Token}
use Rattle.json.specs.Tree.{items_tokens, json_tokens}
use Rattle.json.proofs.Printed.Tokens.{print_from_push}
use Rattle.decision_line.specs.Appending.{Appends}
use Rattle.decision_line.specs.Line.{decider_value, line_of, members_of, name_or_null}
use Rattle.decision_line.proofs.Appended.{appends-as}

-- ---- strings

-- what a writer wrote of one string alone
pub quoted-alone : (s before : List ℕ) (tokens : List Token) → before ≡ [] → tokens ≡ Token.string s ∷ [] → before ++ print tokens ≡ quoted s
unfolding print_from
quoted-alone s before tokens none one = rw (none, one) (append-nil (quoted s))

-- a name, or null
pub null-told : print (json_tokens (name_or_null None)) ≡ codes "null"
unfolding print_from
null-told = refl

pub name-told : (name : List ℕ) → print (json_tokens (name_or_null (Some name))) ≡ quoted name
unfolding print_from
name-told name = append-nil (quoted name)

-- the policy that decided
pub decider-told : (names : List (List ℕ)) (decider : Option ℕ) (place : ℕ) (name : List ℕ) → decider ≡ Some place → slice_get names place ≡ Some name
    → codes ",\"policy\":\"" ++ (escape name ++ codes "\"") ≡ codes ",\"policy\":" ++ print (json_tokens (decider_value names decider))
decider-told names decider place name is found =
    let chosen : option_and_then (λ p. slice_get names p) decider ≡ Some name = ap (λ d. option_and_then (λ p. slice_get names p) d) is ∙ found in
    ap (λ (n : List ℕ). codes ",\"policy\":" ++ n) (sym (name-told name)) ∙ ap (λ d. codes ",\"policy\":" ++ print (json_tokens (name_or_null d))) (sym chosen)

pub no-decider-told : (names : List (List ℕ)) (decider : Option ℕ) → option_and_then (λ p. slice_get names p) decider ≡ None
    → codes ",\"policy\":null" ≡ codes ",\"policy\":" ++ print (json_tokens (decider_value names decider))
no-decider-told names decider none =
    ap (λ (n : List ℕ). codes ",\"policy\":" ++ n) (sym null-told) ∙ ap (λ d. codes ",\"policy\":" ++ print (json_tokens (name_or_null d))) (sym none)

-- ---- a policy

-- how the object of a policy begins: behind a comma, but for the first one
abbrev pub opening : (later : Bool) → List ℕ
opening later = cond later (codes ",{\"name\":\"") (codes "{\"name\":\"")

policy-pieces : (k name q k2 word e : List ℕ) → k ++ (name ++ ((q ++ k2) ++ (word ++ (q ++ e)))) ≡ k ++ ((name ++ q) ++ (k2 ++ ((word ++ q) ++ e)))
policy-pieces k name q k2 word e = simp append_assoc

pub policy-told : (later : Bool) (name word : List ℕ) → escape word ≡ word
    → opening later ++ (escape name ++ (codes "\",\"said\":\"" ++ (word ++ codes "\"}")))
    ≡ print_from later (json_tokens (object (members_of ((codes "name", string name) ∷ (codes "said", string word) ∷ []))))
unfolding print_from escape_byte
policy-told true name word plain =
    policy-pieces (codes ",{\"name\":\"") (escape name) (codes "\"") (codes ",\"said\":\"") word (codes "}")
    ∙ ap (λ (w : List ℕ). codes ",{\"name\":\"" ++ ((escape name ++ codes "\"") ++ (codes ",\"said\":\"" ++ ((w ++ codes "\"") ++ codes "}")))) (sym plain)
policy-told false name word plain =
    policy-pieces (codes "{\"name\":\"") (escape name) (codes "\"") (codes ",\"said\":\"") word (codes "}")
    ∙ ap (λ (w : List ℕ). codes "{\"name\":\"" ++ ((escape name ++ codes "\"") ++ (codes ",\"said\":\"" ++ ((w ++ codes "\"") ++ codes "}")))) (sym plain)

pub policy-appended : {E : Type 0} (result : Result (Unit {0}) E) (old new before name word after : List ℕ) (place : ℕ) (later : Bool)
    → before ≡ opening later → after ≡ codes "\",\"said\":\"" ++ (word ++ codes "\"}") → nat_lt 0 place ≡ later → escape word ≡ word
    → Appends result old new (before ++ (escape name ++ after))
    → Appends result old new (print_from (nat_lt 0 place) (json_tokens (object (members_of ((codes "name", string name) ∷ (codes "said", string word) ∷ [])))))
policy-appended result old new before name word after place later is-before is-after is-later plain h =
    appends-as result old new _ _
    (ap (λ (b : List ℕ). b ++ (escape name ++ after)) is-before ∙ ap (λ (a : List ℕ). opening later ++ (escape name ++ a)) is-after
    ∙ policy-told later name word plain
    ∙ ap (λ (b : Bool). print_from b (json_tokens (object (members_of ((codes "name", string name) ∷ (codes "said", string word) ∷ []))))) (sym is-later)) h

-- ---- an evicted trace

evicted-pieces : (k1 id q k2 moment k3 spans e feed : List ℕ)
    → (k1 ++ id) ++ (((q ++ k2) ++ moment) ++ ((k3 ++ spans) ++ (e ++ feed))) ≡ (k1 ++ ((id ++ q) ++ (k2 ++ (moment ++ (k3 ++ (spans ++ e)))))) ++ feed
evicted-pieces k1 id q k2 moment k3 spans e feed = simp append_assoc

pub evicted-told : (id moment spans : List ℕ)
    → (codes "{\"traceId\":\"" ++ escape id) ++ ((codes "\",\"moment\":" ++ moment) ++ ((codes ",\"verdict\":\"evicted\",\"spans\":" ++ spans) ++ codes "}\n"))
    ≡ line_of (object (members_of ((codes "traceId", string id) ∷ (codes "moment", number moment) ∷ (codes "verdict", string (codes "evicted")) ∷ (codes "spans", number spans) ∷ [])))
unfolding print_from escape_byte
evicted-told id moment spans =
    evicted-pieces (codes "{\"traceId\":\"") (escape id) (codes "\"") (codes ",\"moment\":") moment (codes ",\"verdict\":\"evicted\",\"spans\":") spans (codes "}") (codes "\n")

-- ---- late spans

late-pieces : (k1 id q k2 moment k3 verdict k4 spans e feed : List ℕ)
    → (k1 ++ id) ++ (((q ++ k2) ++ moment) ++ ((k3 ++ (verdict ++ q)) ++ ((k4 ++ spans) ++ (e ++ feed))))
    ≡ (k1 ++ ((id ++ q) ++ (k2 ++ (moment ++ (k3 ++ ((verdict ++ q) ++ (k4 ++ (spans ++ e)))))))) ++ feed
late-pieces k1 id q k2 moment k3 verdict k4 spans e feed = simp append_assoc

pub late-told : (id moment verdict spans : List ℕ) → escape verdict ≡ verdict
    → (codes "{\"traceId\":\"" ++ escape id) ++ ((codes "\",\"moment\":" ++ moment) ++ ((codes ",\"verdict\":\"" ++ (verdict ++ codes "\"")) ++ ((codes ",\"by\":\"late\",\"spans\":" ++ spans) ++ codes "}\n")))
    ≡ line_of (object (members_of ((codes "traceId", string id) ∷ (codes "moment", number moment) ∷ (codes "verdict", string verdict) ∷ (codes "by", string (codes "late")) ∷ (codes "spans", number spans) ∷ [])))
unfolding print_from escape_byte
late-told id moment verdict spans plain =
    late-pieces (codes "{\"traceId\":\"") (escape id) (codes "\"") (codes ",\"moment\":") moment (codes ",\"verdict\":\"") verdict (codes ",\"by\":\"late\",\"spans\":") spans (codes "}") (codes "\n")
    ∙ ap (λ (v : List ℕ). (codes "{\"traceId\":\"" ++ ((escape id ++ codes "\"") ++ (codes ",\"moment\":" ++ (moment ++ (codes ",\"verdict\":\"" ++ ((v ++ codes "\"") ++ (codes ",\"by\":\"late\",\"spans\":" ++ (spans ++ codes "}")))))))) ++ codes "\n") (sym plain)

-- ---- a decided trace

decided-pieces : (k1 id q k2 moment k3 verdict k4 policy k5 cause k6 spans k7 waited k8 items e feed : List ℕ)
    → (k1 ++ id) ++ (((q ++ k2) ++ moment) ++ ((k3 ++ (verdict ++ q)) ++ ((k4 ++ policy) ++ (((k5 ++ (cause ++ (q ++ k6))) ++ spans) ++ ((k7 ++ waited) ++ (k8 ++ (items ++ (e ++ feed))))))))
    ≡ (k1 ++ ((id ++ q) ++ (k2 ++ (moment ++ (k3 ++ ((verdict ++ q) ++ (k4 ++ (policy ++ (k5 ++ ((cause ++ q) ++ (k6 ++ (spans ++ (k7 ++ (waited ++ (k8 ++ (items ++ e)))))))))))))))) ++ feed
decided-pieces k1 id q k2 moment k3 verdict k4 policy k5 cause k6 spans k7 waited k8 items e feed = simp append_assoc

-- no comma stands before the end of an object
no-comma : (after_value : Bool) → separator after_value Token.end_object ≡ []
no-comma true = refl
no-comma false = refl

closed : (tokens : List Token) → print_from false (tokens ++ Token.end_object ∷ []) ≡ print_from false tokens ++ codes "}"
closed tokens =
    print_from_push false tokens Token.end_object
    ∙ ap (λ (comma : List ℕ). print_from false tokens ++ (comma ++ codes "}")) (no-comma (fold (λ _ t. ends t) false tokens))

-- the object of a decided trace, with the texts of its strings, and of what stands behind the bracket of the policies
abbrev object_text : (id moment verdict policy cause spans waited rest : List ℕ) → List ℕ
object_text id moment verdict policy cause spans waited rest =
    codes "{\"traceId\":\"" ++ ((id ++ codes "\"") ++ (codes ",\"moment\":" ++ (moment ++ (codes ",\"verdict\":\"" ++ ((verdict ++ codes "\"") ++ (codes ",\"policy\":" ++ (policy
    ++ (codes ",\"by\":\"" ++ ((cause ++ codes "\"") ++ (codes ",\"spans\":" ++ (spans ++ (codes ",\"waitedMs\":" ++ (waited ++ (codes ",\"policies\":[" ++ rest))))))))))))))

pub decided-told : (id moment verdict : List ℕ) (decider : Option (List ℕ)) (cause spans waited : List ℕ) (items : Items)
    → escape verdict ≡ verdict → escape cause ≡ cause
    → (codes "{\"traceId\":\"" ++ escape id) ++ ((codes "\",\"moment\":" ++ moment) ++ ((codes ",\"verdict\":\"" ++ (verdict ++ codes "\"")) ++ ((codes ",\"policy\":" ++ print (json_tokens (name_or_null decider)))
    ++ (((codes ",\"by\":\"" ++ (cause ++ codes "\",\"spans\":")) ++ spans) ++ ((codes ",\"waitedMs\":" ++ waited) ++ (codes ",\"policies\":[" ++ (print_from false (items_tokens items) ++ codes "}\n")))))))
    ≡ line_of (object (members_of
    ((codes "traceId", string id) ∷ (codes "moment", number moment) ∷ (codes "verdict", string verdict) ∷ (codes "policy", name_or_null decider)
    ∷ (codes "by", string cause) ∷ (codes "spans", number spans) ∷ (codes "waitedMs", number waited) ∷ (codes "policies", array items) ∷ [])))
unfolding print_from escape_byte
decided-told id moment verdict None cause spans waited items verdict-plain cause-plain =
    decided-pieces (codes "{\"traceId\":\"") (escape id) (codes "\"") (codes ",\"moment\":") moment (codes ",\"verdict\":\"") verdict (codes ",\"policy\":") (codes "null")
    (codes ",\"by\":\"") cause (codes ",\"spans\":") spans (codes ",\"waitedMs\":") waited (codes ",\"policies\":[") (print_from false (items_tokens items)) (codes "}") (codes "\n")
    ∙ (λ i. object_text (escape id) moment (sym verdict-plain i) (codes "null") (sym cause-plain i) spans waited (sym (closed (items_tokens items)) i) ++ codes "\n")
decided-told id moment verdict (Some name) cause spans waited items verdict-plain cause-plain =
    decided-pieces (codes "{\"traceId\":\"") (escape id) (codes "\"") (codes ",\"moment\":") moment (codes ",\"verdict\":\"") verdict (codes ",\"policy\":") (quoted name ++ [])
    (codes ",\"by\":\"") cause (codes ",\"spans\":") spans (codes ",\"waitedMs\":") waited (codes ",\"policies\":[") (print_from false (items_tokens items)) (codes "}") (codes "\n")
    ∙ (λ i. object_text (escape id) moment (sym verdict-plain i) (append-nil (quoted name) i) (sym cause-plain i) spans waited (sym (closed (items_tokens items)) i) ++ codes "\n")
