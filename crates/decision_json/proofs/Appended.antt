-- Tokens that are written one after the other. For the contracts of all functions that write.
use Rattle.std.proofs.Common.{◌≡◌, ◌++◌, ◌∷◌, ℕ, List, [], ap, ◌∙◌, append_assoc, refl, subst}
use Rattle.std.specs.Prelude.{Result, Ok, Err, codes, decimal}
use Rattle.json.specs.Json.{Json, object}
use Rattle.json.specs.Token.{Token, begin_object, end_object, key, number, string}
use Rattle.json.specs.Tree.{json_tokens, members_tokens}
use Rattle.json.specs.Written.{Written, Writes}
use Rattle.span_ids.specs.Id.{id_text}
use Rattle.decision_line.specs.Line.{members_of}
use Rattle.decision_json.specs.Putting.{PutsAll, begun, member_tokens}

-- one token was written
pub puts-one : {E : Type 0} (result : Result (Unit {0}) E) (old new : Written) (token : Token) → Writes result old new token → PutsAll result old new (token ∷ [])
puts-one (Ok done) old new token h = record { all = (h.ok, h.room.0) }
puts-one (Err fault) old new token h = record { all = tt }

-- some were written, and then others
pub puts-then : {E : Type 0} (result : Result (Unit {0}) E) (old between new : Written) (first second : List Token) → between.tokens ≡ old.tokens ++ first → between.before ≡ old.before
    → PutsAll result between new second → PutsAll result old new (first ++ second)
puts-then (Ok done) old between new first second e b h =
    record { all = (h.all.0 ∙ ap (λ (x : List Token). x ++ second) e ∙ append_assoc old.tokens first second, h.all.1 ∙ b) }
puts-then (Err fault) old between new first second e b h = record { all = tt }

-- a member whose value is a text, or a number, by another spelling of it; and the begin of a trace, by another one of its id
pub text-as : (old new : List Token) (name text other : List ℕ) → text ≡ other → new ≡ old ++ key name ∷ string text ∷ [] → new ≡ old ++ key name ∷ string other ∷ []
text-as old new name text other e h = h ∙ ap (λ (t : List ℕ). old ++ key name ∷ string t ∷ []) e

pub count-as : (old new : List Token) (name : List ℕ) (count other : ℕ) → count ≡ other → new ≡ old ++ key name ∷ number (decimal count) ∷ [] → new ≡ old ++ key name ∷ number (decimal other) ∷ []
count-as old new name count other e h = h ∙ ap (λ (n : ℕ). old ++ key name ∷ number (decimal n) ∷ []) e

pub trace-as : (old new : List Token) (id other : List ℕ) → id ≡ other → new ≡ old ++ begin_object ∷ key (codes "trace_id") ∷ string (id_text id) ∷ []
    → new ≡ old ++ begin_object ∷ key (codes "trace_id") ∷ string (id_text other) ∷ []
trace-as old new id other e h = h ∙ ap (λ (i : List ℕ). old ++ begin_object ∷ key (codes "trace_id") ∷ string (id_text i) ∷ []) e

-- these tokens, by another spelling of them
pub puts-as : {E : Type 0} (result : Result (Unit {0}) E) (old new : Written) (tokens other : List Token) → tokens ≡ other → PutsAll result old new tokens → PutsAll result old new other
puts-as {E} result old new tokens other e h = subst (λ (ts : List Token). PutsAll {E = E} result old new ts) e h

-- the members, and the end of their object
ended-members : (ms : List (List ℕ × Json)) → member_tokens ms ++ end_object ∷ [] ≡ members_tokens (members_of ms)
ended-members [] = refl
ended-members (m ∷ ms) = ap (λ (ts : List Token). key m.0 ∷ ts) (append_assoc (json_tokens m.1) (member_tokens ms) (end_object ∷ []) ∙ ap (λ (ts : List Token). json_tokens m.1 ++ ts) (ended-members ms))

pub ended : (ms : List (List ℕ × Json)) → begun ms ++ end_object ∷ [] ≡ json_tokens (object (members_of ms))
ended ms = ap (λ (ts : List Token). begin_object ∷ ts) (ended-members ms)

-- the members, one more, and the end of their object
ended-members-by : (ms : List (List ℕ × Json)) (name : List ℕ) (value : Json) → member_tokens ms ++ key name ∷ (json_tokens value ++ end_object ∷ []) ≡ members_tokens (members_of (ms ++ (name, value) ∷ []))
ended-members-by [] name value = refl
ended-members-by (m ∷ ms) name value =
    ap (λ (ts : List Token). key m.0 ∷ ts)
    (append_assoc (json_tokens m.1) (member_tokens ms) (key name ∷ (json_tokens value ++ end_object ∷ [])) ∙ ap (λ (ts : List Token). json_tokens m.1 ++ ts) (ended-members-by ms name value))

pub ended-by : (ms : List (List ℕ × Json)) (name : List ℕ) (value : Json) → begun ms ++ key name ∷ (json_tokens value ++ end_object ∷ []) ≡ json_tokens (object (members_of (ms ++ (name, value) ∷ [])))
ended-by ms name value = ap (λ (ts : List Token). begin_object ∷ ts) (ended-members-by ms name value)
