-- A script grows by a line, or leaves one out.
-- For the clause of `script_of`.
use Rattle.std.proofs.Common.{◌≡◌, ◌≤◌, ◌<◌, ◌+◌, ◌++◌, ℕ, suc, Bool, true, false, List, [], ◌∷◌, length, drop, get_or, drop-cons, append_assoc, append-nil, ap, sym, ◌∙◌, subst, refl, inl, inr, arith, add-zero}
use Rattle.std.specs.Prelude.{if◌then◌else◌}
use Rattle.std.proofs.lemmas.List.{drop_all}
use Rattle.ledger_text.specs.Scripts.{IsScript}
use Rattle.ledger_text.specs.Putting.{Puts}
use Rattle.line_entries.specs.declared.came.TakenRequest.{TakenRequest}

-- what is a script of the requests from a place on makes, behind these lines, one of all
abbrev pub SoFar : (requests : List TakenRequest) → (place : ℕ) → (lines : List ℕ) → (left_out : ℕ) → Type 0
SoFar requests place lines left_out =
    (rest : List ℕ) (left : ℕ) → IsScript (drop place requests) rest left → IsScript requests (lines ++ rest) (left_out + left)

pub whole : (requests : List TakenRequest) (place : ℕ) (lines : List ℕ) (left_out : ℕ) → length requests ≤ place → SoFar requests place lines left_out → IsScript requests lines left_out
whole requests place lines left_out over h =
    let none : drop place requests ≡ [] = drop_all place requests over in
    let ends : IsScript (drop place requests) [] 0 = subst (λ r. IsScript r [] 0) (sym none) (refl, refl) in
    let all : IsScript requests (lines ++ []) (left_out + 0) = h [] 0 ends in
    subst (λ n. IsScript requests lines n) (add-zero left_out) (subst (λ t. IsScript requests t (left_out + 0)) (append-nil lines) all)

-- at most one is left out by a request
pub at_most_one : (has : Bool) (by : ℕ) → by ≡ (if has then 0 else 1) → by ≤ 1
at_most_one true by e = omega (arith, e)
at_most_one false by e = omega (arith, e)

-- those from a place on are the one there, and those behind it
pub one_then : (requests : List TakenRequest) (place : ℕ) (request : TakenRequest) → place < length requests → request ≡ get_or requests place request
    → drop place requests ≡ request ∷ drop (suc place) requests
one_then requests place request within e = drop-cons requests place request within ∙ ap (λ (r : TakenRequest). r ∷ drop (suc place) requests) (sym e)

pub next : (requests : List TakenRequest) (place : ℕ) (request : TakenRequest) (lines more : List ℕ) (left_out by : ℕ) (has : Bool)
    → drop place requests ≡ request ∷ drop (suc place) requests → by ≡ (if has then 0 else 1) → SoFar requests place lines left_out → Puts request lines more has
    → SoFar requests (suc place) more (left_out + by)
next requests place request lines more left_out by true e n h puts rest left script =
    let here : IsScript (request ∷ drop (suc place) requests) (puts.0 ++ rest) left = inl (puts.0, rest, puts.1, refl, script) in
    let all : IsScript requests (lines ++ (puts.0 ++ rest)) (left_out + left) = h (puts.0 ++ rest) left (subst (λ r. IsScript r (puts.0 ++ rest) left) (sym e) here) in
    let texts : lines ++ (puts.0 ++ rest) ≡ more ++ rest = sym (append_assoc lines puts.0 rest) ∙ ap (λ (t : List ℕ). t ++ rest) (sym puts.2) in
    let counts : left_out + left ≡ (left_out + by) + left = omega (arith, n) in
    subst (λ k. IsScript requests (more ++ rest) k) counts (subst (λ t. IsScript requests t (left_out + left)) texts all)
next requests place request lines more left_out by false e n h puts rest left script =
    let here : IsScript (request ∷ drop (suc place) requests) rest (suc left) = inr (puts.0, (left, refl, script)) in
    let all : IsScript requests (lines ++ rest) (left_out + suc left) = h rest (suc left) (subst (λ r. IsScript r rest (suc left)) (sym e) here) in
    let texts : lines ++ rest ≡ more ++ rest = ap (λ (t : List ℕ). t ++ rest) (sym puts.1) in
    let counts : left_out + suc left ≡ (left_out + by) + left = omega (arith, n) in
    subst (λ k. IsScript requests (more ++ rest) k) counts (subst (λ t. IsScript requests t (left_out + suc left)) texts all)
