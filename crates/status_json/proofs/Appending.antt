-- Texts that are appended one after the other.
-- For the contracts of `put_dropped`, `put_spans`, `put_history` and `status_text`.
use Rattle.std.proofs.Common.{◌≡◌, ◌++◌, ℕ, List, [], ap, ◌∙◌, append_assoc}
use Rattle.std.specs.Prelude.{Result, Ok, Err, OnOk}

-- two pieces of a whole were appended
pub two-appended : {V E : Type 0} (answer : Result V E) → (old a b whole first new : List ℕ) → first ≡ old ++ a
    → OnOk answer (new ≡ first ++ b) → a ++ b ≡ whole → OnOk answer (new ≡ old ++ whole)
two-appended (Ok done) old a b whole first new e h is = h ∙ ap (λ (x : List ℕ). x ++ b) e ∙ append_assoc old a b ∙ ap (λ (x : List ℕ). old ++ x) is
two-appended (Err fault) old a b whole first new e h is = h

-- three pieces of a whole were appended
pub three-appended : {V E : Type 0} (answer : Result V E) → (old a b c whole first second new : List ℕ) → first ≡ old ++ a → second ≡ first ++ b
    → OnOk answer (new ≡ second ++ c) → a ++ (b ++ c) ≡ whole → OnOk answer (new ≡ old ++ whole)
three-appended (Ok done) old a b c whole first second new d e h is =
    h ∙ ap (λ (x : List ℕ). x ++ c) (e ∙ ap (λ (x : List ℕ). x ++ b) d) ∙ append_assoc (old ++ a) b c ∙ append_assoc old a (b ++ c)
    ∙ ap (λ (x : List ℕ). old ++ x) is
three-appended (Err fault) old a b c whole first second new d e h is = h

-- three pieces were appended to nothing
three-from-none : (none a b c first second new : List ℕ) → none ≡ [] → first ≡ none ++ a → second ≡ first ++ b → new ≡ second ++ c → new ≡ a ++ (b ++ c)
three-from-none none a b c first second new n f s t =
    t ∙ ap (λ (x : List ℕ). x ++ c) (s ∙ ap (λ (x : List ℕ). x ++ b) (f ∙ ap (λ (x : List ℕ). x ++ a) n)) ∙ append_assoc a b c

-- seven were
pub seven-appended : (none a b c d e f g first second third fourth fifth sixth new : List ℕ) → none ≡ [] → first ≡ none ++ a → second ≡ first ++ b → third ≡ second ++ c
    → fourth ≡ third ++ d → fifth ≡ fourth ++ e → sixth ≡ fifth ++ f → new ≡ sixth ++ g → new ≡ a ++ (b ++ (c ++ (d ++ (e ++ (f ++ g)))))
seven-appended none a b c d e f g first second third fourth fifth sixth new n is-1 is-2 is-3 is-4 is-5 is-6 is-7 =
    is-7 ∙ ap (λ (x : List ℕ). x ++ g) (is-6 ∙ ap (λ (x : List ℕ). x ++ f) (is-5 ∙ ap (λ (x : List ℕ). x ++ e) (is-4 ∙ ap (λ (x : List ℕ). x ++ d) (three-from-none none a b c first second third n is-1 is-2 is-3))))
    ∙ regrouped a b c d e f g
  where
    regrouped : (a b c d e f g : List ℕ) → ((((a ++ (b ++ c)) ++ d) ++ e) ++ f) ++ g ≡ a ++ (b ++ (c ++ (d ++ (e ++ (f ++ g)))))
    regrouped a b c d e f g = simp append_assoc

-- one piece was appended, by another spelling of it
pub one-appended : {V E : Type 0} (answer : Result V E) → (old a whole new : List ℕ) → OnOk answer (new ≡ old ++ a) → a ≡ whole → OnOk answer (new ≡ old ++ whole)
one-appended (Ok done) old a whole new h is = h ∙ ap (λ (x : List ℕ). old ++ x) is
one-appended (Err fault) old a whole new h is = h
