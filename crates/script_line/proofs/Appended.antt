-- Texts that are appended one after the other.
-- For the contracts of `append_receive`, `append_tick` and `put_on_one_line`.
use Rattle.std.proofs.Common.{◌≡◌, ◌≤◌, ◌+◌, ◌++◌, ℕ, List, ap, sym, ◌∙◌, append_assoc, arith, length, length-append, take, subst}
use Rattle.std.proofs.lemmas.List.{length-take, take-append-le, take-take, take_all}
use Rattle.std.specs.Prelude.{Result, Ok, Err, OnOk}
use Rattle.script_line.specs.Appending.{Appends}

-- what stands at the front of what stands at the front
pub front-on : (old between new : List ℕ) → take (length old) between ≡ old → take (length between) new ≡ between → take (length old) new ≡ old
front-on old between new first second =
    let size : length old ≤ length between = omega (arith, ap length first, length-take (length old) between) in
    sym (take-take (length old) (length between) new size) ∙ ap (take (length old)) second ∙ first

-- a text was appended, so what was there stands at the front
pub front-of : (old between first : List ℕ) → between ≡ old ++ first → take (length old) between ≡ old
front-of old between first e =
    ap (take (length old)) e ∙ take-append-le (length old) old first (omega arith) ∙ take_all (length old) old (omega arith)

-- a text was appended, and then another one
pub appends-then : {E : Type 0} (result : Result (Unit {0}) E) (old between new first second : List ℕ) → between ≡ old ++ first
    → Appends result between new second → Appends result old new (first ++ second)
appends-then (Ok done) old between new first second e h =
    record { whole = h.whole ∙ ap (λ (x : List ℕ). x ++ second) e ∙ append_assoc old first second; front = front-on old between new (front-of old between first e) h.front }
appends-then (Err fault) old between new first second e h = record { whole = tt; front = front-on old between new (front-of old between first e) h.front }

-- a text by another spelling of it
pub appends-as : {E : Type 0} (result : Result (Unit {0}) E) (old new text other : List ℕ) → text ≡ other → Appends result old new text → Appends result old new other
appends-as {E} result old new text other e h = subst (λ (x : List ℕ). Appends {E = E} result old new x) e h

-- what holds anyway, holds at an `Ok`
pub on-ok : {V E : Type 0} (result : Result V E) {P : Type 0} → P → OnOk result P
on-ok (Ok value) h = h
on-ok (Err fault) h = tt

-- what follows of what holds at an `Ok` does so
pub on-ok-more : {V E : Type 0} (result : Result V E) {P Q : Type 0} → (P → Q) → OnOk result P → OnOk result Q
on-ok-more (Ok value) f h = f h
on-ok-more (Err fault) f h = tt

-- one text behind the other
pub one-behind : (old between new first second : List ℕ) → between ≡ old ++ first → new ≡ between ++ second → new ≡ old ++ (first ++ second)
one-behind old between new first second e f = f ∙ ap (λ (x : List ℕ). x ++ second) e ∙ append_assoc old first second
