-- What is left to be sent, by how much of it was.
-- For the clauses of `is_empty` and `flush`.
use Rattle.std.proofs.Common.{◌≡◌, ◌≤◌, ◌+◌, ◌-◌, ◌++◌, ℕ, List, [], ◌∷◌, length, drop, refl, sym, ◌∙◌, ap, arith, eqb, Bool, true, append_assoc, Option}
use Rattle.std.proofs.lemmas.Bool.Decides.{nat_tests}
use Rattle.std.proofs.lemmas.List.{length-append, length-drop}
use Rattle.std.specs.Prelude.{nat_lt}
use Rattle.std.proofs.KnownBytes.{Appends-trans}
use Rattle.std.specs.Io.KnownBytes.{Appends}
use Rattle.lane_driver.specs.Looks.{is_sent}

is_none : (bytes : List ℕ) → eqb (length bytes) 0 ≡ is_sent bytes
is_none [] = refl
is_none (b ∷ bytes) = grind (arith, nat_tests)

same_test : (at n : ℕ) → at ≤ n → eqb at n ≡ eqb (n - at) 0
same_test at n h = grind (arith, nat_tests)

pub sent_at : (at : ℕ) (bytes : List ℕ) → at ≤ length bytes → eqb at (length bytes) ≡ is_sent (drop at bytes)
sent_at at bytes h = same_test at (length bytes) h ∙ ap (λ n. eqb n 0) (sym (length-drop at bytes)) ∙ is_none (drop at bytes)

-- what was sent of some bytes
abbrev pub Sends : (old new : List ℕ) → (written written_after : Option (List ℕ)) → Type 0
Sends old new written written_after = (sent : List ℕ) × (old ≡ sent ++ new) × Appends written written_after sent

pub sends_on : (old mid new : List ℕ) (a b c : Option (List ℕ)) → Sends old mid a b → Sends mid new b c → Sends old new a c
sends_on old mid new a b c s t =
    (s.0 ++ t.0, s.1 ∙ ap (λ xs. s.0 ++ xs) t.1 ∙ sym (append_assoc s.0 t.0 new), Appends-trans a b c s.0 t.0 s.2 t.2)

less_of : (old left mid new : ℕ) → old ≡ left + mid → nat_lt new mid ≡ true → true ≡ nat_lt new old
less_of old left mid new e h = grind (arith, nat_tests)

-- a write took some bytes of what was left
pub sent_some : (old mid new : List ℕ) (a b : Option (List ℕ)) → Sends old mid a b → nat_lt (length new) (length mid) ≡ true → true ≡ nat_lt (length new) (length old)
sent_some old mid new a b s h = less_of (length old) (length s.0) (length mid) (length new) (ap length s.1 ∙ length-append s.0 mid) h

-- it took none
pub sent_none : (old mid new : List ℕ) (took : Bool) → took ≡ nat_lt (length mid) (length old) → new ≡ mid → took ≡ nat_lt (length new) (length old)
sent_none old mid new took h e = h ∙ ap (λ l. nat_lt (length l) (length old)) (sym e)
