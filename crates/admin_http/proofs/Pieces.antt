-- What several reads came to.
-- For the contract of `hear`.
use Rattle.std.proofs.Common.{◌≡◌, ◌++◌, ℕ, Bool, true, false, if◌then◌else◌, List, [], Option, None, Ok, Err, append-nil, sym, ◌∙◌, subst, refl}
use Rattle.std.specs.Io.KnownBytes.{Consumes}
use Rattle.std.proofs.KnownBytes.{Consumes-trans}
use Rattle.http_text.specs.Lines.{Cut, Whole, Waits, TooLong, cut, head_len}
use Rattle.admin_http.specs.Asked.{HeardBy, IsHeard}
use Rattle.admin_http.specs.Serving.{IsSilent, quiet_after}
use Rattle.admin_http.specs.declared.ends.Silence.{Silence}
use Rattle.admin_http.specs.declared.ends.Silence.TheVariants.{Quiet, Stopped}
use Rattle.admin_http.specs.declared.asked.Access.{Access}

-- more was read
pub read_on : (a b c : Option (List ℕ)) (read more now : List ℕ) → Consumes a b read → Consumes b c more → now ≡ read ++ more → Consumes a c now
read_on a b c read more now x y e = subst (Consumes a c) (sym e) (Consumes-trans a b c read more x y)

-- a read gave nothing
pub read_still : (a b c : Option (List ℕ)) (read now : List ℕ) → Consumes a b read → Consumes b c [] → now ≡ read → Consumes a c now
read_still a b c read now x y e = subst (Consumes a c) (append-nil read ∙ sym e) (Consumes-trans a b c read [] x y)

-- a read gave nothing, and the head isn't whole
pub still_waits : (a b c : Option (List ℕ)) (read : List ℕ) → Consumes a b read → Consumes b c []
    → cut head_len read ≡ Waits → (heard : List ℕ) × Consumes a c heard × (cut head_len heard ≡ Waits)
still_waits a b c read x y waits = (read, read_still a b c read read x y refl, waits)

waits_by : (access : Access) (c : Cut) (read : List ℕ) → HeardBy access c read None → c ≡ Waits
waits_by access (Whole n) read h = absurd h
waits_by access Waits read h = refl
waits_by access TooLong read h = absurd h

-- nothing was heard, so that the head isn't whole
pub unheard_waits : (access : Access) (read : List ℕ) → IsHeard access read None → cut head_len read ≡ Waits
unheard_waits access read h = waits_by access (cut head_len read) read h

quiet_by : (left : Option (List ℕ)) (read : List ℕ) (goes_on : Bool) (n : ℕ) (silence : Silence)
    → Err silence ≡ (if goes_on then Ok n else Err Quiet) → cut head_len read ≡ Waits → IsSilent left read silence
quiet_by left read true n silence e waits = let no : Err silence ≡ Ok n = e in cc
quiet_by left read false n silence e waits = let is : Quiet ≡ silence = cc in subst (IsSilent left read) is waits

silent_by : (left : Option (List ℕ)) (read : List ℕ) (quiet : ℕ) (is_stopping : Bool) (silence : Silence)
    → Err silence ≡ quiet_after quiet is_stopping → cut head_len read ≡ Waits → IsSilent left read silence
silent_by left read quiet true silence e waits = let is : Stopped ≡ silence = cc in subst (IsSilent left read) is waits
silent_by left read quiet false silence e waits = quiet_by left read _ _ silence e waits

-- reads that gave nothing end the connection, and the head isn't whole
pub quiet_ends : (a b c : Option (List ℕ)) (read : List ℕ) (quiet : ℕ) (is_stopping : Bool) (silence : Silence)
    → Consumes a b read → Consumes b c [] → cut head_len read ≡ Waits → Err silence ≡ quiet_after quiet is_stopping
    → (heard : List ℕ) × Consumes a c heard × IsSilent c heard silence
quiet_ends a b c read quiet is_stopping silence x y waits e =
    (read, read_still a b c read read x y refl, silent_by c read quiet is_stopping silence e waits)
