-- Why a script was not played to its end.
use Rattle.std.specs.Prelude.{◌≡◌, ℕ, Bool, true, false, Result, Ok, Err}
use Rattle.tsc_script.specs.declared.stop.ScriptStop.{ScriptStop}
use Rattle.tsc_script.specs.declared.stop.ScriptStop.TheVariants.{NoMemory, Refused, Fault, Down}

-- P of the number of the line that was refused, if that is why
abbrev pub IfRefused : ScriptStop → (ℕ → Type 0) → Type 0
IfRefused NoMemory P = Unit {0}
IfRefused (Refused number) P = P number
IfRefused (Fault number) P = Unit {0}
IfRefused Down P = Unit {0}

-- a line was refused or not read, and it is the one with this number
abbrev pub IsAtLine : ScriptStop → ℕ → Type 0
IsAtLine NoMemory line = ⊥
IsAtLine (Refused number) line = number ≡ line
IsAtLine (Fault number) line = number ≡ line
IsAtLine Down line = ⊥

-- P where a line was refused, and Q where the machine takes no further instruction; there is no other reason
abbrev pub MatchRefusedDown : ScriptStop → Type 0 → Type 0 → Type 0
MatchRefusedDown NoMemory P Q = ⊥
MatchRefusedDown (Refused number) P Q = P
MatchRefusedDown (Fault number) P Q = ⊥
MatchRefusedDown Down P Q = Q

-- whether a machine takes further instructions after this answer: unless the answer is that it doesn't
abbrev pub is_up_after : Result (Unit {0}) ScriptStop → Bool
is_up_after (Ok done) = true
is_up_after (Err NoMemory) = true
is_up_after (Err (Refused number)) = true
is_up_after (Err (Fault number)) = true
is_up_after (Err Down) = false
