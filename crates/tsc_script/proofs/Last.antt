-- How the text behind the last line feed is played.
-- For the contracts of `play_last` and `play_script`.
use Rattle.std.proofs.Common.{◌≡◌, ◌≢◌, Ok, Err, Result, OnOk, IfErr, false, refl}
use Rattle.tsc_script.specs.declared.stop.ScriptStop.{ScriptStop}
use Rattle.tsc_script.specs.declared.stop.ScriptStop.TheVariants.{Down}
use Rattle.tsc_script.specs.declared.command.ScriptCommand.{ScriptCommand}
use Rattle.tsc_script.specs.declared.command.ScriptCommand.TheVariants.{Receive, Tick, Close}
use Rattle.tsc_script.specs.Instructions.{instruction_of_command, close, is_close}
use Rattle.tsc_script.specs.Stops.{MatchRefusedDown}

-- a command that isn't Close says no close
pub command-goes_on : (c : ScriptCommand) → (c ≡ Close → ⊥) → instruction_of_command c ≢ close
command-goes_on (Receive a b d) h = λ e. cc
command-goes_on (Tick a) h = λ e. cc
command-goes_on Close h = absurd (h refl)

-- and leaves a machine open
pub command-open : (c : ScriptCommand) → (c ≡ Close → ⊥) → is_close (instruction_of_command c) ≡ false
command-open (Receive a b d) h = refl
command-open (Tick a) h = refl
command-open Close h = absurd (h refl)

pub down-stopped : (r : Result (Unit {0}) ScriptStop) (P Q : Type 0) → IfErr r (λ stop. stop ≡ Down) → Q → IfErr r (λ stop. MatchRefusedDown stop P Q)
down-stopped (Ok u) P Q h q = tt
down-stopped (Err s) P Q h q = rw h q

pub on_ok : (r : Result (Unit {0}) ScriptStop) (P : Type 0) → P → OnOk r P
on_ok (Ok u) P p = p
on_ok (Err s) P p = tt
