-- Worked rows of the program's endings, by computation: those that no run reaches, and one beside them. No clause needs
-- them: they show what `text_of` and `exit_status` say, which code and contracts follow. No contract rests on it: it
-- shows the definitions on worked cases.
use Rattle.std.specs.Prelude.{◌≡◌, refl, codes, true, false, Err}
use Rattle.script_session.specs.declared.fault.ReplayFault.TheVariants.{CounterOverflow as Overflows, Fault}
use Rattle.collector_commands.specs.declared.outcome.Outcome.TheVariants.{CannotWrite, CounterOverflow, Script}
use Rattle.collector_commands.specs.Texts.{text_of}
use Rattle.collector_commands.specs.Outcomes.{outcome_of, exit_status}

-- a run whose counts would pass 2^64-1, by its text and its status, also where the text found no room
pub overflow : outcome_of (Err Overflows) ≡ CounterOverflow
overflow = refl

pub overflow_text : text_of CounterOverflow ≡ codes "tsc: book full\n"
overflow_text = refl

pub overflow_status : exit_status CounterOverflow true ≡ 7
overflow_status = refl

pub overflow_unwritten : exit_status CounterOverflow false ≡ 7
overflow_unwritten = refl

-- an output's file that can't be opened
pub unopened_text : text_of CannotWrite ≡ codes "tsc: cannot write\n"
unopened_text = refl

pub unopened_status : exit_status CannotWrite true ≡ 1
unopened_status = refl

-- a reader that fails in a script's second line
pub failing_reader : outcome_of (Err (Fault 2)) ≡ Script 2
failing_reader = refl
