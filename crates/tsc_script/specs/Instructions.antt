-- What a line of a script says.
use Rattle.std.specs.Prelude.{ℕ, ◌+◌, ◌^◌, Bool, true, false, ◌&&◌, ◌==◌, nat_lt, nat_le, List, length, take, drop, Option, None, Some, if◌then◌else◌, codes, position}
use Rattle.std.specs.Str.{bytes_eq}
use Rattle.std.specs.Char.{is_ascii_digit}
use Rattle.std.specs.List.{list_all}
use Rattle.std.specs.Str.Parse.{digits_value}
use Rattle.std.specs.Option.{option_map, option_and_then}
use Rattle.tsc_script.specs.declared.limits.TheConstants.{MAX_LINE_BYTES}
use Rattle.tsc_script.specs.declared.command.ScriptCommand.{ScriptCommand}
use Rattle.tsc_script.specs.declared.command.ScriptCommand.TheVariants.{Receive, Tick, Close}

-- what the program is told: a request on a connection at a moment, a moment, or the end
pub data Instruction : Type 0 where
  receive : ℕ → ℕ → List ℕ → Instruction
  tick : ℕ → Instruction
  close : Instruction

-- whether an instruction is a close
abbrev pub is_close : Instruction → Bool
is_close (receive connection moment json) = false
is_close (tick moment) = false
is_close close = true

-- what a command says
abbrev pub instruction_of_command : ScriptCommand → Instruction
instruction_of_command (Receive connection moment json) = receive connection moment json.now
instruction_of_command (Tick moment) = tick moment
instruction_of_command Close = close

-- the text before the first space, and the text behind it
abbrev pub split_word : List ℕ → Option (List ℕ × List ℕ)
split_word text = option_map (λ at. (take at text, drop (at + 1) text)) (position (λ byte. byte == 32) text)

-- the number that one to twenty decimal digits say, where it is below 2^64
abbrev pub decimal_number : List ℕ → Option ℕ
decimal_number text =
    if nat_lt 0 (length text) && nat_le (length text) 20 && list_all is_ascii_digit text && nat_lt (digits_value 10 text) (2 ^ 64)
    then Some (digits_value 10 text) else None

-- a moment alone
abbrev pub tick_of : List ℕ → Option Instruction
tick_of text = option_map tick (decimal_number text)

-- a connection, a moment, and the rest of the line
abbrev pub receive_of : List ℕ → Option Instruction
receive_of text =
    option_and_then (λ first. option_and_then (λ second.
    option_and_then (λ connection. option_map (λ moment. receive connection moment second.1) (decimal_number second.0))
    (decimal_number first.0)) (split_word first.1)) (split_word text)

-- what the words of a line say
abbrev pub words_of : List ℕ → Option Instruction
words_of line =
    option_and_then (λ first.
    if bytes_eq first.0 (codes "tick") then tick_of first.1
    else (if bytes_eq first.0 (codes "recv") then receive_of first.1 else None)) (split_word line)

-- what a line says, where it is one of the three forms and not too long
unfoldable pub instruction_of : List ℕ → Option Instruction
instruction_of line =
    if nat_lt MAX_LINE_BYTES (length line) then None
    else (if bytes_eq line (codes "close") then Some close else words_of line)
