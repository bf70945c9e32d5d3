-- What a script says.
use Rattle.std.specs.Prelude.{ℕ, ◌+◌, List, [], ◌∷◌, Option, None, Some, Result, Ok, Err}
use Rattle.tsc_script.specs.Lines.{lines_of}
use Rattle.tsc_script.specs.Instructions.{Instruction, receive, tick, close, instruction_of}

-- an instruction, and then those that follow; a refusal among these stays
abbrev pub with_first : Instruction → Result (List Instruction) ℕ → Result (List Instruction) ℕ
with_first instruction (Ok instructions) = Ok (instruction ∷ instructions)
with_first instruction (Err number) = Err number

-- several instructions, and then those that follow; a refusal among these stays
abbrev pub with_all_first : List Instruction → Result (List Instruction) ℕ → Result (List Instruction) ℕ
with_all_first [] rest = rest
with_all_first (instruction ∷ instructions) rest = with_first instruction (with_all_first instructions rest)

-- the instruction of the line with this number, then those of the lines after it: no line may follow a close
abbrev pub after_line : ℕ → Option Instruction → List (List ℕ) → Result (List Instruction) ℕ → Result (List Instruction) ℕ
after_line number None lines rest = Err number
after_line number (Some close) [] rest = Ok (close ∷ [])
after_line number (Some close) (line ∷ lines) rest = Err (number + 1)
after_line number (Some (receive connection moment json)) lines rest = with_first (receive connection moment json) rest
after_line number (Some (tick moment)) lines rest = with_first (tick moment) rest

-- the instructions of these lines, the first of which has this number, ended by a close, as which the end acts too; or
-- the number of the first line that is refused
abbrev pub instructions_from : ℕ → List (List ℕ) → Result (List Instruction) ℕ
instructions_from number [] = Ok (close ∷ [])
instructions_from number (line ∷ lines) = after_line number (instruction_of line) lines (instructions_from (number + 1) lines)

-- the instructions of a script, ended by a close; or the number of the first line that is refused, from 1
abbrev pub instructions_of : List ℕ → Result (List Instruction) ℕ
instructions_of script = instructions_from 1 (lines_of script)
