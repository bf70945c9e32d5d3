-- The lines of a script (`tsc_script`) for a request and for a tick, and what they say.
use Rattle.std.specs.Prelude.{◌≡◌, ℕ, ◌+◌, List, ◌∷◌, ◌++◌, ◌==◌, ◌||◌, map, codes, decimal, if◌then◌else◌, Some}
use Rattle.tsc_script.specs.Instructions.{Instruction, instruction_of}
use Rattle.tsc_script.specs.Lines.{HasNoLineFeed, lines_of}
use Rattle.tsc_script.specs.Script.{instructions_from, with_first}

-- a body on one line: a space for each line feed and each carriage return
abbrev pub on_one_line : List ℕ → List ℕ
on_one_line body = map (λ byte. if byte == 10 || byte == 13 then 32 else byte) body

-- a request: its connection and moment in decimal digits, and its body on one line
abbrev pub receive_line : (connection moment : ℕ) (body : List ℕ) → List ℕ
receive_line connection moment body = codes "recv " ++ (decimal connection ++ 32 ∷ (decimal moment ++ 32 ∷ on_one_line body))

-- a tick: its moment in decimal digits
abbrev pub tick_line : (moment : ℕ) → List ℕ
tick_line moment = codes "tick " ++ decimal moment

-- The line says this instruction; and in a script, whatever follows the line and its line feed, it is the line's, and
-- the others are those of what follows.
pub record ReadsAs (line : List ℕ) (instruction : Instruction) : Type 0 where
  pub says : instruction_of line ≡ Some instruction
  pub alone : HasNoLineFeed line
  pub in_script : (number : ℕ) (more : List ℕ) → instructions_from number (lines_of (line ++ 10 ∷ more)) ≡ with_first instruction (instructions_from (number + 1) (lines_of more))
