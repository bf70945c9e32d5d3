-- What lines say when they stand one behind the other.
use Rattle.std.specs.Prelude.{◌≡◌, ℕ, ◌<◌, ◌≤◌, ◌^◌, List, [], ◌∷◌, ◌++◌, map, flat_map, length, Ok}
use Rattle.std.specs.List.{All}
use Rattle.tsc_script.specs.Instructions.{Instruction, receive, tick, close}
use Rattle.tsc_script.specs.Script.{instructions_of}
use Rattle.script_line.specs.Line.{on_one_line, receive_line, tick_line}

-- what came: a request with this body on a connection at a moment, or a tick
pub data Entry : Type 0 where
  request : (connection moment : ℕ) (body : List ℕ) → Entry
  ticked : (moment : ℕ) → Entry

-- its line
abbrev pub entry_line : Entry → List ℕ
entry_line (request connection moment body) = receive_line connection moment body
entry_line (ticked moment) = tick_line moment

-- what is said by it
abbrev pub said_by : Entry → Instruction
said_by (request connection moment body) = receive connection moment (on_one_line body)
said_by (ticked moment) = tick moment

-- its numbers are below 2^64, and its line isn't too long
abbrev pub IsWritable : Entry → Type 0
IsWritable (request connection moment body) = (connection < 2 ^ 64) × (moment < 2 ^ 64) × (length (receive_line connection moment body) ≤ 4194368)
IsWritable (ticked moment) = moment < 2 ^ 64

-- the lines, each with its line feed
abbrev pub lines_text : List Entry → List ℕ
lines_text entries = flat_map (λ entry. entry_line entry ++ 10 ∷ []) entries

-- the lines are a script that says just what came, in this order, and then its end
abbrev pub EntriesReadBack : Type 0
EntriesReadBack = (entries : List Entry) → All IsWritable entries → instructions_of (lines_text entries) ≡ Ok (map said_by entries ++ close ∷ [])
