-- What each line is, by its words: the three forms of a line, one space between the words.
use Rattle.std.specs.Prelude.{◌≡◌, ◌↔◌, ℕ, ◌<◌, ◌≤◌, ◌^◌, true, List, ◌∷◌, ◌++◌, length, None, Some, codes}
use Rattle.std.specs.Char.{is_ascii_digit}
use Rattle.std.specs.List.{list_all}
use Rattle.std.specs.Str.Parse.{digits_value}
use Rattle.tsc_script.specs.Instructions.{receive, tick, close, instruction_of}

-- one to twenty decimal digits, which say this number below 2^64
pub record Says (text : List ℕ) (n : ℕ) : Type 0 where
  pub some : 0 < length text
  pub few : length text ≤ 20
  pub digits : list_all is_ascii_digit text ≡ true
  pub value : digits_value 10 text ≡ n
  pub fits : n < 2 ^ 64

-- `recv`, the digits of a connection and of a moment, and the rest of the line
abbrev pub IsReceive : (line : List ℕ) → (connection moment : ℕ) → (json : List ℕ) → Type 0
IsReceive line connection moment json =
    (a : List ℕ) × (b : List ℕ) × Says a connection × Says b moment × (line ≡ codes "recv " ++ (a ++ 32 ∷ (b ++ 32 ∷ json)))

-- `tick` and the digits of a moment
abbrev pub IsTick : (line : List ℕ) → (moment : ℕ) → Type 0
IsTick line moment = (a : List ℕ) × Says a moment × (line ≡ codes "tick " ++ a)

-- A line of at most 4,194,368 bytes says an instruction exactly where it is that instruction's words, and a longer one
-- says none.
pub record LinesAreTheirWords : Type 0 where
  pub receives : (line json : List ℕ) (connection moment : ℕ) → length line ≤ 4194368
      → (instruction_of line ≡ Some (receive connection moment json)) ↔ IsReceive line connection moment json
  pub ticks : (line : List ℕ) (moment : ℕ) → length line ≤ 4194368 → (instruction_of line ≡ Some (tick moment)) ↔ IsTick line moment
  pub closes : (line : List ℕ) → length line ≤ 4194368 → (instruction_of line ≡ Some close) ↔ (line ≡ codes "close")
  pub too_long : (line : List ℕ) → 4194368 < length line → instruction_of line ≡ None
