-- Bytes of lines that were made and not written.
use Rattle.std.specs.Prelude.{ℕ, ◌==◌, List}
use Rattle.std.specs.List.{count_by}

-- how many lines end in a text
abbrev pub line_ends : List ℕ → ℕ
line_ends text = count_by (λ byte. byte == 10) text
