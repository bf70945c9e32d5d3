-- What a contract sees of a text.
use Rattle.std.specs.Prelude.{ℕ, List, string_bytes}
use Rattle.otlp_types.specs.declared.list.TextBytes.{TextBytes}
use Rattle.otlp_types.specs.declared.list.TextBytes.TheVariants.{Short, Long}

-- its bytes, wherever they lie
abbrev pub held_bytes : TextBytes → List ℕ
held_bytes (Short text) = text.bytes
held_bytes (Long text) = string_bytes text
