-- What waits of what came, until its line is written.
use Rattle.std.specs.Prelude.{◌≡◌, ℕ, List}
use Rattle.otlp_encoding.specs.declared.encoding.Encoding.{Encoding}
use Rattle.line_entries.specs.declared.came.Came.{Came}
use Rattle.line_entries.specs.declared.came.Came.TheVariants as came

-- the entry of a request on its connection, with its moment and its text
abbrev pub IsEntryOf : (connection moment : ℕ) → Encoding → (text : List ℕ) → Came → Type 0
IsEntryOf connection moment encoding text (came.Request r) = (r.connection ≡ connection) × (r.moment ≡ moment) × (r.encoding ≡ encoding) × (r.text.items ≡ text)
IsEntryOf connection moment encoding text (came.Tick at) = ⊥
