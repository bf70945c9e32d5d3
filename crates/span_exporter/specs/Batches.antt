-- A batch of received spans, and its line.
use Rattle.std.specs.Prelude.{◌≡◌, ℕ, List, [], ◌∷◌, ◌++◌, map, Option}
use Rattle.otlp_types.specs.declared.arrival.Arrival.{Arrival}
use Rattle.otlp_types.specs.declared.arrival.Record.{Record}
use Rattle.otlp_types.specs.declared.request.Request.{Request}
use Rattle.otlp_flatten.specs.Flat.{records_of}
use Rattle.otlp_flatten.specs.Grouped.{IsGrouped}
use Rattle.otlp_json.specs.Writing.{canonical_text}
use Rattle.released_spans.specs.Noting.{noted_records}

-- the received spans of a batch in order, the policies that decided them, and how many it may hold
pub record BatchState : Type 0 where
  pub spans : List Arrival
  pub policies : List (Option ℕ)
  pub size : ℕ

-- what was received, without keys and moments
abbrev pub records_in : List Arrival → List Record
records_in spans = map (λ arrival. arrival.rec) spans

-- the records of a line: as they were received; where policies have names, each with the name of its policy
abbrev pub line_records : (names : List (List ℕ)) → (policies : List (Option ℕ)) → List Arrival → List Record
line_records [] policies spans = records_in spans
line_records (name ∷ names) policies spans = noted_records (name ∷ names) policies (records_in spans)

-- the line of a batch: the canonical text of the request whose groups are these records', and one line feed
abbrev pub IsLineOf : List Record → List ℕ → Type 0
IsLineOf records line = (request : Request) × (records_of request ≡ records) × IsGrouped request × (line ≡ canonical_text request ++ 10 ∷ [])

-- records have one line
abbrev pub LineIsUnique : Type 0
LineIsUnique = (records : List Record) (a b : List ℕ) → IsLineOf records a → IsLineOf records b → a ≡ b
