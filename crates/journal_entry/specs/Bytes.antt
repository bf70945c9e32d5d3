-- The bytes of one entry of a shard's journal: numbers in a fixed width, their lowest byte first.
use Rattle.std.specs.Prelude.{ℕ, Bool, List, [], ◌∷◌, ◌++◌, if◌then◌else◌}
use Rattle.std.specs.Int.{w16, w64, to_le_bytes}
use Rattle.otlp_types.specs.declared.arrival.Arrival.{Arrival}
use Rattle.otlp_types.specs.declared.arrival.Record.{Record}
use Rattle.otlp_types.specs.declared.arrival.Item.{Item}
use Rattle.otlp_types.specs.declared.arrival.Item.TheVariants.{Span, Tick, End}
use Rattle.otlp_types.specs.declared.request.Request.{Request}
use Rattle.otlp_json.specs.Writing.{canonical_text}
use Rattle.journal_entry.specs.declared.entry.JournalEntry.{JournalEntry}

-- the request of one record
abbrev pub request_with : Record → Request
request_with r = record {
  resource_spans = record {
    resource = r.resource;
    scope_spans = record { scope = r.scope; spans = r.span ∷ []; schema_url = r.scope_schema_url } ∷ [];
    schema_url = r.resource_schema_url;
  } ∷ [];
}

-- a record's text: the canonical JSON of its request
abbrev pub text_of : Record → List ℕ
text_of r = canonical_text (request_with r)

-- a byte of a mark: 1 where it stands
abbrev pub bit : Bool → ℕ
bit b = if b then 1 else 0

-- the limiter's answers to one decision: 1 is granted and 0 refused, with 2 behind the last
abbrev pub bytes_of_answers : List Bool → List ℕ
bytes_of_answers [] = 2 ∷ []
bytes_of_answers (granted ∷ later) = bit granted ∷ bytes_of_answers later

-- those to each decision, in order, with 3 behind the last
abbrev pub bytes_of_decisions : List (List Bool) → List ℕ
bytes_of_decisions [] = 3 ∷ []
bytes_of_decisions (answers ∷ later) = bytes_of_answers answers ++ bytes_of_decisions later

-- a span's key: lane, ordinal of the connection, number of the span; then its moment, and its text up to the end
abbrev pub bytes_of_arrival : Arrival → List ℕ
bytes_of_arrival a = to_le_bytes w16 a.key.conn.lane ++ (to_le_bytes w64 a.key.conn.ordinal ++ (to_le_bytes w64 a.key.number ++ (to_le_bytes w64 a.moment ++ text_of a.rec)))

-- an item behind its kind: 1 a tick, 2 the End of a sender, 3 a span
abbrev pub bytes_of_item : Item → List ℕ
bytes_of_item (Tick moment) = 1 ∷ to_le_bytes w64 moment
bytes_of_item (End sender) = 2 ∷ to_le_bytes w16 sender
bytes_of_item (Span a) = 3 ∷ bytes_of_arrival a

-- an entry by the bytes of its item: the version, 1, its marks, the answers at it, and the item
abbrev pub bytes_with : (refused lost : Bool) → (answers : List (List Bool)) → (item : List ℕ) → List ℕ
bytes_with refused lost answers item = 1 ∷ bit refused ∷ bit lost ∷ (bytes_of_decisions answers ++ item)

-- the bytes of an entry
abbrev pub bytes_of_entry : JournalEntry → List ℕ
bytes_of_entry e = bytes_with e.refused e.lost e.answers (bytes_of_item e.item)
