-- Which entries are read again from their bytes.
use Rattle.std.specs.Prelude.{ℕ, ◌≡◌, ◌≤◌, ◌<◌, ◌^◌, true, List}
use Rattle.serde_json.specs.Data.{depth}
use Rattle.otlp_json.specs.Writing.{data_of}
use Rattle.otlp_reading.specs.Decoding.{IsRequest}
use Rattle.otlp_types.specs.declared.arrival.Arrival.{Arrival}
use Rattle.otlp_types.specs.declared.arrival.Item.{Item}
use Rattle.otlp_types.specs.declared.arrival.Item.TheVariants.{Span, Tick, End}
use Rattle.journal_entry.specs.Bytes.{request_with, text_of, bytes_of_entry}
use Rattle.journal_entry.specs.Reading.{IsEntry}
use Rattle.journal_entry.specs.declared.entry.JournalEntry.{JournalEntry}

-- the span's request nests at most 127 deep as JSON, which is as deep as JSON is read
abbrev pub IsShallow : Item → Type 0
IsShallow (Span a) = depth (data_of (request_with a.rec)) ≤ 127
IsShallow (Tick moment) = Unit {0}
IsShallow (End sender) = Unit {0}

-- the span's numbers are in their ranges, and its text reads as its request
pub record ArrivalReadsBack (a : Arrival) : Type 0 where
  pub lane : a.key.conn.lane < 2 ^ 16
  pub ordinal : a.key.conn.ordinal < 2 ^ 64
  pub number : a.key.number < 2 ^ 64
  pub moment : a.moment < 2 ^ 64
  pub text : IsRequest true (text_of a.rec) (request_with a.rec)

-- the item is read again from its bytes
abbrev pub ReadsBack : Item → Type 0
ReadsBack (Span a) = ArrivalReadsBack a
ReadsBack (Tick moment) = moment < 2 ^ 64
ReadsBack (End sender) = sender < 2 ^ 16

-- the bytes of an entry are that entry, and no other
abbrev pub EntriesAreRead : Type 0
EntriesAreRead = (e : JournalEntry) → ReadsBack e.item → IsEntry (bytes_of_entry e) e × ((other : JournalEntry) → IsEntry (bytes_of_entry e) other → other ≡ e)

-- two entries that are read again have the same bytes only if they are the same
abbrev pub BytesTellEntries : Type 0
BytesTellEntries = (e f : JournalEntry) → ReadsBack e.item → ReadsBack f.item → bytes_of_entry e ≡ bytes_of_entry f → e ≡ f

-- any bytes are at most one entry
abbrev pub BytesAreOneEntry : Type 0
BytesAreOneEntry = (bytes : List ℕ) (e f : JournalEntry) → IsEntry bytes e → IsEntry bytes f → e ≡ f
