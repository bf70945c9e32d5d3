-- What is found in any bytes: the entry that they are, or why they are none.
use Rattle.std.specs.Prelude.{ℕ, ◌≡◌, ◌⊎◌, Bool, true, ◌==◌, nat_lt, List, [], ◌∷◌, length, take, drop, Result, Ok, Err, if◌then◌else◌}
use Rattle.std.specs.Int.{w16, w64, from_le_bytes}
use Rattle.otlp_types.specs.declared.arrival.Record.{Record}
use Rattle.otlp_types.specs.declared.arrival.Item.{Item}
use Rattle.otlp_types.specs.declared.arrival.Item.TheVariants.{Span, Tick, End}
use Rattle.otlp_types.specs.declared.request.Request.{Request}
use Rattle.otlp_flatten.specs.Flat.{records_of}
use Rattle.otlp_reading.specs.Decoding.{IsRequest}
use Rattle.span_ids.specs.declared.keys.ArrivalKey.{ArrivalKey}
use Rattle.journal_entry.specs.declared.entry.JournalEntry.{JournalEntry}
use Rattle.journal_entry.specs.declared.error.EntryError.{EntryError}
use Rattle.journal_entry.specs.declared.error.EntryError.TheVariants as faults

-- what is read of what was read, unless that met a fault
infixl 10 ◌>>=◌
abbrev pub ◌>>=◌ : {A B : Type 0} → Result A EntryError → (A → Result B EntryError) → Result B EntryError
Ok a >>= f = f a
Err e >>= f = Err e

-- what is read at the front of some bytes, and the bytes behind it; or why nothing is
abbrev pub Front : Type 0 → Type 0
Front A = Result (A × List ℕ) EntryError

-- ---- numbers and marks

abbrev pub byte_at : List ℕ → Front ℕ
byte_at [] = Err faults.Short
byte_at (b ∷ left) = Ok (b, left)

-- a number of 64 bits, its lowest byte first
unfoldable pub number_at : List ℕ → Front ℕ
number_at bytes = if nat_lt (length bytes) 8 then Err faults.Short else Ok (from_le_bytes w64 (take 8 bytes), drop 8 bytes)

-- a number of 16 bits, its lowest byte first
unfoldable pub short_number_at : List ℕ → Front ℕ
short_number_at bytes = if nat_lt (length bytes) 2 then Err faults.Short else Ok (from_le_bytes w16 (take 2 bytes), drop 2 bytes)

-- a mark: 1 where it stands, else 0
abbrev pub mark_of : ℕ × List ℕ → Front Bool
mark_of x = if nat_lt x.0 2 then Ok (x.0 == 1, x.1) else Err faults.Mark

abbrev pub mark_at : List ℕ → Front Bool
mark_at bytes = byte_at bytes >>= mark_of

-- ---- the limiter's answers

-- one more answer to the first of these decisions: there has to be one
abbrev pub with_answer : Bool → List (List Bool) × List ℕ → Front (List (List Bool))
with_answer granted ([], left) = Err faults.Answer
with_answer granted (answers ∷ later, left) = Ok ((granted ∷ answers) ∷ later, left)

-- the answers to each decision: those to one end with 2, and all with 3
unfoldable pub decisions_at : List ℕ → Front (List (List Bool))
decisions_at [] = Err faults.Short
decisions_at (b ∷ bytes) =
    if b == 3 then Ok ([], bytes)
    else if b == 2 then decisions_at bytes >>= (λ x. Ok ([] ∷ x.0, x.1))
    else if nat_lt b 2 then decisions_at bytes >>= with_answer (b == 1)
    else Err faults.Answer

-- ---- an entry, with the text of its span as it stands

-- an item, as far as it is framed
pub data Framed : Type 0 where
  tick : (moment : ℕ) → Framed
  ended : (sender : ℕ) → Framed
  span : ArrivalKey → (moment : ℕ) → (text : List ℕ) → Framed

pub record Frame : Type 0 where
  pub refused : Bool
  pub lost : Bool
  pub answers : List (List Bool)
  pub item : Framed

-- this, with nothing behind it
abbrev pub alone : {A : Type 0} → (ℕ → A) → ℕ × List ℕ → Result A EntryError
alone f (n, []) = Ok (f n)
alone f (n, b ∷ left) = Err faults.Long

-- a tick, by its moment
abbrev pub tick_at : List ℕ → Result Framed EntryError
tick_at bytes = number_at bytes >>= alone tick

-- an End, by its sender
abbrev pub end_at : List ℕ → Result Framed EntryError
end_at bytes = short_number_at bytes >>= alone ended

-- a span: its key, its moment, and its text up to the end
abbrev pub arrival_at : List ℕ → Result Framed EntryError
arrival_at bytes =
    short_number_at bytes >>= λ lane. number_at lane.1 >>= λ ordinal. number_at ordinal.1 >>= λ number. number_at number.1 >>= λ moment.
    Ok (span (record { conn = record { lane = lane.0; ordinal = ordinal.0 }; number = number.0 }) moment.0 moment.1)

-- an item by its kind
abbrev pub item_of_kind : ℕ × List ℕ → Result Framed EntryError
item_of_kind x =
    if x.0 == 1 then tick_at x.1
    else if x.0 == 2 then end_at x.1
    else if x.0 == 3 then arrival_at x.1
    else Err faults.Kind

abbrev pub item_at : List ℕ → Result Framed EntryError
item_at bytes = byte_at bytes >>= item_of_kind

-- what stands behind the version
abbrev pub frame_behind : List ℕ → Result Frame EntryError
frame_behind bytes =
    mark_at bytes >>= λ refused. mark_at refused.1 >>= λ lost. decisions_at lost.1 >>= λ answers. item_at answers.1 >>= λ it.
    Ok (record { refused = refused.0; lost = lost.0; answers = answers.0; item = it })

-- the entry that the bytes frame, or why they frame none
abbrev pub frame_of : List ℕ → Result Frame EntryError
frame_of bytes = byte_at bytes >>= λ version. if version.0 == 1 then frame_behind version.1 else Err faults.Version

-- ---- a span's text

-- the text reads as a request of just this record
abbrev pub IsTextOf : List ℕ → Record → Type 0
IsTextOf text r = (request : Request) × IsRequest true text request × (records_of request ≡ r ∷ [])

-- the text reads as no record
abbrev pub IsNoText : List ℕ → Type 0
IsNoText text = (r : Record) → IsTextOf text r → ⊥

-- the item is the one that is framed
abbrev pub IsFramed : Framed → Item → Type 0
IsFramed (tick moment) item = item ≡ Tick moment
IsFramed (ended sender) item = item ≡ End sender
IsFramed (span key moment text) item = (r : Record) × IsTextOf text r × (item ≡ Span (record { key = key; moment = moment; rec = r }))

-- a span is framed, but its text reads as none
abbrev pub IsUnread : Framed → Type 0
IsUnread (tick moment) = ⊥
IsUnread (ended sender) = ⊥
IsUnread (span key moment text) = IsNoText text

-- ---- the whole

-- the bytes are this entry
abbrev pub IsEntry : List ℕ → JournalEntry → Type 0
IsEntry bytes e = (item : Framed) × (frame_of bytes ≡ Ok (record { refused = e.refused; lost = e.lost; answers = e.answers; item = item })) × IsFramed item e.item

-- the bytes are no entry, for this reason
abbrev pub IsNoEntry : List ℕ → EntryError → Type 0
IsNoEntry bytes error = (frame_of bytes ≡ Err error) ⊎ ((f : Frame) × (frame_of bytes ≡ Ok f) × IsUnread f.item × (error ≡ faults.Unreadable))
