-- The entries of a shard's journal, as the records of a ledger.
use Rattle.std.specs.Prelude.{ℕ, ◌≡◌, Bool, List, [], ◌∷◌, ◌++◌}
use Rattle.otlp_types.specs.declared.arrival.Item.{Item}
use Rattle.journal_theory.specs.Journal.{Entry, Journal}
use Rattle.journal_entry.specs.Bytes.{bytes_of_entry}
use Rattle.journal_entry.specs.Reading.{IsEntry}
use Rattle.journal_entry.specs.ReadsBack.{ReadsBack}
use Rattle.journal_entry.specs.declared.entry.JournalEntry.{JournalEntry}

-- an entry as its bytes have it, and back
abbrev pub written : Entry → JournalEntry
written e = record { item = e.item; refused = e.refused; lost = e.lost; answers = e.answers }

abbrev pub entry_of : JournalEntry → Entry
entry_of e = record { item = e.item; refused = e.refused; lost = e.lost; answers = e.answers }

-- the records of a journal's entries, the oldest first
abbrev pub records_of_journal : Journal → List (List ℕ)
records_of_journal [] = []
records_of_journal (e ∷ before) = records_of_journal before ++ bytes_of_entry (written e) ∷ []

-- these records are the entries of this journal, the oldest first
abbrev pub AreEntries : List (List ℕ) → Journal → Type 0
AreEntries records [] = records ≡ []
AreEntries records (e ∷ before) = (earlier : List (List ℕ)) × (bytes : List ℕ) × (records ≡ earlier ++ bytes ∷ []) × IsEntry bytes (written e) × AreEntries earlier before

-- each entry is read again from its bytes
abbrev pub ReadBack : Journal → Type 0
ReadBack [] = Unit {0}
ReadBack (e ∷ before) = ReadsBack e.item × ReadBack before

-- the records of a journal's entries are that journal's, and no other's
abbrev pub RecordsTellJournals : Type 0
RecordsTellJournals = (past other : Journal) → ReadBack past → AreEntries (records_of_journal past) other → other ≡ past
