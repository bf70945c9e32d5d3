-- An entry that is being made.
use Rattle.std.specs.Prelude.{ℕ, ◌≡◌, Bool, true, List, [], ◌∷◌, ◌++◌, length}
use Rattle.journal_entry.specs.Bytes.{bytes_of_item}
use Rattle.journal_theory.specs.Journal.{Entry, Journal, answered}
use Rattle.shard_core.specs.Held.{Held, StandsFor}
use Rattle.shard_core.specs.declared.answer.Decided.{Decided}
use Rattle.shard_core.specs.declared.answer.Decided.TheVariants.{Nothing}
use Rattle.shard_recording.specs.declared.draft.EntryDraft.{EntryDraft}

-- the draft has this entry, as long as memory sufficed for it
pub record IsDraftOf (d : EntryDraft) (e : Entry) : Type 0 where
  pub item : d.item.items ≡ bytes_of_item e.item
  pub refused : d.refused ≡ e.refused
  pub lost : d.lost ≡ e.lost
  pub answers : d.is_whole ≡ true → d.answers ≡ e.answers

-- the shard stands for the journal with the entry of the draft, as far as its decisions were made
pub record IsUnderWay (h : Held) (d : EntryDraft) (e : Entry) (past : Journal) : Type 0 where
  pub draft : IsDraftOf d e
  pub stands : StandsFor h (e ∷ past) (length e.answers)

-- the entry with these answers to one more decision
abbrev pub with_answers : Entry → (answers : List Bool) → Entry
with_answers e answers = record e { answers = e.answers ++ answers ∷ [] }

-- after this answer of `decide`: one more decision stands in the entry, or nothing was due and all is as it was
abbrev pub GoesOn : Decided → (h : Held) → (d : EntryDraft) → (e : Entry) → (past : Journal) → Type 0
GoesOn Nothing h d e past = IsUnderWay h d e past
GoesOn _ h d e past = (answers : List Bool) × IsUnderWay h d (with_answers e answers) past
