-- What a ledger has of a shard's journal. A journal has its newest entry first, so `late ++ early` goes on from `early`.
use Rattle.std.specs.Prelude.{ℕ, ◌≡◌, ◌⊎◌, Bool, IsTrue, List, [], ◌++◌}
use Rattle.journal_theory.specs.Journal.{Journal}
use Rattle.ledger_file.specs.Format.{records_of}
use Rattle.ledger_file.specs.Ledger.{pending_of, disk_of}
use Rattle.ledger_file.specs.declared.ledger.Ledger.{Ledger}
use Rattle.shard_core.specs.Held.{Held}
use Rattle.shard_restore.specs.Entries.{AreEntries}
use Rattle.shard_restore.specs.Restoring.{IsSettled, Restores}

-- the records of this file are the entries of this journal, in order
abbrev pub FileHas : (file : List ℕ) → Journal → Type 0
FileHas file past = AreEntries (records_of file) past

-- The entries of `early` are in the file of a ledger whose disk told no lie, and those of `late` wait for a commit behind
-- them.
pub record HasJournal {D : Type 0} (seen : D → List ℕ) (is_clean : D → Bool) (ledger : Ledger D) (early late : Journal) : Type 0 where
  pub stored : IsTrue (is_clean (disk_of ledger)) → FileHas (seen (disk_of ledger)) early
  pub waiting : AreEntries (pending_of ledger) late

-- a file has the entries of `early`, or those and all of `late` behind them
abbrev pub HasAllOrNone : (early late : Journal) → (file : List ℕ) → Type 0
HasAllOrNone early late file = FileHas file early ⊎ FileHas file (late ++ early)

-- the shard stands for the journal of this file's entries, with each decision dealt with and no trace due, and the ledger
-- has just that journal
pub record IsRestored {D : Type 0} (seen : D → List ℕ) (is_clean : D → Bool) (file : List ℕ) (shard : Held) (ledger : Ledger D) : Type 0 where
  pub past : Journal
  pub entries : FileHas file past
  pub settled : IsSettled shard past
  pub kept : HasJournal seen is_clean ledger past []

-- records are the entries of one journal, and of no other
abbrev pub EntriesTellJournals : Type 0
EntriesTellJournals = (records : List (List ℕ)) (past other : Journal) → AreEntries records past → AreEntries records other → other ≡ past

-- A shard that is restored from a file that has the entries of `early`, or those and all of `late`, stands for `early`, or
-- for the whole: there is no third.
abbrev pub AllOrNoneIsRestored : Type 0
AllOrNoneIsRestored = (early late : Journal) (file : List ℕ) (shard : Held) → HasAllOrNone early late file → Restores (records_of file) shard
    → IsSettled shard early ⊎ IsSettled shard (late ++ early)
