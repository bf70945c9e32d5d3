-- What is restored from the records of a ledger.
use Rattle.std.specs.Prelude.{ℕ, ◌≡◌, Bool, false, List, []}
use Rattle.journal_theory.specs.Journal.{Entry, Journal, IsAnswered}
use Rattle.journal_theory.specs.Fate.{effect, effect_dealt}
use Rattle.shard_core.specs.Held.{Held, StandsFor, settings, has_due}
use Rattle.shard_restore.specs.Entries.{AreEntries}

-- The shard stands for this journal, each of whose decisions was dealt with: so what it has released, counted and
-- remembers is what the journal says, and no trace is due.
pub record IsSettled (h : Held) (past : Journal) : Type 0 where
  pub dealt : ℕ
  pub stands : StandsFor h past dealt
  pub all_dealt : effect_dealt (settings h) past dealt ≡ effect (settings h) past
  pub answered : IsAnswered (settings h) past

-- the shard is settled by the journal of the entries that these records are, in order
pub record Restores (records : List (List ℕ)) (h : Held) : Type 0 where
  pub past : Journal
  pub entries : AreEntries records past
  pub settled : IsSettled h past
  pub none_due : has_due h ≡ false

-- the entry, with these answers at it
abbrev pub answered_by : Entry → (answers : List (List Bool)) → Entry
answered_by e answers = record e { answers = answers }

-- a shard that has taken nothing is restored from no record
abbrev pub NewIsRestored : Type 0
NewIsRestored = (h : Held) → StandsFor h [] 0 → has_due h ≡ false → Restores [] h
