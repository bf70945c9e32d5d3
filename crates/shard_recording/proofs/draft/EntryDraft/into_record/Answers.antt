use Rattle.std.proofs.Common.{◌≡◌, ℕ, List, rules, sym, subst}
use Rattle.journal_entry.specs.Bytes.{bytes_of_entry}
use Rattle.journal_entry.specs.Reading.{IsEntry}
use Rattle.shard_restore.specs.Entries.{written}
use Rattle.shard_recording.proofs.draft.EntryDraft.into_record.Goals as goal

pub returns-clause-entry : goal.returns-clause-entry
returns-clause-entry c e is back =
    let bytes : c.put_entry.new.out.items ≡ bytes_of_entry (written e) = search rules in
    subst (λ (b : List ℕ). IsEntry b (written e)) (sym bytes) (c.entries_are_read.ensures (written e) back).0
