use Rattle.std.proofs.Common.{ℕ, List, sym, subst}
use Rattle.journal_entry.specs.Reading.{IsEntry}
use Rattle.shard_restore.specs.Entries.{written}
use Rattle.shard_recording.proofs.recording.record_entry.Goals as goal

pub returns-in-Ok-append_entry-clause-ok : goal.returns-in-Ok-append_entry-clause-ok
returns-in-Ok-append_entry-clause-ok g c e early late is back journal =
    c.in-Ok-append_entry.ensures.ok e early late (subst (λ (b : List ℕ). IsEntry b (written e)) (sym c.deref.ensures.value) (c.in-Ok.ensures.entry e is back)) journal
