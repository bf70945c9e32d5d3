use Rattle.shard_journal.specs.Settings.{settings_of}
use Rattle.shard_journal.proofs.Turns.{nothing_noted}
use Rattle.shard_journal.proofs.noting.notes_of.Goals as goal

pub loop-at-init : goal.loop-at-init
loop-at-init c = nothing_noted (settings_of c.args.settings.now) c.new-noted.result c.new-noted.ensures
