use Rattle.std.proofs.Common.{◌≤◌, length, reverse, ap, sym, arith}
use Rattle.std.specs.Option.{is_some}
use Rattle.journal_theory.specs.Journal.{due_now}
use Rattle.shard_journal.specs.Settings.{settings_of}
use Rattle.shard_journal.specs.Look.{Look}
use Rattle.world_theory.specs.World.{CoreShard}
use Rattle.span_world.proofs.Items.{none_due}
use Rattle.span_world.proofs.shard.CoreShard.may_decide.Goals as goal

pub returns-then-self-due-clause-enabled : goal.returns-then-self-due-clause-enabled
returns-then-self-due-clause-enabled c =
    let s = settings_of c.args.settings.now in
    let due = ap (λ (l : Look). l.due) c.requires.look in
    let same = ap (λ (sh : CoreShard). length (due_now s sh.journal)) c.self.view_is in
    let l : length (due_now s (reverse c.self.inside.journal.items)) ≤ c.self.inside.dealt = omega (arith, due, same) in
    rw (← c.self.view_is) (ap is_some (sym (none_due s (reverse c.self.inside.journal.items) c.self.inside.dealt c.args.answers.now l)))
