use Rattle.std.proofs.Common.{ap, sym, ◌∙◌}
use Rattle.journal_theory.specs.Journal.{Notes, finding, notes}
use Rattle.journal_theory.specs.Marked.{marks_apply_to, marks_apply_to_ids}
use Rattle.shard_journal.specs.Settings.{settings_of}
use Rattle.shard_journal.specs.Look.{Look}
use Rattle.shard_journal.proofs.Short.{marks_short}
use Rattle.shard_journal.proofs.looking.LookBack.marks_apply.Goals as goal

pub returns : goal.returns
returns c past e =
    let s = settings_of c.args.settings.now in
    let noted = ap (λ (l : Look). l.noted) (c.self.view_is ∙ e) in
    c.marks_apply_to.ensures
    ∙ ap (marks_apply_to s c.self.inside.noted c.args.refused c.args.lost) c.finding-found.ensures
    ∙ ap (λ (n : Notes). marks_apply_to s n c.args.refused c.args.lost (finding s n c.in-Some.ids.trace)) noted
    ∙ marks_short s (notes s past) c.args.refused c.args.lost c.in-Some.ids.trace
    ∙ ap (marks_apply_to_ids s past c.args.refused c.args.lost) (sym c.in-Some.is)
