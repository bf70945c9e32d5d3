use Rattle.std.proofs.Common.{reverse, ap, sym, ◌∙◌}
use Rattle.std.proofs.lemmas.List.{length-reverse}
use Rattle.std.proofs.lemmas.Result.{IfOk-weaker}
use Rattle.journal_theory.specs.Journal.{clock}
use Rattle.shard_journal.specs.Settings.{settings_of}
use Rattle.shard_journal.proofs.Turns.{last_first, due_now_is}
use Rattle.shard_journal.proofs.answers.due_now.Goals as goal

pub returns : goal.returns
returns c =
    let s = settings_of c.args.settings.now in
    let e = c.in-Some.entry.now in
    let before = reverse c.in-Some.before.now in
    let past = last_first c.args.journal.now c.in-Some.before.now e c.in-Some.ensures.cases.0 in
    let noted = c.in_ok-note_item.ensures before (sym (length-reverse c.in-Some.before.now)) (c.clock.ensures ∙ ap clock past) in
    IfOk-weaker c.due_at.result _ _
    (λ due h. due_now_is s e before (reverse c.args.journal.now) c.in_ok-noted.noted c.note_item.new.noted due.items past c.in_ok-noted.ensures noted h)
    c.due_at.ensures
