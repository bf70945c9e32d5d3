use Rattle.std.proofs.Common.{reverse, ap, sym, ◌∙◌}
use Rattle.std.proofs.lemmas.List.{length-reverse}
use Rattle.std.proofs.lemmas.Result.{on_ok_weaker}
use Rattle.journal_theory.specs.Journal.{Entry, after_item, clock, notes}
use Rattle.shard_journal.specs.Settings.{settings_of}
use Rattle.shard_journal.proofs.Turns.{item_noted, due_is, entry_noted}
use Rattle.shard_journal.proofs.noting.note_entry.Goals as goal

pub returns : goal.returns
returns c =
    let s = settings_of c.args.settings.now in
    let e = c.args.entry.now in
    let before = reverse c.args.before.now in
    let n = notes s before in
    let m = after_item s e before e.item n in
    let noted = item_noted s e before n c.args.noted.now c.note_item.new.noted c.requires.noted (c.in_ok-note_item.ensures before (sym (length-reverse c.args.before.now)) (c.clock.ensures ∙ ap clock c.requires.past)) in
    let due = due_is s e before m c.note_item.new.noted c.as_slice.result.now noted (c.as_slice.ensures.value ∙ c.in_ok-due.ensures) in
    on_ok_weaker c.decide_each.result
    (λ f. f m noted ∙ entry_noted s e before (reverse c.args.past.now) c.as_slice.result.now c.as_slice-2.result.now c.requires.past due (c.as_slice-2.ensures.value ∙ ap (λ (x : Entry). x.answers) c.entry.view_is))
    c.decide_each.ensures
