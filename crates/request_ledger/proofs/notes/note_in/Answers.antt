-- A note's payload is read as that note.
use Rattle.std.proofs.Common.{rules, ◌≡◌, ◌∙◌, ap}
use Rattle.request_ledger.specs.Entries.{note_in}
use Rattle.request_ledger.proofs.Back.{note_back}
use Rattle.request_ledger.proofs.notes.note_in.Goals as goal

pub returns-in-33-Some-eq3-clause-back : goal.returns-in-33-Some-eq3-clause-back
returns-in-33-Some-eq3-clause-back c n fits is =
    let exact : c.told_counted.result ≡ note_in c.args.payload.now = search rules in
    exact ∙ ap note_in is ∙ note_back n fits

pub returns-in-25-Some-eq4-clause-back : goal.returns-in-25-Some-eq4-clause-back
returns-in-25-Some-eq4-clause-back c n fits is =
    let exact : c.told_handed.result ≡ note_in c.args.payload.now = search rules in
    exact ∙ ap note_in is ∙ note_back n fits
