use Rattle.std.proofs.Common.{◌≡◌, ◌<◌, reverse, length, List, Option, Some, None, slice_get, sym, ap, ◌∙◌, arith, refl}
use Rattle.std.specs.Option.{option_and_then}
use Rattle.std.proofs.lemmas.Result.{IfOk-weaker}
use Rattle.std.proofs.lemmas.Option.{slice_get_past, slice_get_read}
use Rattle.journal_theory.specs.Journal.{Opening}
use Rattle.journal_theory.specs.Fate.{Effect}
use Rattle.shard_journal.specs.Settings.{settings_of}
use Rattle.journal_theory.specs.Answered.{effect_answered, effect_answered_at}
use Rattle.shard_journal.proofs.answers.decision_at.Goals as goal

pub returns-then-place-len : goal.returns-then-place-len
returns-then-place-len c =
    let os = c.in_ok-due.due.items in
    let f = effect_answered (settings_of c.args.settings.now) (reverse c.args.journal.now) c.args.answers.now in
    let none : slice_get os c.args.place ≡ None = slice_get_past os c.args.place (omega arith) in
    ap (option_and_then f) (sym none ∙ ap (λ (ps : List Opening). slice_get ps c.args.place) c.in_ok-due.ensures)

pub returns : goal.returns
returns c =
    let journal = reverse c.args.journal.now in
    let os = c.in_ok-due.due.items in
    let f = effect_answered (settings_of c.args.settings.now) journal c.args.answers.now in
    let within : c.args.place < length os = omega arith in
    let there : slice_get os c.args.place ≡ Some c.index.result.now = slice_get_read os (length os) c.args.place c.index.result.now refl within c.index.ensures in
    IfOk-weaker c.effect_answered.result
    (λ (x : Option Effect). x ≡ f c.index.result.now)
    (λ (x : Option Effect). x ≡ effect_answered_at (settings_of c.args.settings.now) journal c.args.place c.args.answers.now)
    (λ x e. e ∙ ap (option_and_then f) (sym there ∙ ap (λ (ps : List Opening). slice_get ps c.args.place) c.in_ok-due.ensures))
    c.effect_answered.ensures
