use Rattle.std.proofs.Common.{◌≡◌, ap, reverse, sym, ◌∙◌}
use Rattle.std.proofs.lemmas.Result.{IfOk-weaker}
use Rattle.journal_theory.specs.Fate.{Effect, effect_of_finding, effect_of_span}
use Rattle.otlp_types.specs.declared.span.Span.{Span}
use Rattle.shard_journal.specs.Settings.{settings_of}
use Rattle.shard_journal.specs.Found.{the_finding}
use Rattle.shard_journal.proofs.Turns.{span_effect}
use Rattle.shard_journal.proofs.answers.effect_of_span.Goals as goal

pub returns : goal.returns
returns c =
    let s = settings_of c.args.settings.now in
    let before = reverse c.args.before.now in
    let a = c.args.arrival.now in
    let f = the_finding c.finding-found.result in
    let l = c.in_ok-noted.noted in
    IfOk-weaker c.effect_of_finding.result
    (λ (x : Effect). x ≡ effect_of_finding s before l a f)
    (λ (x : Effect). x ≡ effect_of_span s before c.args.refused a a.rec.span.ids)
    (λ x e. e ∙ span_effect s before c.args.refused a c.in-Some.ids l f c.if-refused.false (ap (λ (a : Span). a.ids) (sym c.get.ensures) ∙ c.in-Some.is) c.in_ok-noted.ensures c.finding-found.ensures)
    c.effect_of_finding.ensures
