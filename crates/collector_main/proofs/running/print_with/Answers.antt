use Rattle.std.proofs.Common.{◌∙◌, ℕ, List, Option, Err, inr, refl, ap, sym, subst}
use Rattle.span_sink.specs.Manners.{takes_all}
use Rattle.span_sink.specs.Sinks.{SinkState}
use Rattle.span_sink.specs.LineSinks.{LineSinkState, up_state}
use Rattle.pipeline.specs.Outcome.{SinkAnswers}
use Rattle.pipeline.specs.Promise.{CoreRunTellsTo}
use Rattle.pipeline.specs.declared.fault.ServeFault.TheVariants.{NoMemory}
use Rattle.collector_main.proofs.running.print_with.Goals as goal

pub returns : goal.returns
returns g c =
    let answer = c.serve_on-lines.result.1 in
    let after : LineSinkState = c.serve_on-lines.result.0 in
    let begins = c.new-lines.ensures ∙ ap (λ (s : SinkState). up_state s.taken s.failures) (c.new-sink.ensures ∙ c.new-written.ensures) in
    let ends = c.end.ensures ∙ ap (λ (s : SinkState). s.taken) c.end-written.ensures ∙ c.end-sink.ensures.taken in
    let From : LineSinkState → Type 0 = λ first. SinkAnswers first.taken first.failures after.taken after.failures answer in
    let To : Option (List ℕ) → Type 0 = λ taken. SinkAnswers (g.W.Write.contents c.args.writer) 0 taken after.failures answer in
    let tells = subst To (sym ends) (subst From begins c.serve_on-lines.ensures.sink) in
    let RanFrom : LineSinkState → Type 0 = λ first. CoreRunTellsTo takes_all c.args.config first.taken first.failures after.taken after.failures answer in
    let RanTo : Option (List ℕ) → Type 0 = λ taken. CoreRunTellsTo takes_all c.args.config (g.W.Write.contents c.args.writer) 0 taken after.failures answer in
    let ran = subst RanTo (sym ends) (subst RanFrom begins c.serve_on-lines.ensures.ran) in
    inr (after.failures, answer, tells, ran, c.served_to.ensures)

pub returns-in-Err : goal.returns-in-Err
returns-in-Err g c = inr (0, Err NoMemory, (refl, refl), tt, refl)
