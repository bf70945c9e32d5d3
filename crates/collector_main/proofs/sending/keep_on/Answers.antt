use Rattle.std.proofs.Common.{◌∙◌, ℕ, List, Option, inr, ap, subst, sym}
use Rattle.span_sink.specs.Manners.{prints_refused}
use Rattle.span_sink.specs.LineSinks.{LineSinkState, up_state}
use Rattle.span_sink.specs.Sinks.{SinkState}
use Rattle.batch_post.specs.Posts.{PrintedState}
use Rattle.pipeline.specs.Outcome.{SinkAnswers}
use Rattle.pipeline.specs.Promise.{CoreRunTellsTo}
use Rattle.collector_main.proofs.sending.keep_on.Goals as goal

pub returns : goal.returns
returns g c =
    let answer = c.serve_through-watched.result.1 in
    let after : LineSinkState = c.serve_through-watched.result.0.destination.lines in
    let begins =
    ap (λ (s : PrintedState). s.lines) (c.new-watched.ensures ∙ c.new-both.ensures)
    ∙ c.new.ensures
    ∙ ap (λ (s : SinkState). up_state s.taken s.failures) (c.new-sink.ensures ∙ c.new-written.ensures)
    in
    let ends =
    c.end.ensures
    ∙ ap (λ (s : SinkState). s.taken) c.end-written.ensures
    ∙ c.end-sink.ensures.taken
    ∙ ap (λ (s : LineSinkState). s.taken) (c.end-lines.ensures ∙ ap (λ (s : PrintedState). s.lines) c.end-both.ensures)
    in
    let From : LineSinkState → Type 0 = λ first. SinkAnswers first.taken first.failures after.taken after.failures answer in
    let To : Option (List ℕ) → Type 0 = λ taken. SinkAnswers (g.W.Write.contents c.args.writer) 0 taken after.failures answer in
    let RanFrom : LineSinkState → Type 0 = λ first. CoreRunTellsTo prints_refused c.args.config first.taken first.failures after.taken after.failures answer in
    let RanTo : Option (List ℕ) → Type 0 = λ taken. CoreRunTellsTo prints_refused c.args.config (g.W.Write.contents c.args.writer) 0 taken after.failures answer in
    let tells = c.serve_through-watched.ensures in
    let sink = subst To (sym ends) (subst From begins tells.sink) in
    let ran = subst RanTo (sym ends) (subst RanFrom begins tells.ran) in
    inr (after.failures, answer, sink, ran, c.served_to.ensures)
