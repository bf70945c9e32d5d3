use Rattle.std.proofs.Common.{[], ◌∷◌, None, ap, sym, subst, ◌∙◌}
use Rattle.span_exporter.specs.Exports.{ExporterState}
use Rattle.script_session.specs.Pulling.{Export, PullsAll}
use Rattle.script_session.proofs.Pulls.{pulled-full, pulled-part}
use Rattle.script_session.proofs.output.Output.pull.Goals as goal

pub returns-in-AddedFull-clause-pulls : goal.returns-in-AddedFull-clause-pulls
returns-in-AddedFull-clause-pulls g c =
    let old = c.self.inside in
    let P : Export → Type 0 = λ old. PullsAll old (c.args.arrival ∷ []) (λ reason. 0) (c.send.new.exporter, c.send.new.report) in
    subst P c.self.view_is (pulled-full old.exporter c.pull.new.self c.send.new.exporter old.report c.send.new.report c.args.arrival None c.self.invariant.0 c.pull.ensures.pulled
    (sym c.in-AddedFull.is ∙ c.pull.ensures.answer) c.send.ensures.emptied c.send.ensures.size c.send.ensures.ends c.send.ensures.sent)

pub returns-in_default : goal.returns-in_default
returns-in_default g c =
    let old = c.self.inside in
    let P : Export → Type 0 = λ before. PullsAll before (c.args.arrival ∷ []) (λ reason. 0) (c.pull.new.self, old.report) in
    record {
      pulls = subst P c.self.view_is (pulled-part old.exporter c.pull.new.self old.report c.args.arrival None c.pull.ensures.pulled);
      goes_on = (
        ap (λ (e : ExporterState). e.size) c.pull.ensures.pulled ∙ ap (λ (o : Export). o.0.size) c.self.view_is,
        λ down. ap (λ (e : ExporterState). e.sink.is_down) c.pull.ensures.pulled ∙ ap (λ (o : Export). o.0.sink.is_down) c.self.view_is ∙ down,
      );
    }
