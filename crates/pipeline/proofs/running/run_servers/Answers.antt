use Rattle.std.proofs.Common.{◌<◌, ◌∙◌, ap, false, length, refl, sym, subst, []}
use Rattle.std.proofs.lemmas.List.{length-replicate}
use Rattle.std.specs.List.{list_any}
use Rattle.span_exporter.specs.Exports.{ExporterState}
use Rattle.span_sink.specs.LineSinks.{up_state}
use Rattle.pipeline.specs.Promise.{recorded_names}
use Rattle.pipeline.proofs.SinkWent.{none_ended}
use Rattle.pipeline.proofs.Told.{up_as}
use Rattle.pipeline.proofs.running.run_servers.Goals as goal

pub run_in-exporter-requires-clause-exporter_is : goal.run_in-exporter-requires-clause-exporter_is
run_in-exporter-requires-clause-exporter_is g c κs within =
    let made = c.in-Ok.ensures.made in
    (ap (λ e. e.size) made, ap (λ e. length e.ends) made ∙ length-replicate c.args.config.shards false)

pub run_in-exporter-requires-clause-new_exporter : goal.run_in-exporter-requires-clause-new_exporter
run_in-exporter-requires-clause-new_exporter g c κs within =
    let made = c.in-Ok.ensures.made in (
      ap (λ e. e.batch) made,
      subst (λ n. 0 < n) (sym (ap (λ e. e.size) made)) c.requires.ranges.batch,
      ap (λ e. list_any (λ ended. ended) e.ends) made ∙ none_ended c.args.config.shards,
      ap (λ e. e.sink.is_down) made ∙ c.requires.up,
    )

pub returns-clause-ran : goal.returns-clause-ran
returns-clause-ran g c = record {
  old = c.in-Ok.exporter;
  new = c.run_in-exporter.result.0;
  size = ap (λ e. e.size) c.in-Ok.ensures.made;
  manner_is = ap (λ e. e.manner) c.in-Ok.ensures.made;
  names_are = ap (λ e. e.names) c.in-Ok.ensures.made;
  first = ap (λ e. e.sink) c.in-Ok.ensures.made ∙ up_as (g.Output.Destination.state c.args.destination) c.requires.up;
  taken_is = ap (λ s. s.taken) (sym c.end.ensures);
  failures_are = ap (λ s. s.failures) (sym c.end.ensures);
  tells = c.run_in-exporter.ensures.ran;
}

pub returns-in-Err-clause-ran : goal.returns-in-Err-clause-ran
returns-in-Err-clause-ran g c =
    let state = g.Output.Destination.state c.args.destination in
    let none : ExporterState = record { batch = []; policies = []; names = recorded_names c.args.config; size = c.args.config.send_batch_size; ends = []; manner = g.Output.Destination.manner; sink = up_state state.taken state.failures } in record {
      old = none;
      new = none;
      size = refl;
      manner_is = refl;
      names_are = refl;
      first = refl;
      taken_is = sym (ap (λ d. (g.Output.Destination.state d).taken) c.in-Err.ensures.back);
      failures_are = sym (ap (λ d. (g.Output.Destination.state d).failures) c.in-Err.ensures.back);
      tells = tt;
    }
