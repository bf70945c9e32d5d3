use Rattle.std.proofs.Common.{subst}
use Rattle.tsc_config.specs.declared.config.Config.{Config}
use Rattle.collector_main.specs.Serving.{RunsTo}
use Rattle.collector_main.specs.Waiting.{waits}
use Rattle.collector_main.proofs.Waiting as waiting
use Rattle.collector_main.proofs.running.serve_with.Goals as goal

pub returns : goal.returns
returns g c =
    let contents = g.W.Write.contents in
    let outcome = c.serve_as.result.1 in
    let By : Config → Type 0 = λ by. RunsTo by (contents c.args.writer) (contents c.serve_as.result.0) outcome in
    waiting.runs c.args.config (waits c.args.config) (waiting.waits_as c.args.config.waits_for_room _) _ _ outcome
    (subst By c.waiting_where_kept-config.ensures.waits c.serve_as.ensures)
