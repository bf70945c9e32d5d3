use Rattle.std.proofs.Common.{subst}
use Rattle.pipeline.specs.Promise.{CoreRunTellsTo}
use Rattle.tsc_config.specs.declared.config.Config.{Config}
use Rattle.collector_serve.specs.Requests.{export_room}
use Rattle.collector_main.proofs.Rooms as rooms
use Rattle.collector_main.proofs.sending.serve_through.Goals as goal

pub returns-clause-ran : goal.returns-clause-ran
returns-clause-ran g c =
    let answer = c.serve_on-destination.result.1 in
    let first = g.Output.Destination.state c.args.destination in
    let last = g.Output.Destination.state c.serve_on-destination.result.0 in
    let By : Config → Type 0 = λ by. CoreRunTellsTo g.Output.Destination.manner by first.taken first.failures last.taken last.failures answer in
    rooms.tells _ c.args.config (export_room c.args.config) _ _ _ _ answer (subst By c.with_export_room-config.ensures.room c.serve_on-destination.ensures.ran)
