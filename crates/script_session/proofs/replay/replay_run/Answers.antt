-- The session has the sizes of its configuration, and a sink as it was given.
-- For the contract of `replay_run`.
use Rattle.std.proofs.Common.{ℕ, List, Option, ap, sym, subst}
use Rattle.span_sink.specs.LineSinks.{LineSinkState}
use Rattle.config_shards.specs.Shards.{settings_by}
use Rattle.script_run.specs.Laws.{CanPlay}
use Rattle.script_run.specs.World.{Sizes}
use Rattle.script_session.specs.Replay.{RunEnds}
use Rattle.script_session.proofs.SideBySide.{can-play, same-sizes}
use Rattle.script_session.proofs.replay.replay_run.Goals as goal

pub run_session-requires : goal.run_session-requires
run_session-requires g c = record {
  «open» = c.in-Ok.ensures.open;
  up = ap (λ (s : LineSinkState). s.is_down) c.in-Ok.ensures.sink;
  nothing_counted = c.in-Ok.ensures.nothing_counted;
}

pub returns-in-Ok : goal.returns-in-Ok
returns-in-Ok g c =
    let config = c.args.config in
    let made = c.in-Ok.ensures in
    let session = c.in-Ok.session in
    let Runs = λ (sizes : Sizes) (taken : Option (List ℕ)) (failures : ℕ). RunEnds (record {
      settings = settings_by config;
      sizes = sizes;
      lanes = config.lanes;
      shards = config.shards;
      taken = taken;
      failures = failures;
      taken_after = g.S.Sink.taken c.run_session.result.0;
      failures_after = g.S.Sink.failures c.run_session.result.0;
      unread = g.R.ScriptSource.given c.args.reader.now;
      unread_after = g.R.ScriptSource.given c.run_session.new.reader;
    }) c.run_session.result.1 in
    let sizes = same-sizes config session.output.0.size session.queue_capacity session.keeps_doubles made.batch made.queue made.doubles in
    let can = subst (λ (z : Sizes). CanPlay (settings_by config) z config.lanes) (sym sizes) (can-play config c.requires.ranges) in
    let ran = c.run_session.ensures config can made.connections made.shards made.limiter in
    let sized = subst (λ (z : Sizes). Runs z session.output.0.sink.taken session.output.0.sink.failures) sizes ran in
    subst (λ (s : LineSinkState). Runs (record { batch = config.send_batch_size; queue = config.queue_capacity; keeps_doubles = config.keeps_doubles }) s.taken s.failures) made.sink sized
