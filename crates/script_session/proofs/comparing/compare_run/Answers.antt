-- Both sessions are new ones of their configurations.
-- For the contract of `compare_run`.
use Rattle.std.proofs.Common.{ap}
use Rattle.span_sink.specs.LineSinks.{LineSinkState}
use Rattle.script_session.proofs.SideBySide.{can-play}
use Rattle.script_session.proofs.comparing.compare_run.Goals as goal

pub run_both-requires : goal.run_both-requires
run_both-requires g c = record {
  first_open = c.in-Ok.ensures.open;
  second_open = c.in-Ok-session_of.ensures.open;
  first_up = ap (λ (s : LineSinkState). s.is_down) c.in-Ok.ensures.sink;
  second_up = ap (λ (s : LineSinkState). s.is_down) c.in-Ok-session_of.ensures.sink;
}

pub returns : goal.returns
returns g c =
    let old = c.in-Ok.ensures in
    let new = c.in-Ok-session_of.ensures in
    record {
      played =
          c.run_both.ensures.played c.args.old c.args.new (can-play c.args.old c.requires.old) (can-play c.args.new c.requires.new)
          (record { contacts_are = old.connections; shards_are = old.shards; limiter_is = old.limiter; sink_is = old.sink; nothing_counted = old.nothing_counted; batch_is = old.batch; queue_is = old.queue; doubles_are = old.doubles; is_open = old.open })
          (record { contacts_are = new.connections; shards_are = new.shards; limiter_is = new.limiter; sink_is = new.sink; nothing_counted = new.nothing_counted; batch_is = new.batch; queue_is = new.queue; doubles_are = new.doubles; is_open = new.open });
    }
