use Rattle.std.proofs.Common.{ℕ, Bool, [], ◌∷◌, List, Option, refl, sym, ap, subst, ◌∙◌}
use Rattle.std.specs.Prelude.{not}
use Rattle.span_sink.specs.LineSinks.{LineSinkState, up_state}
use Rattle.tsc_script.specs.Instructions.{close}
use Rattle.script_session.specs.declared.listening.Unheard.{Unheard}
use Rattle.script_session.specs.declared.session.Session.{Session}
use Rattle.script_run.specs.World.{new_world, PlaysAll}
use Rattle.script_run.specs.Counts.{Reports}
use Rattle.config_shards.specs.Shards.{settings_by}
use Rattle.script_session.specs.Replay.{ReplayRun}
use Rattle.script_session.specs.Pulling.{AreOf}
use Rattle.script_session.proofs.Numbers.{Reports-new}
use Rattle.script_session.proofs.Leading.{leads_to, fell_before}
use Rattle.script_session.proofs.Finish.{run-ends, is_up_state, is_down_state, not-false}
use Rattle.script_session.proofs.replay.run_session.Goals as goal

pub returns : goal.returns
returns g c = λ config can unused new limiter.
    let session = c.args.session in
    let now = c.play_script-played.new.machine in
    let script = c.play_script-played.ensures in
    let s = settings_by config in
    let run : ReplayRun = record {
      settings = s;
      sizes = record { batch = session.output.0.size; queue = session.queue_capacity; keeps_doubles = session.keeps_doubles };
      lanes = config.lanes;
      shards = config.shards;
      taken = session.output.0.sink.taken;
      failures = session.output.0.sink.failures;
      taken_after = g.S.Sink.taken c.end-sink.result.0;
      failures_after = g.S.Sink.failures c.end-sink.result.0;
      unread = g.R.ScriptSource.given c.args.reader.now;
      unread_after = g.R.ScriptSource.given c.play_script-played.new.reader;
    } in
    let first : LineSinkState = up_state session.output.0.sink.taken session.output.0.sink.failures in
    let start = new_world config.lanes config.shards first in
    let R = λ (report : Option (List ℕ)). Reports s start report in
    let starts : AreOf s start session.connections session.shards.items session.limiter session.output session.closed = record {
      contacts_are = unused;
      settings_are = new.1;
      released_all = new.3;
      limiter_is = limiter;
      sink_is = ap (λ (b : Bool). let k : LineSinkState = record session.output.0.sink { is_down = b } in k) c.requires.up;
      reports = subst R (sym c.requires.nothing_counted) (Reports-new s config.lanes config.shards first);
      closed_is = c.requires.open;
    } in
    run-ends run c.play_script-played.result (not now.output.0.sink.is_down) now.closed now.output.0.sink now.output.1 _ _ script.whole script.stopped script.refused script.caused script.up script.closed script.down_closed
    (λ e. let same = (script.no_memory e).0 in
    (c.end-sink.ensures.taken ∙ ap (λ (m : Session g.row.S.Denot Unheard g.S.Sink). m.output.0.sink.taken) same, c.end-sink.ensures.failures ∙ ap (λ (m : Session g.row.S.Denot Unheard g.S.Sink). m.output.0.sink.failures) same, ap g.R.ScriptSource.given (script.no_memory e).1))
    (is_up_state now.output.0.sink run.taken_after run.failures_after c.end-sink.ensures.taken c.end-sink.ensures.failures)
    (is_down_state now.output.0.sink run.taken_after run.failures_after c.end-sink.ensures.taken c.end-sink.ensures.failures)
    (λ done leads. let r = leads.3 s start starts in leads_to s run.sizes run.lanes run.shards first done now.output.0.sink now.output.1 can refl r.0 r.1 (sym r.2.sink_is) r.2.reports now.closed (sym r.2.closed_is))
    (λ done fell.
    let r = fell.1.3 s start starts in
    let ends = fell.3.3 s r.0 r.2 in
    let B = λ (n : ℕ). PlaysAll s (record { batch = n; queue = fell.0.queue_capacity; keeps_doubles = fell.0.keeps_doubles }) r.0 (close ∷ []) ends.0 in
    let Q = λ (n : ℕ). PlaysAll s (record { batch = session.output.0.size; queue = n; keeps_doubles = fell.0.keeps_doubles }) r.0 (close ∷ []) ends.0 in
    let K = λ (b : Bool). PlaysAll s (record { batch = session.output.0.size; queue = session.queue_capacity; keeps_doubles = b }) r.0 (close ∷ []) ends.0 in
    let closes : PlaysAll s run.sizes r.0 (close ∷ []) ends.0 = subst K fell.1.2 (subst Q fell.1.1 (subst B fell.1.0 ends.1)) in
    fell_before run done now.output.0.sink now.output.1 can r.0 r.1 (sym (ap (λ (k : LineSinkState). k.is_down) r.2.sink_is) ∙ not-false fell.0.output.0.sink.is_down fell.2) ends.0 closes (sym ends.2.sink_is) ends.2.reports)
    c.end-sink.result.1 c.end-sink.ensures.answer
