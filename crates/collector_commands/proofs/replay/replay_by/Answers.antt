use Rattle.std.proofs.Common.{ℕ, List, Option, sym, subst}
use Rattle.span_sink.specs.Sinks.{SinkState}
use Rattle.script_session.specs.Replay.{RunEnds}
use Rattle.collector_commands.specs.Configuration.{file_of}
use Rattle.collector_commands.specs.Courses.{Course, run_of, Replays}
use Rattle.collector_commands.specs.declared.outcome.Outcome.{Outcome}
use Rattle.collector_commands.proofs.Replaying.{Replays-ran}
use Rattle.collector_commands.proofs.replay.replay_by.Goals as goal

pub returns : goal.returns
returns g c = λ arguments.
    let course : Option (List ℕ) → Option (List ℕ) → Course = λ before after. record {
      arguments = arguments;
      file = file_of (λ v. v.items) c.args.file;
      unread = g.R.ScriptSource.given c.args.reader.now;
      unread_after = g.R.ScriptSource.given c.replay_run-sink.new.reader;
      taken = before;
      taken_after = after;
    } in
    let answer = c.replay_run-sink.result.1 in
    let after = c.replay_run-sink.result.0 in
    let From : SinkState → Type 0 = λ first. RunEnds (record (run_of (course first.taken after.taken) c.in-Ok.config after.failures) { failures = first.failures }) answer in
    let To : Option (List ℕ) → Type 0 = λ taken. RunEnds (run_of (course (g.W.Write.contents c.args.writer) taken) c.in-Ok.config after.failures) answer in
    let ends = subst To (sym c.end.ensures) (subst From c.new.ensures c.replay_run-sink.ensures) in
    let now = course (g.W.Write.contents c.args.writer) (g.W.Write.contents c.end.result) in
    let P : Outcome → Type 0 = λ outcome. Replays now outcome in
    subst P (sym c.outcome_of.ensures) (Replays-ran now c.in-Ok.config after.failures answer c.in-Ok.ensures.is_read ends)
