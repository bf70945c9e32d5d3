-- What the script led each session to.
-- For the contract of `run_both`.
use Rattle.std.proofs.Common.{◌≡◌, ◌∙◌, Option, ℕ, List, Result, ap, subst}
use Rattle.std.specs.Prelude.{not}
use Rattle.drop_ledger.specs.declared.report.Report.{Report}
use Rattle.tsc_script.specs.Stops.{is_up_after}
use Rattle.script_session.specs.Answers.{AnswersStop}
use Rattle.script_session.specs.declared.fault.ReplayFault.{ReplayFault}
use Rattle.script_session.proofs.Finish.{is_up_state}
use Rattle.script_session.proofs.SideBySide.{leads-alone, of-whole, and-left, and-right}
use Rattle.script_session.proofs.comparing.run_both.Goals as goal

pub returns-in-Ok-Ok : goal.returns-in-Ok-Ok
returns-in-Ok-Ok g c = record {
  played = λ old new can_old can_new is_old is_new.
      let script = c.play_script-played.ensures in
      let played = c.play_script-played.result in
      let start = c.args.sessions in
      let now = c.play_script-played.new.machine in
      let given = g.R.ScriptSource.given c.args.reader.now in
      let given_after = g.R.ScriptSource.given c.play_script-played.new.reader in
      let First : Result Report ReplayFault → Type 0 = λ answer. AnswersStop played now.first.output.1 answer in
      let Second : Result Report ReplayFault → Type 0 = λ answer. AnswersStop played now.second.output.1 answer in
      let first = subst First c.in-Ok-Ok.is-0 c.end-old_answer.ensures.answer in
      let second = subst Second c.in-Ok-Ok.is-1 c.end-new_answer.ensures.answer in
      let whole = of-whole _ played script.whole first.0 in
      let up = script.up ∙ ap is_up_after first.0 in
      let first_up = and-left (not now.first.output.0.sink.is_down) (not now.second.output.0.sink.is_down) up in
      let second_up = and-right (not now.first.output.0.sink.is_down) (not now.second.output.0.sink.is_down) up in (
        whole.0,
        whole.1,
        leads-alone old given given_after start.first.connections start.first.shards.items start.first.limiter start.first.output start.first.queue_capacity start.first.keeps_doubles start.first.closed whole.0
            now.first.connections now.first.shards.items now.first.limiter now.first.output now.first.closed c.in-Ok-Ok.old_report can_old is_old whole.2.0.3
            (is_up_state now.first.output.0.sink _ _ c.end-old_answer.ensures.taken c.end-old_answer.ensures.failures first_up) first.1,
        leads-alone new given given_after start.second.connections start.second.shards.items start.second.limiter start.second.output start.second.queue_capacity start.second.keeps_doubles start.second.closed whole.0
            now.second.connections now.second.shards.items now.second.limiter now.second.output now.second.closed c.in-Ok-Ok.new_report can_new is_new whole.2.1.3
            (is_up_state now.second.output.0.sink _ _ c.end-new_answer.ensures.taken c.end-new_answer.ensures.failures second_up) second.1,
      );
}
