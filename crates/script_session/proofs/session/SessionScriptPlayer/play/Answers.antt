use Rattle.std.proofs.Common.{◌∙◌, ℕ, Bool, subst}
use Rattle.tsc_script.specs.Instructions.{instruction_of_command}
use Rattle.script_run.specs.World.{Plays}
use Rattle.script_session.proofs.Quiet.{PlaysAll-push}
use Rattle.script_session.proofs.session.SessionScriptPlayer.play.Goals as goal

pub returns-clause-played : goal.returns-clause-played
returns-clause-played g c = λ start done before. (
  c.obey.ensures.leaves.1.0 ∙ before.0,
  c.obey.ensures.leaves.0 ∙ before.1,
  c.obey.ensures.leaves.3 ∙ before.2,
  λ s w are.
      let so_far = before.3 s w are in
      let step = c.obey.ensures.plays s so_far.0 so_far.2 in
      let P = λ (n : ℕ). Plays s (record { batch = n; queue = c.args.self.now.queue_capacity; keeps_doubles = c.args.self.now.keeps_doubles }) so_far.0 (instruction_of_command c.args.command) step.0 in
      let Q = λ (n : ℕ). Plays s (record { batch = start.output.0.size; queue = n; keeps_doubles = c.args.self.now.keeps_doubles }) so_far.0 (instruction_of_command c.args.command) step.0 in
      let R = λ (b : Bool). Plays s (record { batch = start.output.0.size; queue = start.queue_capacity; keeps_doubles = b }) so_far.0 (instruction_of_command c.args.command) step.0 in (
        step.0,
        PlaysAll-push s (record { batch = start.output.0.size; queue = start.queue_capacity; keeps_doubles = start.keeps_doubles }) w so_far.0 step.0 done (instruction_of_command c.args.command) so_far.1 (subst R before.2 (subst Q before.1 (subst P before.0 step.1))),
        step.2,
      ),
)
