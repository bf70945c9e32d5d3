use Rattle.std.proofs.Common.{sym, subst}
use Rattle.tsc_script.specs.declared.command.ScriptCommand.{ScriptCommand}
use Rattle.tsc_script.specs.Instructions.{instruction_of_command}
use Rattle.script_session.specs.Playing.{PlaysOne}
use Rattle.script_session.proofs.session.Session.obey.Goals as goal

pub returns-in-Receive-clause-plays : goal.returns-in-Receive-clause-plays
returns-in-Receive-clause-plays g c = subst (λ (command : ScriptCommand). PlaysOne c.args.self.now (instruction_of_command command) c.receive.new.self) (sym c.in-Receive.is) c.receive.ensures.plays

pub returns-in-Tick-clause-plays : goal.returns-in-Tick-clause-plays
returns-in-Tick-clause-plays g c = subst (λ (command : ScriptCommand). PlaysOne c.args.self.now (instruction_of_command command) c.tick.new.self) (sym c.in-Tick.is) c.tick.ensures.plays

pub returns-in-Close-clause-plays : goal.returns-in-Close-clause-plays
returns-in-Close-clause-plays g c = subst (λ (command : ScriptCommand). PlaysOne c.args.self.now (instruction_of_command command) c.close.new.self) (sym c.in-Close.is) c.close.ensures.plays
