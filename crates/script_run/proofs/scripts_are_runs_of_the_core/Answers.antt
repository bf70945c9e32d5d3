use Rattle.script_run.proofs.scripts_are_runs_of_the_core.Goals as goal
use Rattle.script_run.proofs.Runs.{each_is_a_run_of_core}

pub returns : goal.returns
returns c = each_is_a_run_of_core
