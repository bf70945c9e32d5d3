use Rattle.script_run.proofs.CalmRuns.{scripts_agree}
use Rattle.script_run.proofs.calm_scripts_agree.Goals as goal

pub returns : goal.returns
returns c = scripts_agree c.calm_runs_agree.ensures
