use Rattle.script_run.proofs.calm_runs_agree.Goals as goal
use Rattle.script_run.proofs.CalmRuns.{calm_runs_agree}

pub returns : goal.returns
returns c = calm_runs_agree c.line_is_unique.ensures
