use Rattle.script_session.proofs.CalmReplays.{replays_agree}
use Rattle.script_session.proofs.laws.calm_replays_agree.Goals as goal

pub returns : goal.returns
returns c = replays_agree c.calm_scripts_agree.ensures c.calm_stops_agree.ensures
