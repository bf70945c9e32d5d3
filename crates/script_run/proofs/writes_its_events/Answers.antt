use Rattle.script_run.proofs.writes_its_events.Goals as goal
use Rattle.script_run.proofs.Writing.{each_writes_its_events}

pub returns : goal.returns
returns c = each_writes_its_events
