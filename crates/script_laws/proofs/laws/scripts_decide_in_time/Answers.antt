use Rattle.script_laws.proofs.Shards.{scripts_decide_in_time}
use Rattle.script_laws.proofs.laws.scripts_decide_in_time.Goals as goal

pub returns : goal.returns
returns c = scripts_decide_in_time
