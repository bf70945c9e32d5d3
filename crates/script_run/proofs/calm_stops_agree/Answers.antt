use Rattle.script_run.specs.World.{PlaysAll, new_world}
use Rattle.script_run.proofs.Stopping.{stops_alike}
use Rattle.script_run.proofs.calm_stops_agree.Goals as goal

pub returns : goal.returns
returns c s sizes lanes shards first script left right number a b x y ca cb =
    let w = stops_alike (λ m. PlaysAll s sizes (new_world lanes shards first) m a) (λ m. PlaysAll s sizes (new_world lanes shards first) m b) script left right number x y in
    c.calm_runs_agree.ensures s sizes lanes shards first w.0 a b w.1 w.2 ca cb
