use Rattle.script_session.proofs.Starts.{all_new}
use Rattle.script_session.proofs.replay.parts_of.Goals as goal

pub returns-clause-shards : goal.returns-clause-shards
returns-clause-shards c =
    let made = c.in_ok-shards.ensures in
    all_new c.args.config.now c.args.config.now.shards c.in_ok-shards.shards.items made.length made.new
