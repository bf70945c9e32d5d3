use Rattle.std.proofs.Common.{◌-◌, length}
use Rattle.script_session.proofs.taking.+tell_from.Given as goal

abbrev pub decreases-tell_from : goal.decreases-tell_from
decreases-tell_from g l = length l.shards.now - l.place
