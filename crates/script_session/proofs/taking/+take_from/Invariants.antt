use Rattle.std.proofs.Common.{length}
use Rattle.script_session.proofs.taking.+take_from.Given as goal

abbrev pub decreases-take_from : goal.decreases-take_from
decreases-take_from g l = length l.queues.now
