use Rattle.shard_restore.proofs.TakenAgain.{taken_again}
use Rattle.shard_restore.proofs.again.take_again.Goals as goal

pub returns-clause-stands : goal.returns-clause-stands
returns-clause-stands c = taken_again c.fits_marks.result c.args.shard.now c.take-taken.new.self c.args.item c.take-taken.result _ _ _ _ c.is_refusal.ensures c.is_loss.ensures c.fits_marks.ensures c.take-taken.ensures.stands
