use Rattle.http_lane.proofs.ReplyLemmas.{replies_determined}
use Rattle.http_lane.proofs.laws.replies_are_determined.Goals as goal

pub returns : goal.returns
returns g c = replies_determined _ _ _ _
