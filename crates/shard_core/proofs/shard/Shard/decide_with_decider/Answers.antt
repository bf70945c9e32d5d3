-- What was decided, and which policy did.
-- For the clause `decides` of `decide_with_decider`.
use Rattle.shard_core.proofs.Deciding.{without_answers}
use Rattle.shard_core.proofs.shard.Shard.decide_with_decider.Goals as goal

pub returns-clause-decides : goal.returns-clause-decides
returns-clause-decides g c =
    let made = c.decide_with_answers-decided.result in
    without_answers g.L.Limiter.asks c.args.self.now c.decide_with_answers-decided.new.self made.decided made.decider made.answers.items c.args.limiter.now c.decide_with_answers-decided.new.limiter c.decide_with_answers-decided.ensures.decides
