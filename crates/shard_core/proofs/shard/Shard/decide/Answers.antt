-- What is decided, whichever policy did.
-- For the clause `decides` of `Shard::decide`.
use Rattle.shard_core.proofs.Deciding.{without_decider}
use Rattle.shard_core.proofs.shard.Shard.decide.Goals as goal

pub returns-clause-decides : goal.returns-clause-decides
returns-clause-decides g c =
    without_decider g.L.Limiter.asks c.args.self.now c.decide_with_decider.new.self c.decide_with_decider.result.0 c.decide_with_decider.result.1 c.args.limiter.now c.decide_with_decider.new.limiter c.decide_with_decider.ensures.decides
