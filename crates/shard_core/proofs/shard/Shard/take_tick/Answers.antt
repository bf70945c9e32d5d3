use Rattle.std.proofs.Common.{◌≤◌, arith}
use Rattle.shard_core.proofs.Forgetting.{opened-later}
use Rattle.shard_core.proofs.shard.Shard.take_tick.Goals as goal

pub invariant_of-self : goal.invariant_of-self
invariant_of-self c =
    let inside = c.self.inside in
    let later : inside.clock ≤ c.max-self-inside.result = (let e = c.max-self-inside.ensures in omega (arith, e)) in
    (c.self.invariant.0, c.self.invariant.1, c.self.invariant.2, opened-later inside.clock c.max-self-inside.result inside.buffer.episodes later c.self.invariant.3, c.self.invariant.4, c.self.invariant.5)
