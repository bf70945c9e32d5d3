use Rattle.std.proofs.Common.{◌≡◌, ◌++◌, ◌∷◌, [], ap, sym, ◌∙◌, arith, append_assoc, length}
use Rattle.pipeline.proofs.Gathered.{one_more, any_more}
use Rattle.pipeline.proofs.gathering.gather_shards.Goals as goal

pub loop-shard-preserved : goal.loop-shard-preserved
loop-shard-preserved g c =
    let h = c.loop-shard.invariant in
    let shard = c.in-Some.shard in
    let seat = c.push_reserved.ensures in
    let receiver = c.push_reserved-in-loop-shard.ensures in
    let sender = c.push_reserved-in-loop-shard-2.ensures in
    let taken : c.loop-shard.shard-iterator.rest.items ≡ shard ∷ c.next.new.self.rest.items = c.in-Some.ensures.steps.0 in
    let longer = ap (λ z. length z) taken in (
      append_assoc c.loop-shard.yielded (shard ∷ []) c.next.new.self.rest.items ∙ (ap (λ z. c.loop-shard.yielded ++ z) (sym taken) ∙ h.0),
      omega (arith, seat.len, longer, h.1),
      seat.capacity ∙ h.2,
      omega (arith, receiver.len, longer, h.3),
      receiver.capacity ∙ h.4,
      omega (arith, sender.len, longer, h.5),
      sender.capacity ∙ h.6,
      omega (arith, c.add.ensures.len, longer, h.7),
      c.add.ensures.capacity ∙ h.8,
      one_more (λ shard. shard.seat) c.loop-shard.ends.seats.items c.push_reserved.new.self.items c.args.ends.now.seats.items c.loop-shard.yielded shard seat.items h.9,
      one_more (λ shard. shard.receiver) c.loop-shard.ends.receivers.items c.push_reserved-in-loop-shard.new.self.items c.args.ends.now.receivers.items c.loop-shard.yielded shard receiver.items h.10,
      one_more (λ shard. shard.sender) c.loop-shard.ends.exports.items c.push_reserved-in-loop-shard-2.new.self.items c.args.ends.now.exports.items c.loop-shard.yielded shard sender.items h.11,
      one_more (λ shard. shard.counts) c.loop-shard.counted.counts.items c.add.new.self.counts.items c.args.counted.now.counts.items c.loop-shard.yielded shard c.add.ensures.counts h.12,
      any_more (λ shard. shard.is_full) c.loop-shard.counted.is_full c.add.new.self.is_full c.args.counted.now.is_full c.loop-shard.yielded shard c.add.ensures.full h.13,
    )
