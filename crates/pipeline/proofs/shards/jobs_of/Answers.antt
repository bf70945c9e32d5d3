use Rattle.std.proofs.Common.{sym, subst, arith, map, vec_len, All, Some, refl}
use Rattle.std.proofs.lemmas.List.Elements.{All-push, All-pop}
use Rattle.lane_queue.specs.Ends.{IsNew}
use Rattle.pipeline.specs.Made.{NumberedFrom, HasNodes, IsReady}
use Rattle.config_shards.specs.Shards.{IsNewShard}
use Rattle.pipeline.specs.Promise.{HasSettings}
use Rattle.pipeline.proofs.Dealt.{dealt, numbered, all_dealt, all_reverse}
use Rattle.pipeline.proofs.shards.jobs_of.Goals as goal

pub loop-shard-preserved : goal.loop-shard-preserved
loop-shard-preserved g c =
    let h = c.loop-shard.invariant in
    let shards = c.in-Some.ensures in
    let seats = c.take_last.ensures in
    let receivers = c.take_last-in-Some.ensures in
    let exports = c.take_last-in-Some-2.ensures in
    let pushed = c.push_reserved.ensures in
    let shard = All-pop (IsNewShard c.args.config.now) c.loop-shard.shards.items c.pop.new.self.items (Some c.in-Some.shard) shards.items h.4 in
    let seat = All-pop (λ seat. HasNodes seat c.args.config.now.policies) c.loop-shard.seats.items c.take_last.new.self.items (Some c.take_last.result) seats.items h.5 in
    let receiver = All-pop (λ r. All IsNew r.ends) c.loop-shard.receivers.items c.take_last-in-Some.new.self.items (Some c.take_last-in-Some.result) receivers.items h.6 in
    let export = All-pop IsNew c.loop-shard.exports.items c.take_last-in-Some-2.new.self.items (Some c.take_last-in-Some-2.result) exports.items h.7 in (
      omega (arith, shards.len, pushed.len, h.0),
      omega (arith, shards.len, receivers.len, h.1),
      omega (arith, shards.len, exports.len, h.2),
      omega (arith, shards.len, seats.len, h.3),
      shard.0,
      seat.0,
      receiver.0,
      export.0,
      subst (All (λ job. IsReady job.shard job.receiver job.sender job.seat)) (sym pushed.items)
          (All-push (λ job. IsReady job.shard job.receiver job.sender job.seat) c.loop-shard.jobs.items _ h.8
          (shard.1.0, shard.1.1, shard.1.2, receiver.1, export.1, subst (HasNodes c.take_last.result) (sym shard.1.4) seat.1)),
      dealt (λ job. job.seat) c.args.ends.seats.items c.loop-shard.seats.items c.take_last.new.self.items c.loop-shard.jobs.items _ c.take_last.result _ seats.items pushed.items refl h.9,
      dealt (λ job. job.receiver) c.args.ends.receivers.items c.loop-shard.receivers.items c.take_last-in-Some.new.self.items c.loop-shard.jobs.items _ c.take_last-in-Some.result _ receivers.items pushed.items refl h.10,
      dealt (λ job. job.sender) c.args.ends.exports.items c.loop-shard.exports.items c.take_last-in-Some-2.new.self.items c.loop-shard.jobs.items _ c.take_last-in-Some-2.result _ exports.items pushed.items refl h.11,
      numbered (λ job. job.number) (vec_len c.loop-shard.shards) (vec_len c.pop.new.self) c.loop-shard.jobs.items _ _ (sym shards.len) c.len.ensures pushed.items h.12,
      subst (All (λ job. HasSettings c.args.config.now job.shard)) (sym pushed.items) (All-push (λ job. HasSettings c.args.config.now job.shard) c.loop-shard.jobs.items _ h.13 shard.1.3),
      omega (arith, pushed.capacity, h.14),
    )

pub returns-clause-ends : goal.returns-clause-ends
returns-clause-ends g c =
    let h = c.loop-shard.invariant in (
      all_dealt (λ job. job.seat) c.args.ends.seats.items c.loop-shard.seats.items c.loop-shard.jobs.items c.reverse.new.self.items c.reverse.ensures.items (omega (arith, c.loop-shard.seats.ok.0, h.3, c.in_default.ensures.cases.0)) h.9,
      all_dealt (λ job. job.receiver) c.args.ends.receivers.items c.loop-shard.receivers.items c.loop-shard.jobs.items c.reverse.new.self.items c.reverse.ensures.items (omega (arith, c.loop-shard.receivers.ok.0, h.1, c.in_default.ensures.cases.0)) h.10,
      all_dealt (λ job. job.sender) c.args.ends.exports.items c.loop-shard.exports.items c.loop-shard.jobs.items c.reverse.new.self.items c.reverse.ensures.items (omega (arith, c.loop-shard.exports.ok.0, h.2, c.in_default.ensures.cases.0)) h.11,
    )

pub returns-clause-numbers : goal.returns-clause-numbers
returns-clause-numbers g c = subst (λ n. NumberedFrom n (map (λ job. job.number) c.reverse.new.self.items)) c.in_default.ensures.cases.0
    (subst (λ z. NumberedFrom (vec_len c.loop-shard.shards) (map (λ job. job.number) z)) (sym c.reverse.ensures.items) c.loop-shard.invariant.12)

pub returns-clause-new : goal.returns-clause-new
returns-clause-new g c = subst (All (λ job. HasSettings c.args.config.now job.shard)) (sym c.reverse.ensures.items)
    (all_reverse (λ job. HasSettings c.args.config.now job.shard) c.loop-shard.jobs.items c.loop-shard.invariant.13)
