use Rattle.std.proofs.Common.{refl}
use Rattle.drop_ledger.specs.declared.count.Count.TheVariants.{Dropped}
use Rattle.drop_ledger.proofs.Gains.{tallies_one}
use Rattle.shard_worker.specs.Staying.{shipped-none}
use Rattle.shard_worker.proofs.Counting.{under_one}
use Rattle.shard_worker.proofs.shipping.ShardDeskDesk.count_dropped.Goals as goal

pub returns : goal.returns
returns g c = (shipped-none c.args.self.now.policy c.args.self.now.sender, tallies_one (Dropped c.args.why) c.args.spans _ c.args.self.now.tally c.count.new.self (under_one c.args.why c.args.spans _ refl refl (λ s. refl)) c.count.ensures.counted c.count.ensures.cause)
