-- Where nothing is shipped and nothing is counted, a desk stays as it was: a law of `ShardDesk`.
use Rattle.std.proofs.Common.{◌≡◌, ℕ, [], ◌++◌, Option, refl, sym, ap, append-nil}
use Rattle.released_spans.specs.declared.shipment.Shipment.{Shipment}
use Rattle.span_ids.specs.declared.outcome.Reason.{Reason}
use Rattle.drop_ledger.specs.declared.count.Count.{Count}
use Rattle.drop_ledger.specs.declared.count.Count.TheVariants.{Received, Handed, Dropped}
use Rattle.lane_queue.specs.Ends.{EndState}
use Rattle.released_spans.specs.Shipping.{shipments}
use Rattle.shard_worker.specs.Turns.{counted_under}

pub shipped-none : (policy : Option ℕ) (end : EndState Shipment) → end ≡ record end { items = end.items ++ shipments policy [] }
shipped-none policy end = ap (λ l. record end { items = l }) (sym (append-nil end.items))

pub counted-none : (dropped : Reason → ℕ) → ((reason : Reason) → dropped reason ≡ 0) → (count : Count) → counted_under dropped count ≡ 0
counted-none dropped none Received = refl
counted-none dropped none Handed = refl
counted-none dropped none (Dropped reason) = none reason
