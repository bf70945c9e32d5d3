use Rattle.std.proofs.Common.{◌≡◌, ◌++◌, List, true, false, length}
use Rattle.std.specs.List.{list_all}
use Rattle.otlp_types.specs.declared.arrival.Item.{Item}
use Rattle.shard_core.specs.Held.{has_due, is_finished}
use Rattle.script_session.specs.Pulling.{TakesItems, is_queued}
use Rattle.script_session.proofs.Kept.{Kept}
use Rattle.script_session.proofs.taking.drain.Given as goal

abbrev pub invariant-draining : goal.invariant-draining
invariant-draining g l = record {
  popped : List Item;
  split : l.fn.queue.items ≡ popped ++ l.queue.items;
  took : TakesItems l.fn.shard l.fn.limiter l.fn.output popped l.shard l.limiter l.output;
  queued : list_all is_queued l.queue.items ≡ true;
  capacity : l.queue.capacity ≡ l.fn.queue.capacity;
  nothing_due : has_due l.shard ≡ false;
  running : is_finished l.shard ≡ false;
  kept : Kept l.fn.shard l.shard l.fn.limiter l.limiter l.fn.output l.output;
}

abbrev pub decreases-draining : goal.decreases-draining
decreases-draining g l = length l.queue.items
