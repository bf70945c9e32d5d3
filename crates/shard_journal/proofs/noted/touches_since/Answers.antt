use Rattle.std.proofs.Common.{sym}
use Rattle.shard_journal.proofs.Touching.{all_before, before_first}
use Rattle.span_ids.specs.Same.{same_trace}
use Rattle.decision_cache.specs.Touches.{Touch}
use Rattle.shard_journal.proofs.noted.touches_since.Goals as goal

pub returns-in-None : goal.returns-in-None
returns-in-None c = all_before (λ (u : Touch). same_trace u.trace c.args.trace) c.args.touches.now (sym c.in-None.ensures)

pub returns-in-Some : goal.returns-in-Some
returns-in-Some c = before_first (λ (u : Touch). same_trace u.trace c.args.trace) c.args.touches.now c.in-Some.place (sym c.in-Some.ensures)
