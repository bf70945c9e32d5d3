use Rattle.std.proofs.Common.{◌≡◌, ◌∷◌, []}
use Rattle.rate_budget.specs.Budget.{limiter_counts}
use Rattle.journal_theory.specs.Journal.{Entry}
use Rattle.shard_core.specs.Held.{StandsFor, settings}
use Rattle.shard_core.specs.Taking.{waiting}
use Rattle.script_run.specs.World.{ShardTurn}
use Rattle.script_session.proofs.Kept.{Kept}
use Rattle.script_session.proofs.Decides.{DecidesSome}
use Rattle.script_session.proofs.taking.decide_all.Given as goal

abbrev pub invariant-deciding : goal.invariant-deciding
invariant-deciding g l = record {
  decided : (e : Entry) (past : ShardTurn) → e.answers ≡ [] → StandsFor l.fn.shard (e ∷ past.journal) 0 → l.fn.limiter ≡ limiter_counts (settings l.fn.shard).policies past.askings
      → DecidesSome (settings l.fn.shard) e past l.fn.output l.shard l.limiter l.output;
  kept : Kept l.fn.shard l.shard l.fn.limiter l.limiter l.fn.output l.output;
}

abbrev pub decreases-deciding : goal.decreases-deciding
decreases-deciding g l = waiting l.shard
