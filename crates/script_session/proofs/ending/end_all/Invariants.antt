use Rattle.std.proofs.Common.{◌≡◌, ◌+◌, ◌-◌, ◌≤◌, true, length}
use Rattle.journal_theory.specs.Journal.{Settings}
use Rattle.script_run.specs.World.{ends_from}
use Rattle.script_session.specs.Pulling.{GoesOn, AreQuiet, HaveSettings, RoundsTaken, has_all_nodes}
use Rattle.script_session.proofs.Several.{ended}
use Rattle.script_session.proofs.ending.end_all.Given as goal

abbrev pub invariant-loop-lane : goal.invariant-loop-lane
invariant-loop-lane g l = record {
  took : RoundsTaken l.fn.shards l.fn.limiter l.fn.output (ends_from 0 l.lane l.fn.shards) l.shards l.limiter l.output;
  nodes : has_all_nodes l.limiter l.shards ≡ true;
  quiet : AreQuiet (ended l.lane (l.lanes - l.lane + 1)) l.shards;
  keeps : (s : Settings) → HaveSettings s l.fn.shards → HaveSettings s l.shards;
  within : l.lane ≤ l.lanes;
  length_same : length l.shards ≡ length l.fn.shards;
  goes_on : GoesOn l.fn.output l.output;
}
