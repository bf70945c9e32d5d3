use Rattle.std.proofs.Common.{◌≡◌, max, drop}
use Rattle.policy_eval.specs.Policies.{latest_end}
use Rattle.policy_eval.proofs.latency.latest_end.Given as goal

abbrev pub invariant-loop-arrival : goal.invariant-loop-arrival
invariant-loop-arrival l = max l.latest (latest_end (drop l.arrival-index l.spans)) ≡ latest_end l.spans
