use Rattle.std.proofs.Common.{◌≡◌, drop}
use Rattle.policy_eval.specs.Policies.{earliest_start, earliest_with}
use Rattle.policy_eval.proofs.latency.earliest_start.Given as goal

abbrev pub invariant-loop-arrival : goal.invariant-loop-arrival
invariant-loop-arrival l = earliest_with l.earliest (drop l.arrival-index l.rest) ≡ earliest_start l.spans
