-- What a new shard and its limiter are.
use Rattle.std.specs.Prelude.{◌≡◌, List, [], true, false}
use Rattle.policy_tree.specs.Tree.{limiters}
use Rattle.policy_tree.specs.Meaning.{meaning}
use Rattle.policy_tree.specs.declared.policy.Policy.{Policy}
use Rattle.policy_eval.specs.Meaning.{knows}
use Rattle.rate_budget.specs.Budget.{has_node}
use Rattle.rate_budget.specs.declared.count.LimiterCount.{LimiterCount}
use Rattle.shard_core.specs.Held.{Held, StandsFor, has_due, is_finished}

-- the limiter has each node of these policies
abbrev pub HasNodes : List LimiterCount → List Policy → Type 0
HasNodes limiter policies = knows (has_node limiter) (limiters (meaning policies)) ≡ true

-- the shard has taken nothing, and the limiter has the nodes of its policies
abbrev pub HasTakenNothing : Held → List LimiterCount → Type 0
HasTakenNothing shard limiter = record {
  stands : StandsFor shard [] 0;
  nothing_due : has_due shard ≡ false;
  running : is_finished shard ≡ false;
  nodes : HasNodes limiter shard.policies;
}
