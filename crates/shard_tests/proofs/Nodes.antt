-- A limiter that has not been asked knows the nodes of its policies, by whichever copy of them a shard has.
-- For the shards with limiters that the tests make.
use Rattle.std.proofs.Common.{◌≡◌, true, List, [], map, ap, ◌∙◌}
use Rattle.policy_tree.specs.Tree.{limiters}
use Rattle.policy_tree.specs.Meaning.{meaning}
use Rattle.policy_tree.specs.declared.policy.Policy.{Policy}
use Rattle.rate_budget.specs.Budget.{limiter_counts, limiter_of, has_node}
use Rattle.rate_budget.specs.BudgetLaws.{limits-of-counts}
use Rattle.rate_budget.specs.declared.count.LimiterCount.{LimiterCount}
use Rattle.policy_eval.specs.Meaning.{knows}
use Rattle.policy_eval.specs.AskingLaws.{counts_know}

pub new_knows : (policies copy : List Policy) (counts : List LimiterCount) → counts ≡ limiter_counts (meaning policies) [] → copy ≡ policies → knows (has_node counts) (limiters (meaning copy)) ≡ true
new_knows policies copy counts is same =
    ap (λ (ps : List Policy). knows (has_node counts) (limiters (meaning ps))) same
    ∙ counts_know (meaning policies) counts (ap (map limiter_of) is ∙ limits-of-counts (limiters (meaning policies)) [])
