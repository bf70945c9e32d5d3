-- The limiter of policies has their nodes.
-- For the call of `Budgets::new` in `plain_shard`.
use Rattle.std.proofs.Common.{◌≡◌, List, [], true, sym, subst}
use Rattle.policy_tree.specs.Tree.{limiters}
use Rattle.policy_tree.specs.Meaning.{meaning}
use Rattle.policy_tree.specs.declared.policy.Policy.{Policy}
use Rattle.policy_eval.specs.Meaning.{knows}
use Rattle.policy_eval.specs.AskingLaws.{counts_know}
use Rattle.rate_budget.specs.Budget.{limiter_counts, has_node}
use Rattle.rate_budget.specs.BudgetLaws.{limits-of-counts}
use Rattle.rate_budget.specs.declared.count.LimiterCount.{LimiterCount}
use Rattle.plain_shards.specs.Plain.{HasNodes}
use Rattle.plain_shards.proofs.plain_shard.Goals as goal

pub returns : goal.returns
returns c =
    let policies = c.in_ok-policies.policies in
    let tree = meaning policies in
    let own : knows (has_node (limiter_counts tree [])) (limiters tree) ≡ true = counts_know tree (limiter_counts tree []) (limits-of-counts (limiters tree) []) in
    let L = λ (limiter : List LimiterCount). HasNodes limiter policies in
    let P = λ (list : List Policy). HasNodes c.in_ok-limiter.limiter list in
    let made = c.in_ok-shard.ensures in
    record { stands = made.stands; nothing_due = made.nothing_due; running = made.running; nodes = subst P (sym made.policies) (subst L (sym c.in_ok-limiter.ensures) own) }
