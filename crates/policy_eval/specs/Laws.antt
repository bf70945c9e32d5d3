-- What the program relies on of the definitions.
use Rattle.std.specs.Prelude.{ℕ, Bool, true, ◌≡◌, List, map}
use Rattle.policy_tree.specs.Tree.{Policies, nodes_in}
use Rattle.rate_budget.specs.Grant.{Asking}
use Rattle.rate_budget.specs.Budget.{limiter_counts, AsksBudgets}
use Rattle.rate_budget.specs.Rising.{Rises}
use Rattle.rate_budget.specs.declared.count.LimiterCount.{LimiterCount}
use Rattle.otlp_types.specs.declared.arrival.Arrival.{Arrival}
use Rattle.policy_eval.specs.Amounts.{amount_at}
use Rattle.policy_eval.specs.AskingLaws.{DecidesByCounts}
use Rattle.policy_eval.specs.Policies.{verdict, asked_nodes}
use Rattle.policy_eval.specs.Given.{verdict_given, asked_given, are_answered, Asked}

-- counts that stand for the askings so far decide by them, and then stand for the decision's askings, too
abbrev pub DecisionsKeepTheCounts : Type 0
DecisionsKeepTheCounts =
    (policies : Policies) (earlier : List Asking) (second : ℕ) (spans : List Arrival) (answers : List Bool) (old new : List LimiterCount) → old ≡ limiter_counts policies earlier →
    Asked AsksBudgets second (amount_at policies spans) (asked_given policies answers spans) answers old new → DecidesByCounts policies earlier second spans answers new

-- the nodes that a decision asks rise, so that each is asked at most once
abbrev pub AskedNodesRise : Type 0
AskedNodesRise = (policies : Policies) (answers : List Bool) (spans : List Arrival) → Rises 0 (nodes_in policies) (asked_given policies answers spans)

-- the answers of a limiter that answers by the node decide as it does, and are as many as are asked
abbrev pub AnswersByTheNode : Type 0
AnswersByTheNode = (policies : Policies) (granted : ℕ → Bool) (spans : List Arrival) → let answers = map granted (asked_nodes policies granted spans) in
    (verdict_given policies answers spans ≡ verdict policies granted spans) × (asked_given policies answers spans ≡ asked_nodes policies granted spans) × (are_answered policies answers spans ≡ true)

-- as many answers as are asked are those of a limiter that answers by the node
abbrev pub AnswersAreByTheNode : Type 0
AnswersAreByTheNode = (policies : Policies) (answers : List Bool) (spans : List Arrival) → are_answered policies answers spans ≡ true →
    (granted : ℕ → Bool) × (answers ≡ map granted (asked_nodes policies granted spans)) × (verdict_given policies answers spans ≡ verdict policies granted spans)
