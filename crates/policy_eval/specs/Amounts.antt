-- What a limiter is asked for: the spans, or their bytes (tailsamplingprocessor README, `rate_limiting`,
-- `bytes_limiting`).
use Rattle.std.specs.Prelude.{◌≡◌, ℕ, Bool, List, [], ◌∷◌, length, Option, Some, None}
use Rattle.policy_tree.specs.declared.limit.Limit.{Limit}
use Rattle.policy_tree.specs.declared.limit.Limit.TheVariants.{Spans, Bytes}
use Rattle.policy_tree.specs.declared.limiter_node.LimiterNode.{LimiterNode}
use Rattle.policy_tree.specs.Tree.{Policies, limiters}
use Rattle.rate_budget.specs.Grant.{Asking, limit_among, granted_after}
use Rattle.span_size.specs.Size.{size_of}
use Rattle.otlp_types.specs.declared.arrival.Arrival.{Arrival}

-- what a limiter with this limit is asked for
abbrev pub amount_of : Limit → List Arrival → ℕ
amount_of (Spans per_second) spans = length spans
amount_of (Bytes per_second burst) spans = size_of spans

-- nothing, where there is no limit
abbrev pub amount_within : Option Limit → List Arrival → ℕ
amount_within None spans = 0
amount_within (Some limit) spans = amount_of limit spans

-- at each of these limiter nodes
unfoldable pub amount_among : List LimiterNode → List Arrival → (node : ℕ) → ℕ
amount_among nodes spans node = amount_within (limit_among nodes node) spans

-- at each node of the policies
abbrev pub amount_at : Policies → List Arrival → (node : ℕ) → ℕ
amount_at policies spans node = amount_among (limiters policies) spans node

-- the answer at each node of the policies where these spans are asked for after these askings
abbrev pub granted_on : Policies → (earlier : List Asking) → (second : ℕ) → List Arrival → (node : ℕ) → Bool
granted_on policies earlier second spans node = granted_after policies earlier second (amount_at policies spans node) node

-- at each of these limiter nodes this is the amount of the spans
abbrev pub AreAmounts : (amounts : ℕ → ℕ) → List Arrival → List LimiterNode → Type 0
AreAmounts amounts spans [] = Unit {0}
AreAmounts amounts spans (l ∷ nodes) = (amounts l.node ≡ amount_of l.limit spans) × AreAmounts amounts spans nodes

-- the amount at each limiter node of the policies is that of its own limit
abbrev pub AmountsAreOfTheLimits : Type 0
AmountsAreOfTheLimits = (policies : Policies) (spans : List Arrival) → AreAmounts (amount_at policies spans) spans (limiters policies)
