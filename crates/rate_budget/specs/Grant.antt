-- When a limiter grants an asking (tailsamplingprocessor README, `rate_limiting`, `bytes_limiting`).
use Rattle.std.specs.Prelude.{ℕ, ◌+◌, ◌-◌, ◌*◌, max, Bool, false, ◌&&◌, if◌then◌else◌, ◌==◌, nat_le, List, [], ◌∷◌, Option, Some, None, option_map, filter, find}
use Rattle.policy_tree.specs.declared.limit.Limit.{Limit}
use Rattle.policy_tree.specs.declared.limit.Limit.TheVariants.{Spans, Bytes}
use Rattle.policy_tree.specs.declared.limiter_node.LimiterNode.{LimiterNode}
use Rattle.policy_tree.specs.Tree.{Policies, limiters}

-- an asking of a limiter node for an amount, spans or bytes as its limit has it, in a second, with its answer
pub record Asking : Type 0 where
  pub node : ℕ
  pub second : ℕ
  pub amount : ℕ
  pub granted : Bool

-- Below, the askings are those of one node, the latest first.

-- the greatest second asked
abbrev pub latest_second : List Asking → ℕ
latest_second [] = 0
latest_second (a ∷ earlier) = max a.second (latest_second earlier)

-- what was granted by the askings that count in this second: each counts in the greatest second asked up to it
abbrev pub granted_in : (second : ℕ) → List Asking → ℕ
granted_in second [] = 0
granted_in second (a ∷ earlier) = (if a.granted && (latest_second (a ∷ earlier) == second) then a.amount else 0) + granted_in second earlier

-- what an asking takes: all or nothing
abbrev pub taken : Asking → ℕ
taken a = if a.granted then a.amount else 0

-- what is missing in this second in a bucket that was full at first, lost what was granted, and got `per_second` back
-- with each second
abbrev pub missing_in : (per_second second : ℕ) → List Asking → ℕ
missing_in per_second second [] = 0
missing_in per_second second (a ∷ earlier) =
    let counted = latest_second (a ∷ earlier) in (missing_in per_second counted earlier + taken a) - per_second * (second - counted)

-- what a limit grants where nothing was granted before
abbrev pub capacity : Limit → ℕ
capacity (Spans per_second) = per_second
capacity (Bytes per_second burst) = burst

-- how much of that is spent in this second
abbrev pub spent : Limit → (second : ℕ) → List Asking → ℕ
spent (Spans per_second) second askings = granted_in second askings
spent (Bytes per_second burst) second askings = missing_in per_second second askings

-- whether an asking after these is granted
abbrev pub grants : Limit → (earlier : List Asking) → (second amount : ℕ) → Bool
grants limit earlier second amount = nat_le (spent limit (max second (latest_second earlier)) earlier + amount) (capacity limit)

-- ---- over all nodes, the latest asking first

-- the askings of a node
abbrev pub askings_of : (node : ℕ) → List Asking → List Asking
askings_of node askings = filter (λ a. a.node == node) askings

-- the limit of the node, where it is among these limiter nodes
abbrev pub limit_among : List LimiterNode → (node : ℕ) → Option Limit
limit_among nodes node = option_map (λ (l : LimiterNode). l.limit) (find (λ (l : LimiterNode). l.node == node) nodes)

-- whether an asking of a node with this limit is granted: none is where the node is no limiter's
abbrev pub granted_within : Option Limit → (earlier : List Asking) → (second amount : ℕ) → Bool
granted_within None earlier second amount = false
granted_within (Some limit) earlier second amount = grants limit earlier second amount

-- the answer at each of these limiter nodes to an asking after these
abbrev pub granted_among : List LimiterNode → (earlier : List Asking) → (second amount : ℕ) → (node : ℕ) → Bool
granted_among nodes earlier second amount node = granted_within (limit_among nodes node) (askings_of node earlier) second amount

-- the answer at each node of the policies to an asking after these
abbrev pub granted_after : Policies → (earlier : List Asking) → (second amount : ℕ) → (node : ℕ) → Bool
granted_after policies earlier second amount node = granted_among (limiters policies) earlier second amount node
