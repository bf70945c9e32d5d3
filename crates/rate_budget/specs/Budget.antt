-- What a limiter with one count for each limiter node grants.
use Rattle.std.specs.Prelude.{ℕ, ◌+◌, ◌-◌, ◌*◌, ◌≡◌, ◌≤◌, ◌==◌, min, max, Bool, false, nat_le, if◌then◌else◌, List, [], ◌∷◌, map}
use Rattle.std.specs.List.{list_any}
use Rattle.policy_tree.specs.declared.limit.Limit.{Limit}
use Rattle.policy_tree.specs.declared.limit.Limit.TheVariants.{Spans, Bytes}
use Rattle.policy_tree.specs.declared.limiter_node.LimiterNode.{LimiterNode}
use Rattle.policy_tree.specs.Tree.{Policies, limiters}
use Rattle.rate_budget.specs.Grant.{Asking, latest_second, missing_in, capacity, spent, askings_of, granted_after}
use Rattle.rate_budget.specs.declared.count.LimiterCount.{LimiterCount}

-- ---- what the counts are by the askings

-- the count of a node with this limit, after the node's askings
abbrev pub count_of : (node : ℕ) → Limit → List Asking → LimiterCount
count_of node limit own = record { node = node; limit = limit; second = latest_second own; spent = spent limit (latest_second own) own }

-- the count of a limiter node, after these askings
abbrev pub limiter_count : List Asking → LimiterNode → LimiterCount
limiter_count askings l = count_of l.node l.limit (askings_of l.node askings)

-- the counts of the policies' limiter nodes, after these askings
abbrev pub limiter_counts : Policies → List Asking → List LimiterCount
limiter_counts policies askings = map (limiter_count askings) (limiters policies)

-- ---- what an asking does to them

-- what is still spent `seconds` later: of spans nothing, of bytes what the bucket didn't get back
abbrev pub still_spent : Limit → (seconds amount : ℕ) → ℕ
still_spent (Spans per_second) seconds amount = if seconds == 0 then amount else 0
still_spent (Bytes per_second burst) seconds amount = amount - per_second * seconds

-- what is spent so far in the second in which an asking counts
abbrev pub spent_in : (second : ℕ) → LimiterCount → ℕ
spent_in second c = still_spent c.limit (second - c.second) c.spent

-- whether it is granted
abbrev pub grants_of : (second n : ℕ) → LimiterCount → Bool
grants_of second n c = nat_le (spent_in second c + n) (capacity c.limit)

-- the count after it
abbrev pub asked_count : (second n : ℕ) → LimiterCount → LimiterCount
asked_count second n c = record c { second = max second c.second; spent = (if grants_of second n c then spent_in second c + n else spent_in second c) }

-- the limiter node that a count is of
abbrev pub limiter_of : LimiterCount → LimiterNode
limiter_of c = record { node = c.node; limit = c.limit }

-- there is a count of the node
abbrev pub has_node : List LimiterCount → (node : ℕ) → Bool
has_node counts node = list_any (λ (c : LimiterCount). c.node == node) counts

-- whether an asking of the node is granted
abbrev pub grants_at : List LimiterCount → (node second n : ℕ) → Bool
grants_at [] node second n = false
grants_at (c ∷ rest) node second n = if c.node == node then grants_of second n c else grants_at rest node second n

-- the counts after an asking of the node
abbrev pub after : List LimiterCount → (node second n : ℕ) → List LimiterCount
after [] node second n = []
after (c ∷ rest) node second n = if c.node == node then asked_count second n c ∷ rest else c ∷ after rest node second n

-- an asking after these is answered as they say, and leaves the counts after these and itself
abbrev pub StandsAfter : Policies → List Asking → (node second n : ℕ) → (answer : Bool) → (new : List LimiterCount) → Type 0
StandsAfter policies askings node second n answer new =
    let asking : Asking = record { node = node; second = second; amount = n; granted = answer } in
    (answer ≡ granted_after policies askings second n node) × (new ≡ limiter_counts policies (asking ∷ askings))

-- what an asking makes of the counts: its answer, and they afterwards, are functions of what they stand for
abbrev pub AsksBudgets : (old : List LimiterCount) → (node second n : ℕ) → (answer : Bool) → (new : List LimiterCount) → Type 0
AsksBudgets old node second n answer new = (answer ≡ grants_at old node second n) × (new ≡ after old node second n)

-- a bucket that is never overdrawn is full at the most, and gets `per_second` back with each second
abbrev pub BucketFills : Type 0
BucketFills = (per_second burst second seconds : ℕ) (askings : List Asking) → missing_in per_second second askings ≤ burst → latest_second askings ≤ second →
    burst - missing_in per_second (second + seconds) askings ≡ min burst ((burst - missing_in per_second second askings) + per_second * seconds)

-- an asking changes no answer at another node
abbrev pub OthersStay : Type 0
OthersStay = (counts : List LimiterCount) (node second n m k j : ℕ) → (node == m) ≡ false → grants_at (after counts node second n) m k j ≡ grants_at counts m k j
