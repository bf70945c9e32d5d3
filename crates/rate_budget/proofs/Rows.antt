-- Worked rows of a limiter's grants, by computation.
-- No contract rests on it: it shows the definitions on worked cases.
use Rattle.std.specs.Prelude.{ℕ, Bool, true, false, List, [], ◌∷◌, ◌++◌, ◌≡◌, refl}
use Rattle.policy_tree.specs.declared.limit.Limit.{Limit}
use Rattle.policy_tree.specs.declared.limit.Limit.TheVariants.{Spans, Bytes}
use Rattle.policy_tree.specs.Tree.{Policies, no_more, one_more, leaf, and_policy, rate_limiting, limiters}
use Rattle.policy_tree.specs.declared.policy.Leaf.TheVariants.{SpanCount}
use Rattle.rate_budget.specs.Grant.{Asking, grants, granted_after}
use Rattle.rate_budget.specs.Budget.{limiter_counts, after}

-- the askings of one limiter node, each with its answer
abbrev asks : Limit → List (ℕ × ℕ) → (earlier : List Asking) → List Bool
asks limit [] earlier = []
asks limit (a ∷ rest) earlier = let g = grants limit earlier a.0 a.1 in g ∷ asks limit rest (record { node = 0; second = a.0; amount = a.1; granted = g } ∷ earlier)

pub askings_of_one_node : asks (Spans 3) ((5, 2) ∷ (4, 2) ∷ (4, 1) ∷ (6, 3) ∷ (5, 1) ∷ []) [] ≡ true ∷ false ∷ true ∷ true ∷ false ∷ []
askings_of_one_node = refl

-- a refused asking takes nothing from its second
pub refused_asking : grants (Spans 3) (record { node = 0; second = 5; amount = 9; granted = false } ∷ []) 5 3 ≡ true
refused_asking = refl

-- an `and` of a leaf and a limit of 3, and a limit of 4
abbrev two_limits : Policies
two_limits = one_more (and_policy (one_more (leaf (SpanCount 2 0)) (one_more (rate_limiting 3) no_more))) (one_more (rate_limiting 4) no_more)

pub limiter_nodes : limiters two_limits ≡ record { node = 2; limit = Spans 3 } ∷ record { node = 3; limit = Spans 4 } ∷ []
limiter_nodes = refl

-- each node has its own askings, and a node that is no limiter's is granted nothing
pub nodes_apart : granted_after two_limits (record { node = 3; second = 5; amount = 4; granted = true } ∷ []) 5 3 2 ∷ granted_after two_limits (record { node = 3; second = 5; amount = 4; granted = true } ∷ []) 5 1 3 ∷ granted_after two_limits [] 5 0 1 ∷ [] ≡ true ∷ false ∷ false ∷ []
nodes_apart = refl

pub counts_of_askings : after (limiter_counts two_limits []) 3 5 4 ≡ limiter_counts two_limits (record { node = 3; second = 5; amount = 4; granted = true } ∷ [])
counts_of_askings = refl

-- ---- a bucket of 10 bytes that gets 3 back with each second

-- full at first; what is left; a second later 3 more; a refused asking takes nothing; more than the bucket holds is
-- never granted; after a long time it is full, not more
pub askings_of_a_bucket : asks (Bytes 3 10) ((5, 8) ∷ (5, 3) ∷ (6, 6) ∷ (6, 5) ∷ (7, 3) ∷ (4, 1) ∷ (90, 11) ∷ (90, 10) ∷ (90, 1) ∷ []) [] ≡ true ∷ false ∷ false ∷ true ∷ true ∷ false ∷ false ∷ true ∷ false ∷ []
askings_of_a_bucket = refl

-- a bucket that gets nothing back, and one that holds nothing
pub dry_buckets : asks (Bytes 0 4) ((5, 3) ∷ (9, 2) ∷ (9, 1) ∷ (99, 1) ∷ []) [] ++ asks (Bytes 4 0) ((5, 1) ∷ (9, 1) ∷ []) [] ≡ true ∷ false ∷ true ∷ false ∷ false ∷ false ∷ []
dry_buckets = refl
