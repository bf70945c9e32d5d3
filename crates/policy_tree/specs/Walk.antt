-- Policies as the list in which a walk meets them: a policy before its parts, and these in order.
use Rattle.std.specs.Prelude.{◌≡◌, ℕ, ◌+◌, List, [], ◌∷◌, ◌++◌, length}
use Rattle.policy_tree.specs.declared.limiter_node.LimiterNode.{LimiterNode}
use Rattle.policy_tree.specs.Tree.{Policy, Policies, leaf, limiting, joined, no_more, one_more, nodes_in, limiters}

abbrev mutual
  -- the policy, and behind it its parts
  pub walk_of : Policy → List Policy
  walk_of (leaf l) = leaf l ∷ []
  walk_of (limiting limit) = limiting limit ∷ []
  walk_of (joined join parts) = joined join parts ∷ walk parts

  -- the policies of a list, each with its parts
  pub walk : Policies → List Policy
  walk no_more = []
  walk (one_more p rest) = walk_of p ++ walk rest

-- the limiter node of this number, where the policy asks a limiter
abbrev pub limiter_at : (node : ℕ) → Policy → List LimiterNode
limiter_at node (leaf l) = []
limiter_at node (limiting limit) = record { node = node; limit = limit } ∷ []
limiter_at node (joined join parts) = []

-- those of a list of policies, the first of which has this number
abbrev pub limiters_from : (node : ℕ) → List Policy → List LimiterNode
limiters_from node [] = []
limiters_from node (p ∷ rest) = limiter_at node p ++ limiters_from (node + 1) rest

-- the limiter nodes are those of the walk, in which node k is the k-th policy, from 0 on; there are as many nodes as
-- policies in the walk
abbrev pub LimitersAreOfTheWalk : Type 0
LimitersAreOfTheWalk = (policies : Policies) → (limiters policies ≡ limiters_from 0 (walk policies)) × (nodes_in policies ≡ length (walk policies))
