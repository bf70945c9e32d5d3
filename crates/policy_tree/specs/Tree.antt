-- Policies without their names: their node numbers, their depth, and the limiters among them (tailsamplingprocessor
-- README, "Policies").
use Rattle.std.specs.Prelude.{ℕ, ◌+◌, max, Bool, true, false, ◌||◌, List, [], ◌∷◌, ◌++◌}
use Rattle.policy_tree.specs.declared.limit.Limit.{Limit}
use Rattle.policy_tree.specs.declared.limit.Limit.TheVariants.{Spans}
use Rattle.policy_tree.specs.declared.limiter_node.LimiterNode.{LimiterNode}
use Rattle.policy_tree.specs.declared.policy.Leaf.{Leaf}
use Rattle.policy_tree.specs.declared.policy.Join.{Join}
use Rattle.policy_tree.specs.declared.policy.Join.TheVariants.{And}

-- a policy, and a list of policies
mutual
  -- a policy without its name
  pub data Policy : Type 0 where
    leaf : Leaf → Policy
    limiting : Limit → Policy
    joined : Join → Policies → Policy

  -- the policies of one list, in order
  pub data Policies : Type 0 where
    no_more : Policies
    one_more : Policy → Policies → Policies

-- a limiter of spans
abbrev pub rate_limiting : (spans_per_second : ℕ) → Policy
rate_limiting spans_per_second = limiting (Spans spans_per_second)

-- what samples where each of these does
abbrev pub and_policy : Policies → Policy
and_policy parts = joined And parts

-- ---- nodes: a node's number is its place in the walk that takes a policy before its parts

abbrev mutual
  -- how many policies there are in this one, itself too
  pub nodes : Policy → ℕ
  nodes (leaf l) = 1
  nodes (limiting limit) = 1
  nodes (joined join parts) = nodes_in parts + 1

  -- how many policies there are in all of these
  pub nodes_in : Policies → ℕ
  nodes_in no_more = 0
  nodes_in (one_more p rest) = nodes p + nodes_in rest

-- ---- depth

abbrev mutual
  -- how many levels of policies there are in this one, itself too
  pub depth : Policy → ℕ
  depth (leaf l) = 1
  depth (limiting limit) = 1
  depth (joined join parts) = depth_in parts + 1

  -- how many levels of policies there are in these
  pub depth_in : Policies → ℕ
  depth_in no_more = 0
  depth_in (one_more p rest) = max (depth p) (depth_in rest)

-- ---- limiters

abbrev mutual
  -- the limiter nodes of a policy, with their limits
  pub limits : Policy → (node : ℕ) → List LimiterNode
  limits (leaf l) node = []
  limits (limiting limit) node = record { node = node; limit = limit } ∷ []
  limits (joined join parts) node = limits_in parts (node + 1)

  -- those of all of these
  pub limits_in : Policies → (node : ℕ) → List LimiterNode
  limits_in no_more node = []
  limits_in (one_more p rest) node = limits p node ++ limits_in rest (node + nodes p)

-- the limiter nodes with their limits
abbrev pub limiters : Policies → List LimiterNode
limiters policies = limits_in policies 0

-- ---- lists and leaves inside

-- a list has no policy
abbrev pub is_empty : Policies → Bool
is_empty no_more = true
is_empty (one_more p rest) = false

abbrev mutual
  -- a list inside has no part
  pub has_empty_inside : Policy → Bool
  has_empty_inside (leaf l) = false
  has_empty_inside (limiting limit) = false
  has_empty_inside (joined join parts) = is_empty parts || has_empty_inside_in parts

  -- a list inside one of these has no part
  pub has_empty_inside_in : Policies → Bool
  has_empty_inside_in no_more = false
  has_empty_inside_in (one_more p rest) = has_empty_inside p || has_empty_inside_in rest

-- the list is empty, or one inside it
abbrev pub has_empty_list : Policies → Bool
has_empty_list policies = is_empty policies || has_empty_inside_in policies

abbrev mutual
  -- a leaf inside passes the test
  pub some_leaf : (Leaf → Bool) → Policy → Bool
  some_leaf test (leaf l) = test l
  some_leaf test (limiting limit) = false
  some_leaf test (joined join parts) = some_leaf_in test parts

  -- a leaf inside one of these passes the test
  pub some_leaf_in : (Leaf → Bool) → Policies → Bool
  some_leaf_in test no_more = false
  some_leaf_in test (one_more p rest) = some_leaf test p || some_leaf_in test rest
