-- The policies of a program without their names.
use Rattle.std.specs.Prelude.{List, [], ◌∷◌, map}
use Rattle.policy_tree.specs.Tree as tree
use Rattle.policy_tree.specs.declared.policy.Policy.{Policy, Policy-F, fold-Policy}
use Rattle.policy_tree.specs.declared.policy.PolicyKind.{PolicyKind}
use Rattle.policy_tree.specs.declared.policy.PolicyKind.TheOpen.{PolicyKind-F}
use Rattle.policy_tree.specs.declared.policy.PolicyKind.TheFolds.{fold-PolicyKind}

-- the policies of one list, in order
abbrev pub in_order : List tree.Policy → tree.Policies
in_order [] = tree.no_more
in_order (p ∷ rest) = tree.one_more p (in_order rest)

-- one kind, with each part without its names
abbrev pub kind_step : PolicyKind-F tree.Policy tree.Policy → tree.Policy
kind_step (PolicyKind-F.Leaf l) = tree.leaf l
kind_step (PolicyKind-F.Limiting limit) = tree.limiting limit
kind_step (PolicyKind-F.Joined join parts) = tree.joined join (in_order parts)

-- a policy is what its kind is
abbrev pub policy_step : Policy-F tree.Policy tree.Policy → tree.Policy
policy_step p = p.kind

-- a policy without its name
abbrev pub policy_meaning : Policy → tree.Policy
policy_meaning = fold-Policy tree.Policy tree.Policy kind_step policy_step

-- the policies without their names, in order
abbrev pub meaning : List Policy → tree.Policies
meaning policies = in_order (map policy_meaning policies)
