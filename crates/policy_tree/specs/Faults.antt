-- Which lists of policies are refused, and why (tailsamplingprocessor README, "Policies").
use Rattle.std.specs.Prelude.{ℕ, Bool, false, ◌||◌, ◌&&◌, not, if◌then◌else◌, nat_lt, nat_le, int_lt, ◌==◌, List, [], ◌∷◌, map, length, bytes_eq, Option, Some, None}
use Rattle.std.specs.List.{list_any}
use Rattle.policy_tree.specs.Tree.{nodes_in, depth_in, has_empty_list, some_leaf_in}
use Rattle.policy_tree.specs.Meaning.{meaning}
use Rattle.policy_tree.specs.declared.policy.Policy.{Policy, Policy-F, fold-Policy}
use Rattle.policy_tree.specs.declared.policy.PolicyKind.TheOpen.{PolicyKind-F}
use Rattle.policy_tree.specs.declared.policy.Leaf.{Leaf}
use Rattle.policy_tree.specs.declared.policy.Leaf.TheVariants as leaf_is
use Rattle.policy_tree.specs.declared.policy.Wanted.{Wanted}
use Rattle.policy_tree.specs.declared.policy.Wanted.TheVariants as wanted_is
use Rattle.policy_tree.specs.declared.leaves.LeafFault.{LeafFault}
use Rattle.policy_tree.specs.declared.leaves.LeafFault.TheVariants as leaf_fault
use Rattle.policy_tree.specs.declared.fault.PolicyFault.{PolicyFault}
use Rattle.policy_tree.specs.declared.fault.PolicyFault.TheVariants.{EmptyList, TooDeep, TooMany, SameName, CrossedBounds, NoValues, NoMemory}

-- the number of a fault
abbrev pub policy_fault_number : PolicyFault → ℕ
policy_fault_number EmptyList = 1
policy_fault_number TooDeep = 2
policy_fault_number TooMany = 3
policy_fault_number SameName = 4
policy_fault_number CrossedBounds = 5
policy_fault_number NoValues = 6
policy_fault_number NoMemory = 7

-- ---- names

-- a policy's name, and whether a list inside it has two policies of the same name
pub record NamedPolicy : Type 0 where
  pub name : List ℕ
  pub doubled : Bool

-- some policy has this name
abbrev pub has_name : (name : List ℕ) → List NamedPolicy → Bool
has_name name policies = list_any (λ (p : NamedPolicy). bytes_eq p.name name) policies

-- two of the policies have the same name
abbrev pub has_same_names : List NamedPolicy → Bool
has_same_names [] = false
has_same_names (p ∷ rest) = has_name p.name rest || has_same_names rest

-- two policies of the list, or of a list inside it, have the same name
abbrev pub is_doubled : List NamedPolicy → Bool
is_doubled policies = has_same_names policies || list_any (λ (p : NamedPolicy). p.doubled) policies

-- a kind's list, if it has one, with what is known of each policy in it
abbrev pub doubled_step : PolicyKind-F Bool NamedPolicy → Bool
doubled_step (PolicyKind-F.Leaf l) = false
doubled_step (PolicyKind-F.Limiting limit) = false
doubled_step (PolicyKind-F.Joined join policies) = is_doubled policies

-- a policy, with what is known of its kind
abbrev pub named_step : Policy-F Bool NamedPolicy → NamedPolicy
named_step p = record { name = p.name; doubled = p.kind }

-- a policy's name, and whether a list inside it has two policies of the same name
abbrev pub named : Policy → NamedPolicy
named = fold-Policy Bool NamedPolicy doubled_step named_step

-- two policies of one list, at any level, have the same name
abbrev pub has_doubled_names : List Policy → Bool
has_doubled_names policies = is_doubled (map named policies)

-- ---- leaves

-- a value is to be one of no values
abbrev pub wants_none : Wanted → Bool
wants_none (wanted_is.StringAmong values) = length values == 0
wants_none (wanted_is.StringMatching values) = length values == 0
wants_none (wanted_is.NumberWithin least greatest) = false
wants_none (wanted_is.Boolean value) = false

-- the policy looks for one of no values
abbrev pub has_no_values : Leaf → Bool
has_no_values (leaf_is.StatusCode codes) = length codes == 0
has_no_values (leaf_is.Attribute key wanted invert) = wants_none wanted
has_no_values (leaf_is.TraceState key values) = length values == 0
has_no_values (leaf_is.OttlCondition mode on_span on_event) = length on_span == 0 && length on_event == 0
has_no_values _ = false

-- a value is to be within bounds that leave nothing
abbrev pub wants_crossed : Wanted → Bool
wants_crossed (wanted_is.StringAmong values) = false
wants_crossed (wanted_is.StringMatching values) = false
wants_crossed (wanted_is.NumberWithin least greatest) = int_lt greatest least
wants_crossed (wanted_is.Boolean value) = false

-- an upper bound that isn't 0 leaves nothing, or the bounds of a number leave nothing
abbrev pub has_crossed_bounds : Leaf → Bool
has_crossed_bounds (leaf_is.Latency threshold upper) = not (upper == 0) && nat_le upper threshold
has_crossed_bounds (leaf_is.Attribute key wanted invert) = wants_crossed wanted
has_crossed_bounds (leaf_is.SpanCount least most) = not (most == 0) && nat_lt most least
has_crossed_bounds _ = false

-- the leaf has this fault
abbrev pub has_leaf_fault : LeafFault → Leaf → Bool
has_leaf_fault leaf_fault.CrossedBounds = has_crossed_bounds
has_leaf_fault leaf_fault.NoValues = has_no_values

-- the least fault that a list of policies has
abbrev pub fault_of_policies : List Policy → Option PolicyFault
fault_of_policies policies =
    if has_empty_list (meaning policies) then Some EmptyList
    else if nat_lt 8 (depth_in (meaning policies)) then Some TooDeep
    else if nat_lt 64 (nodes_in (meaning policies)) then Some TooMany
    else if has_doubled_names policies then Some SameName
    else if some_leaf_in has_crossed_bounds (meaning policies) then Some CrossedBounds
    else if some_leaf_in has_no_values (meaning policies) then Some NoValues
    else None
