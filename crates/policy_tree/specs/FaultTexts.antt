-- What a fault is told as.
use Rattle.std.specs.Prelude.{ℕ, List, codes}
use Rattle.policy_tree.specs.declared.fault.PolicyFault.{PolicyFault}
use Rattle.policy_tree.specs.declared.fault.PolicyFault.TheVariants.{EmptyList, TooDeep, TooMany, SameName, CrossedBounds, NoValues, NoMemory}

abbrev pub fault_text : PolicyFault → List ℕ
fault_text EmptyList = codes "a list of policies is empty"
fault_text TooDeep = codes "policies are nested deeper than 8"
fault_text TooMany = codes "there are more than 64 policies"
fault_text SameName = codes "two policies of one list have the same name"
fault_text CrossedBounds = codes "two bounds leave nothing between them"
fault_text NoValues = codes "a policy has no values"
fault_text NoMemory = codes "no memory"
