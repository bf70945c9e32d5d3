-- What a fault is told as.
use Rattle.std.specs.Prelude.{ℕ, List, codes}
use Rattle.policy_tree.specs.FaultTexts.{fault_text as policy_fault_text}
use Rattle.config_faults.specs.declared.fault.ConfigFault.{ConfigFault}
use Rattle.config_faults.specs.declared.fault.ConfigFault.TheVariants.{NotToml, UnknownKey, MissingKey, WrongType, OutOfRange, TooFewTraces, Policy, NoMemory, NotAnExpression, ExpressionTooBig}

abbrev pub fault_text : ConfigFault → List ℕ
fault_text NotToml = codes "the text is no TOML"
fault_text UnknownKey = codes "a table has an unknown key"
fault_text MissingKey = codes "a required key is missing"
fault_text WrongType = codes "a value has the wrong type"
fault_text OutOfRange = codes "a number is out of its range, or a text is none of those that its key takes"
fault_text TooFewTraces = codes "there are fewer traces than shards"
fault_text (Policy fault) = policy_fault_text fault
fault_text NoMemory = codes "no memory"
fault_text NotAnExpression = codes "a value is no regular expression"
fault_text ExpressionTooBig = codes "a regular expression is too big"
