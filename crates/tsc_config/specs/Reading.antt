-- What a text is read as: a configuration, or the fault of least number that it has.
use Rattle.std.specs.Prelude.{ℕ, Bool, not, List, Option, Some, None, Result, Ok, Err, if◌then◌else◌, nat_lt}
use Rattle.std.specs.List.{list_any}
use Rattle.toml.specs.Data.{Members}
use Rattle.toml.specs.Parse.{parse_document}
use Rattle.expression.specs.Expressions.{is_expression}
use Rattle.ottl_lists.specs.Texts.{is_condition}
use Rattle.policy_tree.specs.declared.expressions.ExpressionKind.{ExpressionKind}
use Rattle.policy_tree.specs.declared.expressions.ExpressionKind.TheVariants.{Regular, Condition}
use Rattle.policy_tree.specs.declared.expressions.PolicyExpression.{PolicyExpression}
use Rattle.policy_tree.specs.Expressions.{expressions_in}
use Rattle.policy_tree.specs.Faults.{fault_of_policies}
use Rattle.policy_tree.specs.Meaning.{meaning}
use Rattle.policy_tree.specs.declared.fault.PolicyFault.{PolicyFault}
use Rattle.policy_tree.specs.declared.policy.Policy.{Policy}
use Rattle.config_faults.specs.Faults.{table_fault}
use Rattle.tsc_config.specs.Values.{config_of}
use Rattle.tsc_config.specs.declared.config.Config.{Config}
use Rattle.config_faults.specs.declared.fault.ConfigFault.{ConfigFault}
use Rattle.config_faults.specs.declared.fault.ConfigFault.TheVariants as fault_is

-- the regular expressions and the conditions in policies
abbrev pub expressions_among : List Policy → List PolicyExpression
expressions_among policies = expressions_in (meaning policies)

-- the text is what it is to be: a regular expression, or a condition whose regular expressions are ones
abbrev pub is_one_as : ExpressionKind → (text : List ℕ) → Bool
is_one_as Regular text = is_expression text
is_one_as (Condition context) text = is_condition context text

abbrev pub is_one : PolicyExpression → Bool
is_one e = is_one_as e.kind e.text

-- one of these is none
abbrev pub some_is_none : List PolicyExpression → Bool
some_is_none expressions = list_any (λ e. not (is_one e)) expressions

-- the configuration where its policies have no fault, and their expressions are ones
abbrev pub reading_where : Option PolicyFault → Config → Result Config ConfigFault
reading_where (Some fault) config = Err (fault_is.Policy fault)
reading_where None config = if some_is_none (expressions_among config.policies) then Err fault_is.NotAnExpression else Ok config

-- the configuration where there is a trace for each shard, too
abbrev pub reading_with : Config → Result Config ConfigFault
reading_with config = if nat_lt config.num_traces config.shards then Err fault_is.TooFewTraces else reading_where (fault_of_policies config.policies) config

-- the configuration where its table has no fault
abbrev pub reading_unless : Option ConfigFault → Config → Result Config ConfigFault
reading_unless (Some fault) config = Err fault
reading_unless None config = reading_with config

-- what a table is read as
abbrev pub reading_of_table : Members → Result Config ConfigFault
reading_of_table members = reading_unless (table_fault members) (config_of members)

-- what a document is read as, where there is one
abbrev pub reading_of : Option Members → Result Config ConfigFault
reading_of None = Err fault_is.NotToml
reading_of (Some members) = reading_of_table members

-- what a text is read as
abbrev pub reading : List ℕ → Result Config ConfigFault
reading text = reading_of (parse_document text)
