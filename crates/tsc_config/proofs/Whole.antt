-- What a text is read as has the least of the faults that the text has.
-- For the contract of `answers_least_fault`.
use Rattle.std.proofs.Common.{◌≡◌, ℕ, ◌<◌, ◌≤◌, Bool, true, false, ◌⊎◌, inl, inr, refl, sym, ◌∙◌, arith, List, Option, None, Some, Ok, Err, if◌then◌else◌, nat_lt}
use Rattle.std.proofs.lemmas.Bool.Decides.{nat_tests}
use Rattle.std.specs.Result.{result_err}
use Rattle.toml.specs.Data.{Members}
use Rattle.toml.specs.Parse.{parse_document}
use Rattle.policy_tree.specs.Faults.{fault_of_policies}
use Rattle.policy_tree.specs.declared.expressions.PolicyExpression.{PolicyExpression}
use Rattle.policy_tree.specs.declared.fault.PolicyFault.{PolicyFault}
use Rattle.config_faults.specs.Faults.{config_fault_number, table_fault}
use Rattle.tsc_config.specs.FaultSets.{IsLeastOf, HasFault, SomeIsNone, DocumentHas, TextHas}
use Rattle.tsc_config.specs.Reading.{expressions_among, some_is_none, reading, reading_of, reading_unless, reading_with, reading_where}
use Rattle.tsc_config.specs.Values.{config_of}
use Rattle.tsc_config.proofs.FaultSets.{alone, table_least}
use Rattle.tsc_config.proofs.Bounds.{IsSmall, table_small}
use Rattle.tsc_config.proofs.SomeIsNone.{some_is, is_some}
use Rattle.tsc_config.specs.declared.config.Config.{Config}
use Rattle.config_faults.specs.declared.fault.ConfigFault.{ConfigFault}
use Rattle.config_faults.specs.declared.fault.ConfigFault.TheVariants.{NotToml, TooFewTraces, Policy, NotAnExpression}

-- the faults of a configuration beside those of its table
abbrev Beside : (few : Type 0) → Option PolicyFault → (texts : List PolicyExpression) → ConfigFault → Type 0
Beside few found texts fault =
    ((fault ≡ TooFewTraces) × few)
    ⊎ (((of_policies : PolicyFault) × (found ≡ Some of_policies) × (fault ≡ Policy of_policies)) ⊎ ((fault ≡ NotAnExpression) × (found ≡ None) × SomeIsNone texts))

beside_number : (few : Type 0) (found : Option PolicyFault) (texts : List PolicyExpression) (fault : ConfigFault) → Beside few found texts fault → 6 ≤ config_fault_number fault
beside_number few found texts fault (inl (e, h)) = rw e (omega arith)
beside_number few found texts fault (inr (inl (p, g, e))) = rw e (omega arith)
beside_number few found texts fault (inr (inr (e, g, h))) = rw e (omega arith)

-- of policies without a fault of their own
expressions_least : (few : Type 0) (texts : List PolicyExpression) (r : Bool) (config : Config) → some_is_none texts ≡ r → (few → ⊥)
    → IsLeastOf (Beside few None texts) (result_err (if r then Err NotAnExpression else Ok config))
expressions_least few texts true config e many = record { is_one = λ fault f. inr (inr (cc, refl, some_is texts e)); is_least = no_lesser }
  where
    no_lesser : (fault : ConfigFault) → Beside few None texts fault → (one : ConfigFault) × (Some NotAnExpression ≡ Some one) × (config_fault_number one ≤ config_fault_number fault)
    no_lesser fault (inl (f, h)) = absurd (many h)
    no_lesser fault (inr (inl (p, g, f))) = cc
    no_lesser fault (inr (inr (f, g, h))) = (NotAnExpression, refl, rw f (omega arith))
expressions_least few texts false config e many = record { is_one = λ fault f. cc; is_least = no_lesser }
  where
    no_lesser : (fault : ConfigFault) → Beside few None texts fault → (one : ConfigFault) × (None ≡ Some one) × (config_fault_number one ≤ config_fault_number fault)
    no_lesser fault (inl (f, h)) = absurd (many h)
    no_lesser fault (inr (inl (p, g, f))) = cc
    no_lesser fault (inr (inr (f, g, h))) = let wrong : false ≡ true = sym e ∙ is_some texts h in cc

beside_least : (few : Type 0) (r : Bool) (found : Option PolicyFault) (config : Config) → (r ≡ true → few) → (few → r ≡ true)
    → IsLeastOf (Beside few found (expressions_among config.policies)) (result_err (if r then Err TooFewTraces else reading_where found config))
beside_least few true found config to from = record {
  is_one = λ fault e. inl (cc, to refl);
  is_least = λ fault h. (TooFewTraces, refl, beside_number few found (expressions_among config.policies) fault h);
}
beside_least few false None config to from =
    expressions_least few (expressions_among config.policies) (some_is_none (expressions_among config.policies)) config refl (λ h. let wrong : false ≡ true = from h in cc)
beside_least few false (Some of_policies) config to from = record { is_one = λ fault e. inr (inl (of_policies, refl, cc)); is_least = no_lesser }
  where
    no_lesser : (fault : ConfigFault) → Beside few (Some of_policies) (expressions_among config.policies) fault → (one : ConfigFault) × (Some (Policy of_policies) ≡ Some one) × (config_fault_number one ≤ config_fault_number fault)
    no_lesser fault (inl (e, h)) = let wrong : false ≡ true = from h in cc
    no_lesser fault (inr (inl (p, g, e))) = (Policy of_policies, refl, rw e (omega arith))
    no_lesser fault (inr (inr (e, g, h))) = cc

table_first : (Has : ConfigFault → Type 0) (found : Option ConfigFault) (config : Config) → IsLeastOf Has found → IsSmall found
    → IsLeastOf (λ fault. Has fault ⊎ Beside (config.num_traces < config.shards) (fault_of_policies config.policies) (expressions_among config.policies) fault) (result_err (reading_unless found config))
table_first Has None config h small = record { is_one = λ fault e. inr (rest.is_one fault e); is_least = no_lesser }
  where
    rest : IsLeastOf (Beside (config.num_traces < config.shards) (fault_of_policies config.policies) (expressions_among config.policies)) (result_err (reading_with config))
    rest = beside_least (config.num_traces < config.shards) (nat_lt config.num_traces config.shards) (fault_of_policies config.policies) config (λ e. grind (arith, nat_tests)) (λ e. grind (arith, nat_tests))

    no_lesser : (fault : ConfigFault) → Has fault ⊎ Beside (config.num_traces < config.shards) (fault_of_policies config.policies) (expressions_among config.policies) fault
        → (one : ConfigFault) × (result_err (reading_with config) ≡ Some one) × (config_fault_number one ≤ config_fault_number fault)
    no_lesser fault (inl x) = let f : (one : ConfigFault) × (None ≡ Some one) × (config_fault_number one ≤ config_fault_number fault) = h.is_least fault x in let wrong : None ≡ Some f.0 = f.1 in cc
    no_lesser fault (inr x) = rest.is_least fault x
table_first Has (Some found) config h small = record { is_one = λ fault e. inl (h.is_one fault e); is_least = no_lesser }
  where
    no_lesser : (fault : ConfigFault) → Has fault ⊎ Beside (config.num_traces < config.shards) (fault_of_policies config.policies) (expressions_among config.policies) fault
        → (one : ConfigFault) × (Some found ≡ Some one) × (config_fault_number one ≤ config_fault_number fault)
    no_lesser fault (inl x) = h.is_least fault x
    no_lesser fault (inr x) =
        let low : config_fault_number found < 6 = small found refl in
        let high : 6 ≤ config_fault_number fault = beside_number (config.num_traces < config.shards) (fault_of_policies config.policies) (expressions_among config.policies) fault x in
        (found, refl, omega (arith, low, high))

document_least : (document : Option Members) → IsLeastOf (DocumentHas document) (result_err (reading_of document))
document_least None = alone NotToml
document_least (Some members) = table_first (HasFault members) (table_fault members) (config_of members) (table_least members) (table_small members)

pub text_least : (text : List ℕ) → IsLeastOf (TextHas text) (result_err (reading text))
text_least text = document_least (parse_document text)
