-- Worked rows of the lists of faults, by computation. No clause needs them: they show what `FaultLists` says, which
-- code and contracts follow.
use Rattle.std.specs.Prelude.{◌≡◌, ℕ, pos, true, List, [], ◌∷◌, codes, Some, None, refl, map}
use Rattle.toml.specs.Data.{Data, string, integer, boolean, array, table, no_items, item, Members, no_members, member}
use Rattle.policy_tree.specs.declared.fault.PolicyFault.TheVariants.{EmptyList}
use Rattle.config_findings.specs.FaultLists.{policies_faults, table_faults, given_faults, document_faults}
use Rattle.config_faults.specs.Faults.{twice_fault}
use Rattle.config_faults.specs.Keys.{is_key, code_named}
use Rattle.tsc_config.specs.Values.{config_of}
use Rattle.config_faults.specs.declared.fault.ConfigFault.TheVariants.{NotToml, UnknownKey, MissingKey, WrongType, OutOfRange, TooFewTraces, Policy}

abbrev text_at : (key text : List ℕ) → Members → Members
text_at key text rest = member key (string text) rest

-- { name = "a", type = "always_sample" }
abbrev all : Data
all = table (text_at (codes "name") (codes "a") (text_at (codes "type") (codes "always_sample") no_members))

-- a policy of this type with these settings
abbrev typed : (type : List ℕ) → Data → Data
typed type settings = table (text_at (codes "name") (codes "b") (text_at (codes "type") type (member type settings no_members)))

-- an unknown key, each row's own fault, in the order of the rows; and two items of one array
top_table : table_faults (member (codes "lanes") (integer (pos 65))
    (member (codes "polices") (integer (pos 1))
    (member (codes "close_at_end_of_input") (integer (pos 1))
    (member (codes "queue_full") (string (codes "wait"))
    (member (codes "listen") (integer (pos 4318))
    (member (codes "decision_cache") (table (member (codes "sampled") (integer (pos 1)) (member (codes "sampled_cache_size") (boolean true) no_members)))
    (member (codes "policies") (array (item (integer (pos 1)) (item all (item (string []) no_items)))) no_members)))))))
    ≡ UnknownKey ∷ OutOfRange ∷ WrongType ∷ OutOfRange ∷ WrongType ∷ UnknownKey ∷ WrongType ∷ WrongType ∷ WrongType ∷ []
unfolding is_key twice_fault
top_table = refl

-- a missing key, and the empty list that the table gives
empty_table : document_faults (Some no_members) ≡ MissingKey ∷ Policy EmptyList ∷ []
unfolding is_key twice_fault
empty_table = refl

-- policies: a name of another type beside an unknown type, of which nothing more is looked at; two codes that are none,
-- and a number; settings that are missing
some_policies : policies_faults (array (item (table (member (codes "name") (integer (pos 1)) (text_at (codes "type") (codes "always") (member (codes "rate") all no_members))))
    (item (typed (codes "status_code") (table (member (codes "status_codes") (array (item (string (codes "ERR")) (item (string (codes "OK")) (item (integer (pos 2)) (item (string (codes "error")) no_items))))) no_members)))
    (item (table (text_at (codes "name") (codes "c") (text_at (codes "type") (codes "latency") no_members))) no_items))))
    ≡ WrongType ∷ OutOfRange ∷ OutOfRange ∷ WrongType ∷ OutOfRange ∷ MissingKey ∷ []
unfolding is_key code_named
some_policies = refl

-- policies within policies: an unknown key beside the parts, a part that is no table, and one of a `not` without a name
nested_policies : policies_faults (array (item (typed (codes "and") (table (member (codes "and_sub_policy") (array (item (integer (pos 1)) (item all no_items))) (member (codes "or") all no_members))))
    (item (typed (codes "not") (table (member (codes "not_sub_policy") (table (text_at (codes "type") (codes "always_sample") no_members)) no_members)))
    (item (typed (codes "drop") (table no_members)) no_items))))
    ≡ UnknownKey ∷ WrongType ∷ MissingKey ∷ MissingKey ∷ []
unfolding is_key
nested_policies = refl

-- fewer traces than shards; of a number out of its range the default counts; and the list of policies that isn't there
-- is empty
few_traces : map (λ (traces : ℕ). given_faults (config_of (member (codes "num_traces") (integer (pos traces)) (member (codes "shards") (integer (pos 2)) no_members)))) (1 ∷ 2 ∷ 0 ∷ [])
    ≡ (TooFewTraces ∷ Policy EmptyList ∷ []) ∷ (Policy EmptyList ∷ []) ∷ (Policy EmptyList ∷ []) ∷ []
few_traces = refl

no_document : document_faults None ≡ NotToml ∷ []
no_document = refl
