-- Worked rows: where faults of policies and conditions stand, and orders that follow. No clause needs them: they show what `Walk` and
-- `Orders` say, which code and contracts follow.
use Rattle.std.proofs.Common.{◌≡◌, ℕ, pos, Bool, true, false, List, [], ◌∷◌, map, codes, Option, Some, None, refl}
use Rattle.std.specs.Fmt.{digits}
use Rattle.toml.specs.Data.{Data, string, integer, array, table, Items, no_items, item, Members, no_members, member}
use Rattle.policy_tree.specs.declared.fault.PolicyFault.{PolicyFault}
use Rattle.policy_tree.specs.declared.fault.PolicyFault.TheVariants.{EmptyList, TooDeep, TooMany, SameName, CrossedBounds, NoValues}
use Rattle.policy_places.specs.Orders.{order_follows}
use Rattle.policy_places.specs.Places.{key_place, item_place, doubled_name}
use Rattle.policy_places.specs.Walk.{Place, fault_place, condition_place, unnamed, leaf_settings_place}

-- a policy table of this name and type, with these settings
abbrev named : (name kind : List ℕ) → (settings : Members) → Data
named name kind settings = table (member (codes "name") (string name) (member (codes "type") (string kind) (member kind (table settings) no_members)))

-- one without a name
abbrev nameless : Data
nameless = table (member (codes "type") (string (codes "always_sample")) no_members)

abbrev list : Data → Data → Data
list first second = array (item first (item second no_items))

abbrev policies : Data → Members
policies value = member (codes "policies") value no_members

abbrev number : (key : List ℕ) → (value : ℕ) → Members → Members
number key value rest = member key (integer (pos value)) rest

-- the first place of each fault in a table
abbrev places : Members → List (Option Place)
places members = map (λ (fault : PolicyFault). fault_place fault members) (EmptyList ∷ SameName ∷ CrossedBounds ∷ NoValues ∷ TooDeep ∷ TooMany ∷ [])

written : key_place [] (codes "a") ∷ key_place (codes "a") (codes "b") ∷ item_place (codes "a.b") 0 ∷ item_place (codes "a") 12 ∷ []
    ≡ codes "a" ∷ codes "a.b" ∷ codes "a.b[0]" ∷ codes "a[12]" ∷ []
unfolding digits
written = refl

-- no policies, some that are no array, a list of what are no tables, two without a name, and an empty list
nowhere : map places (no_members ∷ policies (integer (pos 1)) ∷ policies (list (integer (pos 1)) (integer (pos 2))) ∷ policies (list nameless nameless) ∷ [])
    ≡ (None ∷ None ∷ None ∷ None ∷ None ∷ None ∷ []) ∷ (None ∷ None ∷ None ∷ None ∷ None ∷ None ∷ []) ∷ (None ∷ None ∷ None ∷ None ∷ None ∷ None ∷ []) ∷ (None ∷ None ∷ None ∷ None ∷ None ∷ None ∷ []) ∷ []
nowhere = refl

empty : places (policies (array no_items)) ≡ Some (unnamed (codes "policies")) ∷ None ∷ None ∷ None ∷ None ∷ None ∷ []
empty = refl

-- within the second of two, of a drop that is in a not: a latency whose bounds are the same, then two of one name, one
-- of them with no values
abbrev inner : Data
inner = named (codes "n") (codes "not") (member (codes "not_sub_policy") (named (codes "d") (codes "drop") (member (codes "drop_sub_policy") (array
    (item (named (codes "x") (codes "latency") (number (codes "threshold_ms") 2 (number (codes "upper_threshold_ms") 2 no_members)))
    (item (named (codes "y") (codes "span_count") (number (codes "min_spans") 2 no_members))
    (item (named (codes "x") (codes "trace_state") (member (codes "values") (array no_items) no_members)) no_items)))) no_members)) no_members)

within : places (policies (list nameless inner)) ≡ None
    ∷ Some (record { keys = codes "policies[1].not.not_sub_policy.drop.drop_sub_policy"; name = Some (codes "x") })
    ∷ Some (unnamed (codes "policies[1].not.not_sub_policy.drop.drop_sub_policy[0].latency"))
    ∷ Some (unnamed (codes "policies[1].not.not_sub_policy.drop.drop_sub_policy[2].trace_state.values"))
    ∷ None ∷ None ∷ []
unfolding leaf_settings_place digits
within = refl

-- conditions on spans and on events, of a policy within a drop; a text that stands at the other key; one that stands
-- nowhere; and one that a policy of another type has
abbrev asking : Members
asking = policies (list
    (named (codes "s") (codes "string_attribute") (member (codes "span") (array (item (string (codes "d")) no_items)) no_members))
    (named (codes "d") (codes "drop") (member (codes "drop_sub_policy") (list nameless
    (named (codes "o") (codes "ottl_condition") (member (codes "span") (list (string (codes "a")) (string (codes "b"))) (member (codes "spanevent") (array (item (string (codes "c")) no_items)) no_members)))) no_members)))

conditions : condition_place (codes "span") (codes "a") asking ∷ condition_place (codes "span") (codes "b") asking ∷ condition_place (codes "spanevent") (codes "c") asking
    ∷ condition_place (codes "span") (codes "c") asking ∷ condition_place (codes "span") (codes "d") asking ∷ []
    ≡ Some (codes "policies[1].drop.drop_sub_policy[1].ottl_condition.span[0]") ∷ Some (codes "policies[1].drop.drop_sub_policy[1].ottl_condition.span[1]")
    ∷ Some (codes "policies[1].drop.drop_sub_policy[1].ottl_condition.spanevent[0]") ∷ None ∷ None ∷ []
unfolding leaf_settings_place digits
conditions = refl

-- of two doubled names the first
first_of_two : map doubled_name ((item (named (codes "a") (codes "and") no_members) (item (named (codes "b") (codes "and") no_members) (item (named (codes "b") (codes "and") no_members) (item (named (codes "a") (codes "and") no_members) no_items))))
    ∷ (item nameless (item (named [] (codes "and") no_members) (item (named [] (codes "and") no_members) no_items))) ∷ (item nameless (item nameless (item (named [] (codes "and") no_members) no_items))) ∷ [])
    ≡ Some (codes "a") ∷ Some [] ∷ None ∷ []
first_of_two = refl

abbrev order : List Data → Items
order [] = no_items
order (first ∷ rest) = item first (order rest)

abbrev parts : Data
parts = list (named (codes "a") (codes "and") no_members) nameless

abbrev follows : List (List Data) → List Bool
follows orders = map (λ (texts : List Data). order_follows (Some (array (order texts))) (Some parts)) orders

-- an order beside a part with a name and one without: the name and a text, in either order, and a number in place of
-- either
following : follows
    ((string (codes "a") ∷ string (codes "b") ∷ []) ∷ (string (codes "b") ∷ string (codes "a") ∷ []) ∷ (integer (pos 1) ∷ string (codes "b") ∷ []) ∷ (integer (pos 1) ∷ string (codes "a") ∷ []) ∷ [])
    ≡ true ∷ true ∷ true ∷ true ∷ []
following = refl

-- two texts that aren't the name, the name twice, another text twice, one item fewer, one more, and none
not_following : follows
    ((string (codes "b") ∷ string (codes "c") ∷ []) ∷ (string (codes "a") ∷ string (codes "a") ∷ []) ∷ (string (codes "b") ∷ string (codes "b") ∷ []) ∷ (string (codes "a") ∷ []) ∷ (string (codes "a") ∷ string (codes "b") ∷ string (codes "c") ∷ []) ∷ [] ∷ [])
    ≡ false ∷ false ∷ false ∷ false ∷ false ∷ false ∷ []
not_following = refl
