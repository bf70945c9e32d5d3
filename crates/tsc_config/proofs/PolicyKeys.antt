-- Each policy has what stands at the keys of its table.
-- For `policies_are_of_their_keys`.
use Rattle.std.proofs.Common.{◌≡◌, ℕ, pos, negsuc, zero, suc, Bool, true, false, ◌⊎◌, inl, inr, refl, ap, sym, subst, ◌∙◌, codes, List, [], ◌∷◌, map, length, slice_get, Option, None, Some, if◌then◌else◌}
use Rattle.toml.specs.Data.{Data, string, array, table, Items, no_items, item, Members, get_member, get_item}
use Rattle.policy_tree.specs.declared.limit.Limit.TheVariants.{Spans, Bytes}
use Rattle.policy_tree.specs.declared.policy.Policy.{Policy}
use Rattle.policy_tree.specs.declared.policy.PolicyKind.{PolicyKind}
use Rattle.policy_tree.specs.declared.policy.PolicyKind.TheOpen.{PolicyKind-F}
use Rattle.policy_tree.specs.declared.policy.PolicyKind.TheVariants as kind_is
use Rattle.policy_tree.specs.declared.policy.PolicyKind.TheVariants.{rolls-Leaf, rolls-Limiting, rolls-Joined}
use Rattle.policy_tree.specs.declared.policy.Leaf.{Leaf}
use Rattle.policy_tree.specs.declared.policy.Leaf.TheVariants as leaf_is
use Rattle.policy_tree.specs.declared.policy.PolicyKind.TheViews.{out-PolicyKind, roll-PolicyKind, out-roll-PolicyKind}
use Rattle.policy_tree.specs.declared.policy.Wanted.{Wanted}
use Rattle.tsc_config.proofs.SettingKeys.{type_is_named, text_keys, natural_keys, two_naturals, whole_keys, truth_keys, required_truth, salt_keys, percentage_keys, texts_keys, optional_texts, mode_keys, codes_keys, wanted_keys, bucket_keys}
use Rattle.tsc_config.proofs.Orders.{as_many, ordered_are, ordered_sound, ordered_as_many}
use Rattle.tsc_config.proofs.LookUps.{looked, parts_found, parts_fault_found, sub_found, sub_fault_found}
use Rattle.tsc_config.proofs.Shares.{unshared_are, as_many_shares}
use Rattle.tsc_config.proofs.Settings.{neither, switched, table_parts, read_as}
use Rattle.policy_tree.specs.declared.policy.Join.{Join}
use Rattle.policy_tree.specs.declared.policy.Join.TheVariants as join_is
use Rattle.config_faults.specs.PolicyTypes.{type_name}
use Rattle.config_faults.specs.Keys.{type_named, type_found, type_at, join_type, join_name, sub_key, join_of, join_at}
use Rattle.config_faults.specs.Composites.{is_ordered}
use Rattle.config_faults.specs.Faults.{optional, required, order_fault, allocation_fault, unknown_fault, natural_fault, text_fault, error_mode_fault, named_fault, array_fault, type_fault, percentage_fault, truth_fault, whole_fault, code_fault, rows_fault, settings_fault, settings_at_fault, typed_fault_where, policy_table_fault, policy_fault, policy_items_fault, policies_fault, typed_fault, parts_fault, parts_settings_fault, sub_policies_fault, sub_value_fault, table_fault, least}
use Rattle.tsc_config.specs.PolicyOrder.{found_before, ordered}
use Rattle.tsc_config.specs.Values.{natural_of, items_at, within_share, found_unless, order_of, composite_of, truth_of, attribute, leaf_in, kind_in, always, kind_by, kind_typed, policy_of, item_policies, policies_of, parts_policies, parts_settings, sub_value, policy_value, config_of}
use Rattle.tsc_config.specs.PolicyKeys.{IsText, IsComposite, unshared, IsTyped, IsWanted, IsLeaf, IsLayer, IsKind, IsPolicy, ArePartsAt, items_of, part_items, asked_items, settings_items, nested_items, value_at, parts_in, parts_of, parts_at, policy_at, HasPolicies, HasMatched, ReadsPolicies}
use Rattle.config_faults.specs.declared.fault.ConfigFault.{ConfigFault}
use Rattle.config_faults.specs.declared.fault.ConfigFault.TheVariants.{MissingKey, OutOfRange}
use Rattle.config_faults.specs.declared.policy_types.PolicyType.{PolicyType}
use Rattle.config_faults.specs.declared.policy_types.PolicyType.TheVariants as type_is
use Rattle.config_faults.specs.declared.keys.TableKind.TheVariants as table_is

-- ---- the settings of each type

-- a kind that is made of this layer
is_layer : (members : Members) (kind : PolicyKind) (layer : PolicyKind-F PolicyKind Policy) → roll-PolicyKind layer ≡ kind → IsLayer members layer → IsKind members kind
is_layer members kind layer e h = let P : PolicyKind-F PolicyKind Policy → Type 0 = λ l. IsLayer members l in subst P (sym (out-roll-PolicyKind layer) ∙ ap out-PolicyKind e) h

-- the settings are a table, whose rows have no fault
settings_table : (kind : PolicyType) (at : Option Data) → required (settings_fault kind) at ≡ None → (settings : Members) × (at ≡ Some (table settings)) × (rows_fault kind settings ≡ None)
settings_table kind (Some (table settings)) e = (settings, refl, (neither (unknown_fault (table_is.Settings kind) settings) (rows_fault kind settings) e).1)
settings_table kind None e = cc
settings_table kind (Some _) e = cc

abbrev Typed : Members → PolicyType → Members → Type 0
Typed members kind settings = IsTyped members (type_name kind) settings

-- the three of attributes, where what is wanted of the value is at its keys
attribute_keys : (members settings : Members) (name : List ℕ) (wanted : Wanted) → IsTyped members name settings → required text_fault (get_member (codes "key") settings) ≡ None
    → optional truth_fault (get_member (codes "invert_match") settings) ≡ None → IsWanted settings wanted name → IsLeaf members (attribute settings wanted)
attribute_keys members settings name wanted typed k i w = record {
  name = name;
  settings = settings;
  typed = typed;
  at_key = text_keys (get_member (codes "key") settings) k;
  at_wanted = w;
  at_invert = truth_keys (get_member (codes "invert_match") settings) i;
}

-- no fault among one, two, three or four
one : (a : Option ConfigFault) → least a None ≡ None → a ≡ None
one a e = (neither a None e).0

two : (a b : Option ConfigFault) → least a (least b None) ≡ None → (a ≡ None) × (b ≡ None)
two a b e = let n = neither a (least b None) e in (n.0, one b n.1)

three : (a b c : Option ConfigFault) → least a (least b (least c None)) ≡ None → (a ≡ None) × ((b ≡ None) × (c ≡ None))
three a b c e = let n = neither a (least b (least c None)) e in (n.0, two b c n.1)

four : (a b c d : Option ConfigFault) → least a (least b (least c (least d None))) ≡ None → (a ≡ None) × ((b ≡ None) × ((c ≡ None) × (d ≡ None)))
four a b c d e = let n = neither a (least b (least c (least d None))) e in (n.0, three b c d n.1)

-- ---- the policies that a policy is made of

-- the policy tables at the key of a policy that is joined so, without a fault
abbrev PartsAt : Join → Option Data → Type 0
PartsAt join at = record {
  parts : looked [] (sub_value join) at ≡ item_policies (part_items join at);
  sound : policy_items_fault (part_items join at) ≡ None;
  counted : ArePartsAt join at (looked [] (sub_value join) at);
}

parts_here : (join : Join) (at : Option Data) → looked (Some MissingKey) (sub_value_fault join) at ≡ None → PartsAt join at
parts_here join_is.And (Some (array items)) f = record { parts = refl; sound = f; counted = (items, refl, as_many items f) }
parts_here join_is.Drop (Some (array items)) f = record { parts = refl; sound = f; counted = (items, refl, as_many items f) }
parts_here join_is.Not (Some (table members)) f = record { parts = refl; sound = rw f; counted = (table members, refl, refl) }
parts_here join_is.And None f = absurd (cc f)
parts_here join_is.Drop None f = absurd (cc f)
parts_here join_is.Not None f = absurd (cc f)
parts_here join_is.And (Some _) f = absurd (cc f)
parts_here join_is.Drop (Some _) f = absurd (cc f)
parts_here join_is.Not (Some _) f = absurd (cc f)
parts_here join_is.FirstMatch (Some (array items)) f = record { parts = refl; sound = f; counted = (items, refl, as_many items f) }
parts_here join_is.FirstMatch None f = absurd (cc f)
parts_here join_is.FirstMatch (Some _) f = absurd (cc f)
parts_here join_is.Share None f = absurd (cc f)
parts_here join_is.Share (Some value) f = absurd (cc f)

-- the policy tables that a policy table without a fault is made of
abbrev Nested : Join → Members → Type 0
Nested join members = record {
  settings : Members;
  at_name : get_member (join_name join) members ≡ Some (table settings);
  parts : parts_policies join members ≡ item_policies (part_items join (get_member (sub_key join) settings));
  sound : policy_items_fault (part_items join (get_member (sub_key join) settings)) ≡ None;
  counted : ArePartsAt join (get_member (sub_key join) settings) (parts_policies join members);
  rows : rows_fault (join_type join) settings ≡ None;
  ordered : order_fault join settings ≡ None;
}

nested : (join : Join) (members : Members) → parts_fault join members ≡ None → Nested join members
nested join members e = at_name (get_member (join_name join) members) refl (sym (parts_fault_found join members) ∙ e)
  where
    at_name : (at : Option Data) → get_member (join_name join) members ≡ at → looked (Some MissingKey) (parts_settings_fault join) at ≡ None → Nested join members
    at_name (Some (table settings)) a f =
        let known = (neither (unknown_fault (table_is.Settings (join_type join)) settings) (least (rows_fault (join_type join) settings) (least (order_fault join settings) (sub_policies_fault join settings))) f).1 in
        let rows = neither (rows_fault (join_type join) settings) (least (order_fault join settings) (sub_policies_fault join settings)) known in
        let order = neither (order_fault join settings) (sub_policies_fault join settings) rows.1 in
        let h = parts_here join (get_member (sub_key join) settings) (sym (sub_fault_found join settings) ∙ order.1) in
        let same : parts_policies join members ≡ looked [] (sub_value join) (get_member (sub_key join) settings)
        = parts_found join members ∙ ap (looked [] (parts_settings join)) a ∙ sub_found join settings in
        let P : List Policy → Type 0 = λ ps. ArePartsAt join (get_member (sub_key join) settings) ps in
        record { settings = settings; at_name = a; parts = same ∙ h.parts; sound = h.sound; counted = subst P (sym same) h.counted; rows = rows.0; ordered = order.0 }
    at_name None a f = absurd (cc f)
    at_name (Some _) a f = absurd (cc f)

-- and in the order in which they are asked
asked_sound : (join : Join) (settings : Members) → policy_items_fault (part_items join (get_member (sub_key join) settings)) ≡ None → policy_items_fault (asked_items join settings) ≡ None
asked_sound join_is.FirstMatch settings s = ordered_sound (get_member (codes "policy_order") settings) (part_items join_is.FirstMatch (get_member (codes "composite_sub_policy") settings)) s
asked_sound join_is.And settings s = s
asked_sound join_is.Not settings s = s
asked_sound join_is.Drop settings s = s
asked_sound join_is.Share settings s = s

-- ---- one policy

-- of a type with settings of its own
by_settings : (kind : PolicyType) (members : Members) → ((settings : Members) → Typed members kind settings → rows_fault kind settings ≡ None → IsKind members (kind_in kind settings))
    → IsText members (codes "type") (type_name kind) → required (settings_fault kind) (get_member (type_name kind) members) ≡ None → IsKind members (kind_by kind (get_member (type_name kind) members))
by_settings kind members keys named e =
    let s = settings_table kind (get_member (type_name kind) members) e in
    let P : Option Data → Type 0 = λ at. IsKind members (kind_by kind at) in
    subst P (sym s.1) (keys s.0 (record { typed = named; at_name = s.1 }) s.2)

-- that has none
always_by : (at : Option Data) → kind_by type_is.AlwaysSample at ≡ always
unfolding leaf_in
always_by None = refl
always_by (Some (table settings)) = refl
always_by (Some _) = refl

-- a leaf
is_leaf : (members : Members) (leaf : Leaf) → IsLeaf members leaf → IsKind members (kind_is.Leaf leaf)
is_leaf members leaf h = is_layer members _ (PolicyKind-F.Leaf leaf) (rolls-Leaf leaf) h

-- a policy that is made of others, and isn't a composite
abbrev IsSimple : Join → Type 0
IsSimple join_is.FirstMatch = ⊥
IsSimple _ = Unit {0}

simple_layer : (join : Join) (members : Members) (parts : List Policy) → IsSimple join → (settings : Members) × IsTyped members (join_name join) settings × ArePartsAt join (get_member (sub_key join) settings) parts → IsLayer members (PolicyKind-F.Joined join parts)
simple_layer join_is.And members parts s h = h
simple_layer join_is.Not members parts s h = h
simple_layer join_is.Drop members parts s h = h
simple_layer join_is.Share members parts s h = h
simple_layer join_is.FirstMatch members parts s h = absurd s

is_joined : (join : Join) (members : Members) → IsSimple join → IsText members (codes "type") (join_name join) → parts_fault join members ≡ None → IsKind members (kind_is.Joined join (parts_policies join members))
is_joined join members s named e =
    let n = nested join members e in
    is_layer members _ (PolicyKind-F.Joined join (parts_policies join members)) (rolls-Joined join (parts_policies join members))
    (simple_layer join members (parts_policies join members) s (n.settings, record { typed = named; at_name = n.at_name }, n.counted))

-- an order without a fault is followed
order_used : (settings : Members) → order_fault join_is.FirstMatch settings ≡ None → order_of settings ≡ get_member (codes "policy_order") settings
order_used settings e = ap (λ (fault : Option ConfigFault). found_unless fault (get_member (codes "policy_order") settings)) e

-- a composite: its settings give the total and the shares
is_composite : (members : Members) → IsText members (codes "type") (codes "composite") → parts_fault join_is.FirstMatch members ≡ None
    → IsKind members (kind_is.Joined join_is.FirstMatch (composite_of (get_member (codes "composite") members) (parts_policies join_is.FirstMatch members)))
is_composite members named e =
    let n = nested join_is.FirstMatch members e in
    let parts = parts_policies join_is.FirstMatch members in
    let rows = three (required natural_fault (get_member (codes "max_total_spans_per_second") n.settings)) (optional (array_fault text_fault) (get_member (codes "policy_order") n.settings))
    (optional (array_fault allocation_fault) (get_member (codes "rate_allocation") n.settings)) n.rows in
    let order = get_member (codes "policy_order") n.settings in
    let at_order = allowed (is_ordered order (get_member (codes "composite_sub_policy") n.settings)) n.ordered in
    let total = natural_of (get_member (codes "max_total_spans_per_second") n.settings) in
    let allocations = items_at (get_member (codes "rate_allocation") n.settings) in
    let shares = ap (λ (at : Option Data). composite_of at parts) n.at_name
    ∙ ap (λ (at : Option Data). map (within_share total (length parts) allocations) (ordered at parts)) (order_used n.settings n.ordered) in
    let layer : IsComposite members (composite_of (get_member (codes "composite") members) parts) = record {
      settings = n.settings;
      typed = record { typed = named; at_name = n.at_name };
      given = parts;
      at_parts = n.counted;
      at_order = at_order;
      total = total;
      at_total = natural_keys (get_member (codes "max_total_spans_per_second") n.settings) rows.0;
      as_many = ap length shares
          ∙ as_many_shares total (length parts) allocations (ordered order parts)
          ∙ all_asked (get_member (codes "composite_sub_policy") n.settings) parts order n.parts n.sound n.counted at_order;
      are = shares;
    } in
    is_layer members _ (PolicyKind-F.Joined join_is.FirstMatch (composite_of (get_member (codes "composite") members) parts)) (rolls-Joined join_is.FirstMatch (composite_of (get_member (codes "composite") members) parts)) layer
  where
    allowed : (r : Bool) → (if r then None else Some OutOfRange) ≡ None → r ≡ true
    allowed true f = refl
    allowed false f = absurd (cc f)

    all_asked : (at : Option Data) (parts : List Policy) (order : Option Data) → parts ≡ item_policies (part_items join_is.FirstMatch at) → policy_items_fault (part_items join_is.FirstMatch at) ≡ None
        → ArePartsAt join_is.FirstMatch at parts → is_ordered order at ≡ true → length (ordered order parts) ≡ length parts
    all_asked (Some (array items)) parts order same sound counted o = ap (λ (ps : List Policy). length (ordered order ps)) same ∙ ordered_as_many order items sound o ∙ sym (ap length same)
    all_asked None parts order same sound counted o = absurd (cc counted.1)
    all_asked (Some _) parts order same sound counted o = absurd (cc counted.1)

abbrev parts : PolicyType → Members → List Policy
parts kind members = parts_policies (join_of (Some kind)) members

kind_keys : (kind : PolicyType) (members : Members) → IsText members (codes "type") (type_name kind) → settings_at_fault kind members (parts_fault (join_of (Some kind)) members) ≡ None
    → IsKind members (kind_typed (Some kind) members (parts kind members))
unfolding leaf_in
kind_keys type_is.AlwaysSample members named e = let P : PolicyKind → Type 0 = λ k. IsKind members k in
    subst P (sym (always_by (get_member (codes "always_sample") members))) (is_leaf members leaf_is.AlwaysSample named)
kind_keys type_is.And members named e = is_joined join_is.And members tt named e
kind_keys type_is.Not members named e = is_joined join_is.Not members tt named e
kind_keys type_is.Drop members named e = is_joined join_is.Drop members tt named e
kind_keys type_is.Composite members named e = is_composite members named e
kind_keys type_is.Latency members named e = by_settings type_is.Latency members
    (λ settings typed f. let n = two_naturals settings (codes "threshold_ms") (codes "upper_threshold_ms") f in is_leaf members _ (settings, typed, n.0, n.1)) named e
kind_keys type_is.StatusCode members named e = by_settings type_is.StatusCode members
    (λ settings typed f. is_leaf members _ (settings, typed, codes_keys (get_member (codes "status_codes") settings) (one (required (array_fault code_fault) (get_member (codes "status_codes") settings)) f))) named e
kind_keys type_is.StringAttribute members named e = by_settings type_is.StringAttribute members
    (λ settings typed f.
    let matching = get_member (codes "enabled_regex_matching") settings in
    let k = neither (required text_fault (get_member (codes "key") settings)) _ f in
    let n = four (required (array_fault text_fault) (get_member (codes "values") settings)) (optional truth_fault (get_member (codes "invert_match") settings)) (optional truth_fault matching) (optional natural_fault (get_member (codes "cache_max_size") settings)) k.1 in
    is_leaf members _ (attribute_keys members settings (codes "string_attribute") _ typed k.0 n.1.0
    (wanted_keys settings _ matching refl n.1.1.0 (texts_keys (get_member (codes "values") settings) n.0)))) named e
kind_keys type_is.NumericAttribute members named e = by_settings type_is.NumericAttribute members
    (λ settings typed f.
    let n = four (required text_fault (get_member (codes "key") settings)) (optional whole_fault (get_member (codes "min_value") settings)) (optional whole_fault (get_member (codes "max_value") settings)) (optional truth_fault (get_member (codes "invert_match") settings)) f in
    is_leaf members _ (attribute_keys members settings (codes "numeric_attribute") _ typed n.0 n.1.1.1
    (refl, whole_keys (negsuc 9223372036854775807) _ n.1.0, whole_keys (pos 9223372036854775807) _ n.1.1.0))) named e
kind_keys type_is.BooleanAttribute members named e = by_settings type_is.BooleanAttribute members
    (λ settings typed f.
    let n = three (required text_fault (get_member (codes "key") settings)) (required truth_fault (get_member (codes "value") settings)) (optional truth_fault (get_member (codes "invert_match") settings)) f in
    is_leaf members _ (attribute_keys members settings (codes "boolean_attribute") _ typed n.0 n.1.1 (refl, required_truth (get_member (codes "value") settings) n.1.0))) named e
kind_keys type_is.SpanCount members named e = by_settings type_is.SpanCount members
    (λ settings typed f. let n = two_naturals settings (codes "min_spans") (codes "max_spans") f in is_leaf members _ (settings, typed, n.0, n.1)) named e
kind_keys type_is.Probabilistic members named e = by_settings type_is.Probabilistic members
    (λ settings typed f.
    let n = two (optional text_fault (get_member (codes "hash_salt") settings)) (required percentage_fault (get_member (codes "sampling_percentage") settings)) f in
    is_leaf members _ (settings, typed, salt_keys settings (get_member (codes "hash_salt") settings) refl n.0, percentage_keys settings (get_member (codes "sampling_percentage") settings) refl n.1)) named e
kind_keys type_is.TraceState members named e = by_settings type_is.TraceState members
    (λ settings typed f.
    let n = two (required text_fault (get_member (codes "key") settings)) (required (array_fault text_fault) (get_member (codes "values") settings)) f in
    is_leaf members _ (settings, typed, text_keys (get_member (codes "key") settings) n.0, texts_keys (get_member (codes "values") settings) n.1)) named e
kind_keys type_is.OttlCondition members named e = by_settings type_is.OttlCondition members
    (λ settings typed f.
    let n = three (optional error_mode_fault (get_member (codes "error_mode") settings)) (optional (array_fault text_fault) (get_member (codes "span") settings)) (optional (array_fault text_fault) (get_member (codes "spanevent") settings)) f in
    is_leaf members _ (
      settings,
      typed,
      mode_keys settings (get_member (codes "error_mode") settings) refl n.0,
      optional_texts settings (codes "span") (get_member (codes "span") settings) refl n.1.0,
      optional_texts settings (codes "spanevent") (get_member (codes "spanevent") settings) refl n.1.1,
    )) named e
kind_keys type_is.TraceFlags members named e = is_leaf members leaf_is.TraceFlags named
kind_keys type_is.RateLimiting members named e = by_settings type_is.RateLimiting members
    (λ settings typed f. is_layer members _ (PolicyKind-F.Limiting (Spans _)) (rolls-Limiting _)
    (settings, typed, natural_keys (get_member (codes "spans_per_second") settings) (one (required natural_fault (get_member (codes "spans_per_second") settings)) f))) named e
kind_keys type_is.BytesLimiting members named e = by_settings type_is.BytesLimiting members
    (λ settings typed f. let n = bucket_keys settings f in is_layer members _ (PolicyKind-F.Limiting (Bytes _ _)) (rolls-Limiting _) (settings, typed, n.0, n.1)) named e

-- the policies of a policy table
abbrev parts_of_table : Members → List Policy
parts_of_table members = parts_policies (join_at members) members

policy_keys : (members : Members) → policy_fault (table members) ≡ None → IsPolicy members (policy_of members (parts_of_table members))
unfolding policy_table_fault policy_of
policy_keys members e =
    let name : Option ConfigFault = required text_fault (get_member (codes "name") members) in
    let kind : Option ConfigFault = required type_fault (get_member (codes "type") members) in
    let o = neither (least name kind) (typed_fault_where (type_at members) members (parts_fault (join_at members) members)) e in
    let n = neither name kind o.0 in record {
      name = text_keys (get_member (codes "name") members) n.0;
      kind = at_type (get_member (codes "type") members) refl n.1 o.1;
    }
  where
    at_name : (text : List ℕ) (found : Option PolicyType) → type_named text ≡ found → get_member (codes "type") members ≡ Some (string text) → named_fault found ≡ None
        → typed_fault_where found members (parts_fault (join_of found) members) ≡ None → IsKind members (kind_typed found members (parts_policies (join_of found) members))
    at_name text (Some kind) t a f g =
        kind_keys kind members (a ∙ ap (λ (x : List ℕ). Some (string x)) (type_is_named text kind t))
        (neither (unknown_fault (table_is.Policy kind) members) (settings_at_fault kind members (parts_fault (join_of (Some kind)) members)) g).1
    at_name text None t a f g = absurd (cc f)

    at_type : (at : Option Data) → get_member (codes "type") members ≡ at → required type_fault at ≡ None
        → typed_fault_where (type_found at) members (parts_fault (join_of (type_found at)) members) ≡ None
        → IsKind members (kind_typed (type_found at) members (parts_policies (join_of (type_found at)) members))
    at_type (Some (string text)) a f g = at_name text (type_named text) refl a f g
    at_type None a f g = absurd (cc f)
    at_type (Some _) a f g = absurd (cc f)

-- ---- all policies

-- the value is a table without a fault, and this is its policy
abbrev OfTable : Option Data → Policy → Type 0
OfTable at policy = (of : Members) × (at ≡ Some (table of)) × (policy ≡ policy_of of (parts_of_table of)) × (policy_fault (table of) ≡ None)

at_place : (items : Items) (place : ℕ) (policy : Policy) → policy_items_fault items ≡ None → slice_get (item_policies items) place ≡ Some policy → OfTable (get_item place items) policy
at_place no_items place policy e h = cc
at_place (item value rest) place policy e h = of value place (neither (policy_fault value) (policy_items_fault rest) e).0 h
    (λ n g. at_place rest n policy (neither (policy_fault value) (policy_items_fault rest) e).1 g)
  where
    of : (value : Data) (place : ℕ) → policy_fault value ≡ None → slice_get (found_before (policy_value value) (item_policies rest)) place ≡ Some policy
        → ((n : ℕ) → slice_get (item_policies rest) n ≡ Some policy → OfTable (get_item n rest) policy) → OfTable (get_item place (item value rest)) policy
    of (table members) zero f g later = (members, refl, cc, f)
    of (table members) (suc place) f g later = later place g
    of _ place f g later = absurd (cc f)

-- the policies inside a kind that is made of this layer
parts_are : (kind : PolicyKind) (layer : PolicyKind-F PolicyKind Policy) → roll-PolicyKind layer ≡ kind → parts_of kind ≡ parts_in layer
parts_are kind layer e = ap parts_in (sym (ap out-PolicyKind e) ∙ out-roll-PolicyKind layer)

none_in : (leaf : Leaf) → parts_of (kind_is.Leaf leaf) ≡ []
none_in leaf = parts_are _ (PolicyKind-F.Leaf leaf) (rolls-Leaf leaf)

none_in_settings : (kind : PolicyType) (settings : Members) → parts_of (kind_in kind settings) ≡ []
none_in_settings type_is.RateLimiting settings = parts_are _ (PolicyKind-F.Limiting _) (rolls-Limiting _)
none_in_settings type_is.BytesLimiting settings = parts_are _ (PolicyKind-F.Limiting _) (rolls-Limiting _)
none_in_settings kind settings = none_in (leaf_in kind settings)

no_parts : (kind : PolicyType) (at : Option Data) → parts_of (kind_by kind at) ≡ []
no_parts kind None = none_in leaf_is.AlwaysSample
no_parts kind (Some (table settings)) = none_in_settings kind settings
no_parts kind (Some _) = none_in leaf_is.AlwaysSample

-- the policies inside a kind are those of the policy tables at the key of their settings, which have no fault
abbrev HasAsked : Join → Members → PolicyKind → Type 0
HasAsked join members kind =
    (policy_items_fault (settings_items join (get_member (join_name join) members)) ≡ None)
    × (parts_of kind ≡ item_policies (settings_items join (get_member (join_name join) members)))

asked_there : (join : Join) (members : Members) (kind : PolicyKind) (n : Nested join members) → parts_of kind ≡ item_policies (asked_items join n.settings) → HasAsked join members kind
asked_there join members kind n same =
    let P : Items → Type 0 = λ items. policy_items_fault items ≡ None in
    let here : asked_items join n.settings ≡ settings_items join (get_member (join_name join) members) = sym (ap (settings_items join) n.at_name) in
    (subst P here (asked_sound join n.settings n.sound), same ∙ ap item_policies here)

-- a policy without parts, or with those of a table without a fault
abbrev HasParts : Option PolicyType → Members → PolicyKind → Type 0
HasParts found members kind = (parts_of kind ≡ []) ⊎ HasAsked (join_of found) members kind

composite_parts : (members : Members) → typed_fault type_is.Composite members (parts_fault join_is.FirstMatch members) ≡ None
    → HasAsked join_is.FirstMatch members (kind_is.Joined join_is.FirstMatch (composite_of (get_member (codes "composite") members) (parts_policies join_is.FirstMatch members)))
composite_parts members e =
    let n = nested join_is.FirstMatch members (neither (unknown_fault (table_is.Policy type_is.Composite) members) (settings_at_fault type_is.Composite members (parts_fault join_is.FirstMatch members)) e).1 in
    let parts = parts_policies join_is.FirstMatch members in
    let shares = composite_of (get_member (codes "composite") members) parts in
    let order = get_member (codes "policy_order") n.settings in
    asked_there join_is.FirstMatch members (kind_is.Joined join_is.FirstMatch shares) n (parts_are _ (PolicyKind-F.Joined join_is.FirstMatch shares) (rolls-Joined join_is.FirstMatch shares)
    ∙ ap (λ (at : Option Data). unshared (composite_of at parts)) n.at_name
    ∙ unshared_are (natural_of (get_member (codes "max_total_spans_per_second") n.settings)) (length parts) (items_at (get_member (codes "rate_allocation") n.settings)) (ordered (order_of n.settings) parts)
    ∙ ap (λ (at : Option Data). ordered at parts) (order_used n.settings n.ordered)
    ∙ ap (λ (ps : List Policy). ordered order ps) n.parts ∙ ordered_are order (part_items join_is.FirstMatch (get_member (codes "composite_sub_policy") n.settings)) n.sound)

joined_parts : (kind : PolicyType) (join : Join) (members : Members) → IsSimple join → typed_fault kind members (parts_fault join members) ≡ None → settings_at_fault kind members (parts_fault join members) ≡ parts_fault join members
    → HasAsked join members (kind_is.Joined join (parts_policies join members))
joined_parts kind join members s e same =
    let n = nested join members (sym same ∙ (neither (unknown_fault (table_is.Policy kind) members) (settings_at_fault kind members (parts_fault join members)) e).1) in
    let parts = parts_policies join members in
    asked_there join members (kind_is.Joined join parts) n (parts_are _ (PolicyKind-F.Joined join parts) (rolls-Joined join parts) ∙ simple_parts join parts s ∙ n.parts ∙ simple_items join n.settings s)
  where
    simple_parts : (j : Join) (parts : List Policy) → IsSimple j → parts_in (PolicyKind-F.Joined j parts) ≡ parts
    simple_parts join_is.And parts s = refl
    simple_parts join_is.Not parts s = refl
    simple_parts join_is.Drop parts s = refl
    simple_parts join_is.Share parts s = refl
    simple_parts join_is.FirstMatch parts s = absurd s

    simple_items : (j : Join) (settings : Members) → IsSimple j → item_policies (part_items j (get_member (sub_key j) settings)) ≡ item_policies (asked_items j settings)
    simple_items join_is.And settings s = refl
    simple_items join_is.Not settings s = refl
    simple_items join_is.Drop settings s = refl
    simple_items join_is.Share settings s = refl
    simple_items join_is.FirstMatch settings s = absurd s

parts_typed : (found : Option PolicyType) (members : Members) → typed_fault_where found members (parts_fault (join_of found) members) ≡ None
    → HasParts found members (kind_typed found members (parts_policies (join_of found) members))
parts_typed None members e = inl (none_in leaf_is.AlwaysSample)
parts_typed (Some type_is.And) members e = inr (joined_parts type_is.And join_is.And members tt e refl)
parts_typed (Some type_is.Not) members e = inr (joined_parts type_is.Not join_is.Not members tt e refl)
parts_typed (Some type_is.Drop) members e = inr (joined_parts type_is.Drop join_is.Drop members tt e refl)
parts_typed (Some type_is.Composite) members e = inr (composite_parts members e)
parts_typed (Some type_is.TraceFlags) members e = inl (none_in leaf_is.TraceFlags)
parts_typed (Some kind) members e = inl (no_parts kind (get_member (type_name kind) members))

parts_sound : (members : Members) → policy_fault (table members) ≡ None → HasParts (type_at members) members (policy_of members (parts_of_table members)).kind
unfolding policy_table_fault policy_of
parts_sound members e = parts_typed (type_at members) members (neither (least (required text_fault (get_member (codes "name") members)) (required type_fault (get_member (codes "type") members))) _ e).1

nothing : (deeper : List ℕ) (place : ℕ) (policy : Policy) → policy_at [] place deeper ≡ Some policy → ⊥
nothing [] place policy g = cc
nothing (next ∷ deeper) place policy g = nothing deeper next policy g

at_places : (deeper : List ℕ) (items : Items) (place : ℕ) (policy : Policy) → policy_items_fault items ≡ None → policy_at (item_policies items) place deeper ≡ Some policy → OfTable (value_at items place deeper) policy
at_places [] items place policy e h = at_place items place policy e h
at_places (next ∷ deeper) items place policy e h = inside (slice_get (item_policies items) place) refl h (λ inner n s g. at_places deeper inner n policy s g)
  where
    Later : Type 0
    Later = (inner : Items) (n : ℕ) → policy_items_fault inner ≡ None → policy_at (item_policies inner) n deeper ≡ Some policy → OfTable (value_at inner n deeper) policy

    Inside : Option Data → Type 0
    Inside at = OfTable (value_at (nested_items at) next deeper) policy

    in_table : (members : Members) → (kind : PolicyKind) → policy_at (parts_of kind) next deeper ≡ Some policy → HasParts (type_at members) members kind → Later → Inside (Some (table members))
    in_table members kind g (inl none) later = absurd (nothing deeper next policy (ap (λ (ps : List Policy). policy_at ps next deeper) (sym none) ∙ g))
    in_table members kind g (inr (f, all)) later = later (nested_items (Some (table members))) next f (ap (λ (ps : List Policy). policy_at ps next deeper) (sym all) ∙ g)

    inside : (found : Option Policy) → slice_get (item_policies items) place ≡ found → policy_at (parts_at found) next deeper ≡ Some policy → Later → Inside (get_item place items)
    inside None s g later = absurd (nothing deeper next policy g)
    inside (Some outer) s g later =
        let t = at_place items place outer e s in
        subst Inside (sym t.1)
        (in_table t.0 (policy_of t.0 (parts_of_table t.0)).kind (ap (λ (p : Policy). policy_at (parts_of p.kind) next deeper) (sym t.2) ∙ g) (parts_sound t.0 t.3) later)

sound : (at : Option Data) → required policies_fault at ≡ None → (policy_items_fault (items_of at) ≡ None) × (policies_of at ≡ item_policies (items_of at))
sound (Some (array items)) e = (e, refl)
sound None e = cc
sound (Some _) e = cc

whole : (members : Members) → table_fault members ≡ None → HasPolicies members (policies_of (get_member (codes "policies") members))
whole members e =
    let p = sound (get_member (codes "policies") members) (table_parts members e).4 in
    let items : Items = items_of (get_member (codes "policies") members) in record {
      as_many = ap length p.1 ∙ as_many items p.0;
      each = λ place deeper policy h.
          let t = at_places deeper items place policy p.0 (ap (λ (ps : List Policy). policy_at ps place deeper) (sym p.1) ∙ h) in
          let P : Policy → Type 0 = λ q. IsPolicy t.0 q in
          (t.0, t.1, subst P (sym t.2) (policy_keys t.0 t.3));
    }

matched_whole : (members : Members) → table_fault members ≡ None → HasMatched members (config_of members).policies
matched_whole members e = record {
  is_first = truth_of (get_member (codes "sample_on_first_match") members);
  at_key = switched members (codes "sample_on_first_match") refl (table_parts members e).0;
  given = policies_of (get_member (codes "policies") members);
  has = whole members e;
  are = refl;
}

pub reads_policies : ReadsPolicies
reads_policies text config e = read_as (λ members c. HasMatched members c.policies) matched_whole text config e
