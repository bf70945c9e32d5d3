-- The parts of a composite, in the order in which they are asked.
-- For the contract of `policies_are_of_their_keys`.
use Rattle.std.proofs.Common.{◌≡◌, ℕ, ◌+◌, ◌==◌, Bool, true, false, ◌&&◌, ◌||◌, refl, ap, sym, ◌∙◌, arith, codes, List, length, Option, None, Some, if◌then◌else◌, option_and_then}
use Rattle.std.proofs.lemmas.Bool.Decides.{nat_tests}
use Rattle.std.specs.Str.{bytes_eq}
use Rattle.toml.specs.Data.{Data, string, array, table, Items, no_items, item, Members, get_member}
use Rattle.policy_tree.specs.declared.policy.Policy.{Policy}
use Rattle.config_faults.specs.Composites.{is_text, is_name, is_part, are_parts, are_named, count_items, is_ordered}
use Rattle.config_faults.specs.Faults.{required, text_fault, type_fault, typed_fault_where, policy_table_fault, policy_fault, policy_items_fault, parts_fault, least}
use Rattle.config_faults.specs.Keys.{join_at, type_at}
use Rattle.config_faults.specs.declared.fault.ConfigFault.{ConfigFault}
use Rattle.tsc_config.proofs.Settings.{neither}
use Rattle.tsc_config.specs.PolicyOrder.{found_before, names, first_named, each_named, ordered, first_item, item_before, each_item, ordered_items}
use Rattle.tsc_config.specs.Values.{text_of, policy_of, policy_value, item_policies, parts_policies}

-- no item has a fault
abbrev pub Sound : Items → Type 0
Sound items = policy_items_fault items ≡ None

pub as_many : (items : Items) → Sound items → length (item_policies items) ≡ count_items items
as_many no_items e = refl
as_many (item value rest) e = of value (neither (policy_fault value) (policy_items_fault rest) e).0 (as_many rest (neither (policy_fault value) (policy_items_fault rest) e).1)
  where
    of : (value : Data) → policy_fault value ≡ None → length (item_policies rest) ≡ count_items rest → length (found_before (policy_value value) (item_policies rest)) ≡ 1 + count_items rest
    of (table members) f later = omega (arith, later)
    of _ f later = absurd (cc f)

-- ---- what a text names

named_so : (text : List ℕ) (at : Option Data) → required text_fault at ≡ None → bytes_eq text (text_of at) ≡ is_text text at
named_so text (Some (string found)) e = refl
named_so text None e = absurd (cc e)
named_so text (Some _) e = absurd (cc e)

-- the name of a policy is that of its table
same_name : (text : Data) (members : Members) (nested : List Policy) → policy_fault (table members) ≡ None → names text (policy_of members nested) ≡ is_name text (table members)
unfolding policy_table_fault policy_of
same_name (string text) members nested e =
    let name : Option ConfigFault = required text_fault (get_member (codes "name") members) in
    let kind : Option ConfigFault = required type_fault (get_member (codes "type") members) in
    let o = neither (least name kind) (typed_fault_where (type_at members) members (parts_fault (join_at members) members)) e in
    named_so text (get_member (codes "name") members) (neither name kind o.0).0
same_name _ members nested e = refl

-- the policy that a text names is that of the table that it names
first_is : (text : Data) (items : Items) → Sound items → first_named text (item_policies items) ≡ option_and_then policy_value (first_item text items)
first_is text no_items e = refl
first_is text (item value rest) e = of value (neither (policy_fault value) (policy_items_fault rest) e).0 (first_is text rest (neither (policy_fault value) (policy_items_fault rest) e).1)
  where
    either : (named : Bool) (members : Members) (policy : Policy) → policy_value (table members) ≡ Some policy → first_named text (item_policies rest) ≡ option_and_then policy_value (first_item text rest)
        → (if named then Some policy else first_named text (item_policies rest)) ≡ option_and_then policy_value (if named then Some (table members) else first_item text rest)
    either true members policy same later = sym same
    either false members policy same later = later

    of : (value : Data) → policy_fault value ≡ None → first_named text (item_policies rest) ≡ option_and_then policy_value (first_item text rest)
        → first_named text (found_before (policy_value value) (item_policies rest)) ≡ option_and_then policy_value (first_item text (item value rest))
    of (table members) f later =
        ap (λ (named : Bool). if named then policy_value (table members) else first_named text (item_policies rest)) (same_name text members (parts_policies (join_at members) members) f)
        ∙ either (is_name text (table members)) members (policy_of members (parts_policies (join_at members) members)) refl later
    of _ f later = absurd (cc f)

-- ---- what an order names

each_is : (order items : Items) → Sound items → each_named order (item_policies items) ≡ item_policies (each_item order items)
each_is no_items items e = refl
each_is (item text order) items e =
    ap (λ (found : Option Policy). found_before found (each_named order (item_policies items))) (first_is text items e)
    ∙ ap (λ (ps : List Policy). found_before (option_and_then policy_value (first_item text items)) ps) (each_is order items e)
    ∙ of (first_item text items)
  where
    of : (found : Option Data) → found_before (option_and_then policy_value found) (item_policies (each_item order items)) ≡ item_policies (item_before found (each_item order items))
    of None = refl
    of (Some value) = refl

-- the policies in their order are those of the tables in that order
pub ordered_are : (at : Option Data) (items : Items) → Sound items → ordered at (item_policies items) ≡ item_policies (ordered_items at items)
ordered_are (Some (array order)) items e = each_is order items e
ordered_are None items e = refl
ordered_are (Some _) items e = refl

first_sound : (text : Data) (items rest : Items) → Sound items → Sound rest → Sound (item_before (first_item text items) rest)
first_sound text no_items rest e s = s
first_sound text (item value others) rest e s =
    let n = neither (policy_fault value) (policy_items_fault others) e in
    either (is_name text value) n.0 (first_sound text others rest n.1 s)
  where
    either : (named : Bool) → policy_fault value ≡ None → Sound (item_before (first_item text others) rest) → Sound (item_before (if named then Some value else first_item text others) rest)
    either true f later = ap (λ (fault : Option ConfigFault). least fault (policy_items_fault rest)) f ∙ s
    either false f later = later

each_sound : (order items : Items) → Sound items → Sound (each_item order items)
each_sound no_items items e = refl
each_sound (item text order) items e = first_sound text items (each_item order items) e (each_sound order items e)

-- none of them has a fault
pub ordered_sound : (at : Option Data) (items : Items) → Sound items → Sound (ordered_items at items)
ordered_sound (Some (array order)) items e = each_sound order items e
ordered_sound None items e = e
ordered_sound (Some _) items e = e

-- ---- how many an order names

both : (a b : Bool) → (a && b) ≡ true → (a ≡ true) × (b ≡ true)
both true b e = (refl, e)
both false b e = absurd (cc e)

one_more : (text : Data) (items rest : Items) → is_part text items ≡ true → count_items (item_before (first_item text items) rest) ≡ 1 + count_items rest
one_more text no_items rest e = absurd (cc e)
one_more text (item value others) rest e = either (is_name text value) e (λ f. one_more text others rest f)
  where
    either : (named : Bool) → (named || is_part text others) ≡ true → (is_part text others ≡ true → count_items (item_before (first_item text others) rest) ≡ 1 + count_items rest)
        → count_items (item_before (if named then Some value else first_item text others) rest) ≡ 1 + count_items rest
    either true f later = refl
    either false f later = later f

one_each : (order items : Items) → are_parts order items ≡ true → count_items (each_item order items) ≡ count_items order
one_each no_items items e = refl
one_each (item text order) items e =
    let b = both (is_part text items) (are_parts order items) e in
    one_more text items (each_item order items) b.0 ∙ ap (λ (n : ℕ). 1 + n) (one_each order items b.1)

same_count : (m n : ℕ) → (m == n) ≡ true → m ≡ n
same_count m n e = grind (arith, nat_tests)

counted : (at : Option Data) (items : Items) → is_ordered at (Some (array items)) ≡ true → count_items (ordered_items at items) ≡ count_items items
counted (Some (array order)) items e =
    let b = both (count_items order == count_items items) (are_parts order items && are_named order items) e in
    one_each order items (both (are_parts order items) (are_named order items) b.1).0 ∙ same_count (count_items order) (count_items items) b.0
counted None items e = refl
counted (Some _) items e = refl

-- as many are asked as there are
pub ordered_as_many : (at : Option Data) (items : Items) → Sound items → is_ordered at (Some (array items)) ≡ true → length (ordered at (item_policies items)) ≡ length (item_policies items)
ordered_as_many at items e o =
    ap length (ordered_are at items e) ∙ as_many (ordered_items at items) (ordered_sound at items e) ∙ counted at items o ∙ sym (as_many items e)
