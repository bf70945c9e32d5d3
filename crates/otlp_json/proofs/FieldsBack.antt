-- The fields of a message that is written read as what they were written for: numbers, texts, messages, lists,
-- attributes. For the clauses `back` of what is written.
use Rattle.std.proofs.Common.{◌≡◌, ℕ, ◌+◌, ◌-◌, ◌<◌, ◌≤◌, ◌^◌, List, [], ◌∷◌, map, codes, Bool, true, false, Option, Some, None, ℤ, pos, negsuc, refl, ap, ◌∙◌, arith}
use Rattle.std.specs.Prelude.{FitsSigned, min, ◌==◌, cond}
use Rattle.std.specs.Int.{w32}
use Rattle.std.specs.List.{AllByRecursion}
use Rattle.std.proofs.lemmas.List.{map-id}
use Rattle.serde_json.specs.Data.{Data, number, unsigned, object, Members, no_members, member, depth}
use Rattle.serde_json.specs.Find.{of_integer}
use Rattle.serde_json.specs.View.{items_of}
use Rattle.otlp_json.specs.Canonical.{MembersCanonical}
use Rattle.serde_json.proofs.Numbers.{number_of-decimal, number_of-negative}
use Rattle.otlp_types.specs.declared.value.KeyValue.{KeyValue}
use Rattle.otlp_reading.specs.Kinds.{field, u32, list_of, message, inner}
use Rattle.otlp_reading.specs.Reading.{discarded, key_value}
use Rattle.otlp_json.specs.Kept.{any_value, attributes}
use Rattle.otlp_json.specs.Writing.{Table, fields, u32_field, u64_field, enum_field, message_field, list_field, attributes_field, pair_fields}
use Rattle.otlp_json.specs.ReadsBack.{PairReadsBack, ReadsBack}
use Rattle.otlp_json.proofs.NumbersBack.{u32-back}
use Rattle.otlp_json.proofs.Table.{found, IsField, IsTable, field-fields, found-depth}
use Rattle.otlp_json.proofs.ValuesBack.{message_field-present, message-within, items_field-present, objects-canonical, AllRead, Within, list-back, kept-all, none-discarded, pair_again}

-- ---- fields

if_present : (b : Bool) (d : Data) → IsField (Some d) → IsField (cond b None (Some d))
if_present true d h = (refl, tt)
if_present false d h = h

pub u32_field-present : (n : ℕ) → n < 2 ^ 32 → IsField (u32_field n)
u32_field-present n h = if_present (n == 0) (number (unsigned n)) (refl, number_of-decimal n (omega (arith, h)))

pub u64_field-present : (n : ℕ) → IsField (u64_field n)
u64_field-present n = if_present (n == 0) _ (refl, tt)

pub enum_field-present : (z : ℤ) → FitsSigned w32 z → IsField (enum_field z)
enum_field-present (pos n) h = if_present (n == 0) (number (of_integer (pos n))) (refl, number_of-decimal n (omega (arith, h.sfits)))
enum_field-present (negsuc n) h = (refl, number_of-negative n (omega (arith, h.sfits)))

-- what the table has under a name is read as x
pub at : {B : Type 0} (read : Option Data → Option B) (q : List ℕ) (fs : Table) (o : Option Data) (x : B) → IsTable fs → found q fs ≡ o → read o ≡ Some x → read (field q (fields fs)) ≡ Some x
at read q fs o x table is back = ap read (field-fields q fs table ∙ is) ∙ back

within_at : (q : List ℕ) (fs : Table) (o : Option Data) (n : ℕ) → IsTable fs → depth (object (fields fs)) ≤ n → found q fs ≡ o → Within o n
within_at q fs o n table h is d e = found-depth q fs d n table h (is ∙ e)

-- ---- messages in fields

inner_held : {A : Type 0} (meaning : Members → Option A) (ms : Members) (x : A) → meaning ms ≡ Some x → inner meaning (message_field ms) ≡ Some x
inner_held meaning no_members x h = h
inner_held meaning (member k d ms) x h = h

pub inner-at : {A : Type 0} (meaning : Members → Option A) (f : A → Members) (x : A) (q : List ℕ) (fs : Table) → ReadsBack f meaning x → IsTable fs → depth (object (fields fs)) ≤ 127
    → found q fs ≡ message_field (f x) → inner meaning (field q (fields fs)) ≡ Some x
inner-at meaning f x q fs back table h is =
    let within = message-within (f x) 127 (omega arith) (within_at q fs (message_field (f x)) 127 table h is) in
    at (inner meaning) q fs (message_field (f x)) x table is (inner_held meaning (f x) x (back.again within))

pub inner-present : {A : Type 0} (meaning : Members → Option A) (f : A → Members) (x : A) → ReadsBack f meaning x → IsField (message_field (f x))
inner-present meaning f x back = message_field-present (f x) back.canonical

-- ---- lists of messages

all_again : {A : Type 0} (meaning : Members → Option A) (f : A → Members) (xs : List A) → AllByRecursion (ReadsBack f meaning) xs → AllRead 127 (message meaning) f (λ x. x) xs
all_again meaning f [] h = tt
all_again meaning f (x ∷ xs) h = (h.0.again, all_again meaning f xs h.1)

all_canonical : {A : Type 0} (meaning : Members → Option A) (f : A → Members) (xs : List A) → AllByRecursion (ReadsBack f meaning) xs → AllByRecursion (λ x. MembersCanonical (f x)) xs
all_canonical meaning f [] h = tt
all_canonical meaning f (x ∷ xs) h = (h.0.canonical, all_canonical meaning f xs h.1)

pub list-present : {A : Type 0} (meaning : Members → Option A) (f : A → Members) (xs : List A) → AllByRecursion (ReadsBack f meaning) xs → IsField (list_field (map f xs))
list-present meaning f xs back = items_field-present (items_of (map object (map f xs))) (objects-canonical f xs (all_canonical meaning f xs back))

pub list-at : {A : Type 0} (meaning : Members → Option A) (f : A → Members) (xs : List A) (q : List ℕ) (fs : Table) → AllByRecursion (ReadsBack f meaning) xs → IsTable fs → depth (object (fields fs)) ≤ 127
    → found q fs ≡ list_field (map f xs) → list_of (message meaning) (field q (fields fs)) ≡ Some xs
list-at meaning f xs q fs back table h is =
    at (list_of (message meaning)) q fs (list_field (map f xs)) xs table is
    (list-back 127 (message meaning) f (λ x. x) xs (all_again meaning f xs back) (within_at q fs (list_field (map f xs)) 127 table h is) ∙ ap Some (map-id xs))

-- ---- attributes

small : (n k : ℕ) → n < 2 ^ 32 → k ≡ 0 → min (n + k) (2 ^ 32 - 1) ≡ n
small n k h e = omega arith

attributes_of : (ms : Members) (ps : List KeyValue) (n : ℕ) → n < 2 ^ 32 → list_of (message (key_value any_value)) (field (codes "attributes") ms) ≡ Some (map Some ps)
    → u32 (field (codes "droppedAttributesCount") ms) ≡ Some n → attributes ms ≡ Some (ps, n)
attributes_of ms ps n h all dropped = rw (all, dropped, kept-all ps, small n (discarded (map Some ps)) h (none-discarded ps))

pub attributes-at : (ps : List KeyValue) (n : ℕ) (fs : Table) → AllByRecursion PairReadsBack ps → n < 2 ^ 32 → IsTable fs → depth (object (fields fs)) ≤ 127
    → found (codes "attributes") fs ≡ attributes_field ps → found (codes "droppedAttributesCount") fs ≡ u32_field n → attributes (fields fs) ≡ Some (ps, n)
attributes-at ps n fs back small table h is count =
    attributes_of (fields fs) ps n small
    (at (list_of (message (key_value any_value))) (codes "attributes") fs (attributes_field ps) (map Some ps) table is
    (list-back 127 (message (key_value any_value)) pair_fields Some ps (pair_again 127 ps back) (within_at (codes "attributes") fs (attributes_field ps) 127 table h is)))
    (at u32 (codes "droppedAttributesCount") fs (u32_field n) n table count (u32-back n small))
