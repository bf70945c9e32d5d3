-- What is built of the fields of a span.
-- For the contract of `build`.
use Rattle.std.proofs.Common.{◌≡◌, ℕ, Bool, ◌+◌, ◌-◌, ◌^◌, min, List, Option, Some, None, option_map, option_and_then, codes, refl, sym, ap, ◌∙◌}
use Rattle.serde_json.specs.Data.{Members}
use Rattle.span_ids.specs.Id.{id_of}
use Rattle.otlp_types.specs.declared.span.Ids.{Ids}
use Rattle.otlp_types.specs.declared.value.KeyValue.{KeyValue}
use Rattle.otlp_types.specs.declared.request.Resource.{Resource}
use Rattle.otlp_stream.specs.declared.values.KeptItems.{KeptItems}
use Rattle.otlp_reading.specs.Kinds.{field, text, u32, list_of, message}
use Rattle.otlp_reading.specs.Reading.{OrDiscarded, kept, discarded, any_value, key_value, attributes, resource, parent_of, valid_ids, ids}
use Rattle.otlp_stream.specs.SoFar.{kept_attributes, trace_field, id_field, parent_field}

abbrev unsome : {A : Type 0} → A → Option A → A
unsome d None = d
unsome d (Some a) = a

mapped : {A B : Type 0} (f : A → B) (o : Option A) (b : B) → option_map f o ≡ Some b → (a : A) × (o ≡ Some a) × (f a ≡ b)
mapped f None b e = absurd (cc)
mapped f (Some a) b e = (a, refl, ap (λ o. unsome b o) e)

abbrev texts : Option (List ℕ) → Option (List ℕ) → Option (List ℕ) → Option (Option Ids)
texts t s p = option_and_then (λ x. option_and_then (λ y. option_and_then (λ z. Some (valid_ids x y z)) p) s) t

abbrev pub all_valid : Option (List ℕ) → Option (List ℕ) → Option (Option (List ℕ)) → Option Ids
all_valid t s p = option_and_then (λ x. option_and_then (λ y. option_and_then (λ z. Some (record { trace = x; span = y; parent = z })) p) s) t

pub ids_built : (ms : Members) (tr : Option (List ℕ)) (id : Option (List ℕ)) (pa : Option (Option (List ℕ))) (r : Option Ids)
    → trace_field (field (codes "traceId") ms) ≡ Some tr → id_field (field (codes "spanId") ms) ≡ Some id → parent_field (field (codes "parentSpanId") ms) ≡ Some pa → r ≡ all_valid tr id pa → ids ms ≡ Some r
ids_built ms tr id pa r e0 e1 e2 is =
    let a = mapped (id_of 16) (text (field (codes "traceId") ms)) tr e0 in
    let b = mapped (id_of 8) (text (field (codes "spanId") ms)) id e1 in
    let c = mapped parent_of (text (field (codes "parentSpanId") ms)) pa e2 in
    ap (λ t. texts t (text (field (codes "spanId") ms)) (text (field (codes "parentSpanId") ms))) a.1
    ∙ ap (λ t. texts (Some a.0) t (text (field (codes "parentSpanId") ms))) b.1
    ∙ ap (λ t. texts (Some a.0) (Some b.0) t) c.1
    ∙ ap (λ u. Some (all_valid u (id_of 8 b.0) (parent_of c.0))) a.2 ∙ ap (λ u. Some (all_valid tr u (parent_of c.0))) b.2 ∙ ap (λ u. Some (all_valid tr id u)) c.2 ∙ ap Some (sym is)

abbrev counted_with : Option (List (OrDiscarded KeyValue)) → Option ℕ → Option (List KeyValue × ℕ)
counted_with all d = option_and_then (λ a. option_and_then (λ n. Some (kept a, min (n + discarded a) (2 ^ 32 - 1))) d) all

pub attributes_built : (keeps_doubles : Bool) (ms : Members) (k : KeptItems KeyValue) (n r : ℕ) → kept_attributes keeps_doubles (field (codes "attributes") ms) ≡ Some k → u32 (field (codes "droppedAttributesCount") ms) ≡ Some n
    → r ≡ min (n + k.discarded) (2 ^ 32 - 1) → attributes keeps_doubles ms ≡ Some (k.kept, r)
attributes_built keeps_doubles ms k n r e0 e1 is =
    let read = message (key_value (any_value keeps_doubles)) in
    let all = list_of read (field (codes "attributes") ms) in
    let b = mapped (λ xs. record { kept = kept xs; discarded = discarded xs }) all k e0 in
    ap (λ all. counted_with all (u32 (field (codes "droppedAttributesCount") ms))) b.1
    ∙ ap (counted_with (Some b.0)) e1
    ∙ ap (λ x. Some (x.kept, min (n + x.discarded) (2 ^ 32 - 1))) b.2 ∙ ap (λ x. Some (k.kept, x)) (sym is)

-- a resource has nothing but its attributes
pub attributes_of : (keeps_doubles : Bool) (ms : Members) (r : Resource) → resource keeps_doubles ms ≡ Some r → attributes keeps_doubles ms ≡ Some (r.attributes, r.dropped_attributes_count)
attributes_of keeps_doubles ms r e =
    let a = mapped (λ p. record { attributes = p.0; dropped_attributes_count = p.1 }) (attributes keeps_doubles ms) r e in
    a.1 ∙ ap (λ x. Some (x.attributes, x.dropped_attributes_count)) a.2
