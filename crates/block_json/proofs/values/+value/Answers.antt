use Rattle.std.proofs.Common.{[], ◌∷◌, Option, ◌≡◌, ◌<◌, ◌^◌, ℕ, suc, Bool, List, length, map, Some, Ok, codes, refl, sym, ap, ◌∙◌, subst, arith, lit<, inl, inr, ◌==◌}
use Rattle.json.specs.Token.{Token}
use Rattle.serde_json.specs.Data.{Members, boolean, string, object}
use Rattle.protobuf_wire.specs.Wire.{fields_of}
use Rattle.protobuf_wire.specs.Seen.{seen_field, Steps}
use Rattle.protobuf_wire.specs.declared.field.WireField.{WireField}
use Rattle.otlp_types.specs.declared.value.AnyValue.{Empty}
use Rattle.otlp_protobuf_encode.specs.Writing as wire
use Rattle.otlp_json.specs.Tokens.{field_tokens, value_tokens}
use Rattle.otlp_json.specs.Writing.{fields, text_field, message_field, list_field, double_data, value_fields, pair_fields}
use Rattle.otlp_json.proofs.ValuesBack.{pair_table, fields-pair, fields-Empty}
use Rattle.base64.specs.Engines.{standard}
use Rattle.base64.specs.GeneralPurpose.{encode_of}
use Rattle.std.specs.Float.{Float}
use Rattle.span_block.specs.Walk.{bytes_in}
use Rattle.message_cursor.proofs.Lefts.{all_left, next}
use Rattle.span_block.specs.Typed.{ValueIsTyped, PairIsTyped}
use Rattle.span_block.proofs.PairsLeft.{key_found}
use Rattle.block_json.specs.Messages.{AreIn}
use Rattle.block_json.proofs.Adding.{absent, member, object-added, field-added, one-added}
use Rattle.block_json.proofs.Found.{pair_read, pair_value}
use Rattle.block_json.proofs.Lists.{first-told, next-told, all-told, none-told}
use Rattle.block_json.proofs.Layers.{text_value, truth_value, int_value, double_value, array_value, pairs_value, bytes_value, no_value, some_value, none_value, value_read, no_level, level_below, no_bytes, is_some, first_is, none_first, no_fault}
use Rattle.block_json.proofs.values.+value.Goals as goal

pub pairs-returns-in_default : goal.pairs-returns-in_default
pairs-returns-in_default g t c = none-told g.met.S.TokenSink.composes wire.pair_fields (PairIsTyped c.args.levels) pair_fields c.args.name.now c.args.number c.args.message.now c.of-items.result.rest.now c.message.new.self.rest.now c.args.out.now c.of-items.ensures c.in_default.ensures.next

pub pairs-items-init : goal.pairs-items-init
pairs-items-init g t c = first-told g.met.S.TokenSink.composes wire.pair_fields (PairIsTyped c.args.levels) pair_fields c.args.name.now c.args.number c.args.message.now c.of-items.result.rest.now c.message.new.self.rest.now c.in-Some.first c.args.out.now c.key.new.self c.begin_array.new.self c.pair.new.out c.of-items.ensures c.in-Some.ensures.next c.key.ensures c.begin_array.ensures c.pair.ensures

pub pairs-items-preserved : goal.pairs-items-preserved
pairs-items-preserved g t c = next-told g.met.S.TokenSink.composes wire.pair_fields (PairIsTyped c.args.levels) pair_fields c.args.name.now c.args.number c.args.message.now c.items.items.rest.now c.message-in-items.new.self.rest.now c.in-Some-message.item c.args.out.now c.items.out c.pair-in-Some-message.new.out c.items.invariant c.in-Some-message.ensures.next c.pair-in-Some-message.ensures

pub pairs-returns : goal.pairs-returns
pairs-returns g t c = all-told g.met.S.TokenSink.composes wire.pair_fields (PairIsTyped c.args.levels) pair_fields c.args.name.now c.args.number c.args.message.now c.items.items.rest.now c.message-in-items.new.self.rest.now c.args.out.now c.items.out c.end_array.new.self c.items.invariant c.in_default-message.ensures.next c.end_array.ensures

pub values-returns-in_default : goal.values-returns-in_default
values-returns-in_default g t c = none-told g.met.S.TokenSink.composes wire.value_fields (ValueIsTyped c.args.levels) value_fields (codes "values") 1 c.args.message.now c.of-items.result.rest.now c.message.new.self.rest.now c.args.out.now c.of-items.ensures c.in_default.ensures.next

pub values-items-init : goal.values-items-init
values-items-init g t c = first-told g.met.S.TokenSink.composes wire.value_fields (ValueIsTyped c.args.levels) value_fields (codes "values") 1 c.args.message.now c.of-items.result.rest.now c.message.new.self.rest.now c.in-Some.first c.args.out.now c.key.new.self c.begin_array.new.self c.value.new.out c.of-items.ensures c.in-Some.ensures.next c.key.ensures c.begin_array.ensures c.value.ensures

pub values-items-preserved : goal.values-items-preserved
values-items-preserved g t c = next-told g.met.S.TokenSink.composes wire.value_fields (ValueIsTyped c.args.levels) value_fields (codes "values") 1 c.args.message.now c.items.items.rest.now c.message-in-items.new.self.rest.now c.in-Some-message.item c.args.out.now c.items.out c.value-in-Some-message.new.out c.items.invariant c.in-Some-message.ensures.next c.value-in-Some-message.ensures

pub values-returns : goal.values-returns
values-returns g t c = all-told g.met.S.TokenSink.composes wire.value_fields (ValueIsTyped c.args.levels) value_fields (codes "values") 1 c.args.message.now c.items.items.rest.now c.message-in-items.new.self.rest.now c.args.out.now c.items.out c.end_array.new.self c.items.invariant c.in_default-message.ensures.next c.end_array.ensures

pub array-returns : goal.array-returns
array-returns g t c vs are =
    let o = list_field (map value_fields vs) in
    let inner = field-added g.met.S.TokenSink.composes (codes "values") o c.key.new.self c.begin_object-2.new.self c.values.new.out c.end_object.new.self c.begin_object-2.ensures (c.values.ensures vs are) c.end_object.ensures in
    one-added g.met.S.TokenSink.composes (codes "arrayValue") (object (fields ((codes "values", o) ∷ []))) c.args.out.now c.begin_object.new.self c.key.new.self c.end_object.new.self c.end_object-2.new.self c.begin_object.ensures c.key.ensures inner c.end_object-2.ensures

pub list_of_pairs-returns : goal.list_of_pairs-returns
list_of_pairs-returns g t c ps are =
    let o = list_field (map pair_fields ps) in
    let inner = field-added g.met.S.TokenSink.composes (codes "values") o c.key.new.self c.begin_object-2.new.self c.pairs.new.out c.end_object.new.self c.begin_object-2.ensures (c.pairs.ensures ps are) c.end_object.ensures in
    one-added g.met.S.TokenSink.composes (codes "kvlistValue") (object (fields ((codes "values", o) ∷ []))) c.args.out.now c.begin_object.new.self c.key.new.self c.end_object.new.self c.end_object-2.new.self c.begin_object.ensures c.key.ensures inner c.end_object-2.ensures

pub pair-returns : goal.pair-returns
pair-returns g t c p is =
    let h = g.met.S.TokenSink.composes in
    let fs = wire.pair_fields p in
    let room : length c.args.message.now < 2 ^ 64 = omega arith in
    let read : fields_of c.args.message.now ≡ Ok (wire.pair_fields p) = pair_read p c.args.message.now is.written room in
    let all = all_left fs c.of-cursor.result.rest.now (ap fields_of c.of-cursor.ensures ∙ read) in
    let first = next bytes_in 0 1 fs _ _ _ all (lit< tt) c.bytes-key.ensures.asked in
    let name = first.0 ∙ key_found p in
    let held = (next bytes_in 1 2 fs _ _ _ first.1 (lit< tt) c.bytes-held.ensures.asked).0 ∙ pair_value p in
    let K : List ℕ → Type 0 = λ s. g.S.TokenSink.adds c.begin_object.new.self c.text.new.out (field_tokens (codes "key") (text_field s)) in
    let Q : Members → Type 0 = λ ms. g.S.TokenSink.adds c.args.out.now c.end_object.new.self (value_tokens (object ms)) in
    subst Q (sym (fields-pair p)) (object-added h c.args.out.now c.end_object.new.self (pair_table p) refl
    (h.then _ _ _ _ _ c.begin_object.ensures (h.then _ _ _ _ _ (subst K name c.text.ensures) (h.then _ _ _ _ _ (c.set_value.ensures p.value (record { written = held; holds = is.holds.1 })) c.end_object.ensures))))

pub set_value-returns-then-is_empty : goal.set_value-returns-then-is_empty
set_value-returns-then-is_empty g t c v is =
    let none = no_bytes (wire.value_fields v) (ap (λ (s : List ℕ). length s == 0) (sym is.written) ∙ sym c.is_empty.ensures ∙ c.if-is_empty.true) in
    absent g.met.S.TokenSink.composes (codes "value") (message_field (value_fields v)) c.args.out.now (none_value v (no_value v none))

pub set_value-returns : goal.set_value-returns
set_value-returns g t c v is =
    let some : v ≡ Empty → ⊥ = is_some v c.args.message.now is.written (sym c.is_empty.ensures ∙ c.if-is_empty.false) in
    let typed : ValueIsTyped c.args.levels v = elim is.holds as (λ _. ValueIsTyped c.args.levels v) [ inl e ↦ absurd (some e) | inr k ↦ k ] in
    member g.met.S.TokenSink.composes (codes "value") (message_field (value_fields v)) (object (value_fields v)) c.args.out.now c.key.new.self c.value.new.out (some_value v some) c.key.ensures (c.value.ensures v (record { written = is.written; holds = typed }))

pub value-returns-in_default : goal.value-returns-in_default
value-returns-in_default g t c v is = absurd (no_level c.args.levels v c.in_default.ensures is.holds)

pub value-returns-in_default-next : goal.value-returns-in_default-next
value-returns-in_default-next g t c v is =
    let room : length c.args.message.now < 2 ^ 64 = omega arith in
    let typed : ValueIsTyped (suc c.in-Some.below) v = level_below c.args.levels c.in-Some.below v c.in-Some.ensures is.holds in
    let read : fields_of c.of-fields.result ≡ Ok (wire.value_fields v) = ap fields_of c.of-fields.ensures ∙ value_read v c.in-Some.below c.args.message.now typed is.written room in
    absurd (no_fault c.of-fields.result c.next.new.self c.in_default-next.field-0 (wire.value_fields v) c.in_default-next.ensures.all read)

pub value-returns-in-Some-found : goal.value-returns-in-Some-found
value-returns-in-Some-found g t c v is =
    let room : length c.args.message.now < 2 ^ 64 = omega arith in
    let typed : ValueIsTyped (suc c.in-Some.below) v = level_below c.args.levels c.in-Some.below v c.in-Some.ensures is.holds in
    let read : fields_of c.of-fields.result ≡ Ok (wire.value_fields v) = ap fields_of c.of-fields.ensures ∙ value_read v c.in-Some.below c.args.message.now typed is.written room in
    let S : Option WireField → Type 0 = λ o. Steps c.of-fields.result c.next.new.self (Ok o) in
    let k = first_is c.of-fields.result c.next.new.self c.in-Some-found.field (wire.value_fields v) (subst S c.in-Some-found.is c.in-Ok.ensures.all) read in
    c.value_of.ensures v k.0 typed k.1

pub value-returns-in-None : goal.value-returns-in-None
value-returns-in-None g t c v is =
    let room : length c.args.message.now < 2 ^ 64 = omega arith in
    let typed : ValueIsTyped (suc c.in-Some.below) v = level_below c.args.levels c.in-Some.below v c.in-Some.ensures is.holds in
    let read : fields_of c.of-fields.result ≡ Ok (wire.value_fields v) = ap fields_of c.of-fields.ensures ∙ value_read v c.in-Some.below c.args.message.now typed is.written room in
    let S : Option WireField → Type 0 = λ o. Steps c.of-fields.result c.next.new.self (Ok o) in
    let none : v ≡ Empty = no_value v (none_first c.of-fields.result c.next.new.self (wire.value_fields v) (subst S c.in-None.is c.in-Ok.ensures.all) read) in
    let Q : Members → Type 0 = λ ms. g.S.TokenSink.adds c.args.out.now c.object_of_none.new.out (value_tokens (object ms)) in
    subst Q (sym (ap value_fields none ∙ fields-Empty)) c.object_of_none.ensures

pub value_of-returns-in-1 : goal.value_of-returns-in-1
value_of-returns-in-1 g t c v fs typed e =
    let P : List Token → Type 0 = λ ts. g.S.TokenSink.adds c.args.out.now c.object_of_text.new.out ts in
    let R : List ℕ → Type 0 = λ s. P (value_tokens (object (fields ((codes "stringValue", Some (string s)) ∷ [])))) in
    text_value P v c.args.levels (seen_field c.args.field) fs typed e c.in-1.is (subst R c.bytes_of-bytes.ensures.bytes c.object_of_text.ensures)

pub value_of-returns-in-2 : goal.value_of-returns-in-2
value_of-returns-in-2 g t c v fs typed e =
    let P : List Token → Type 0 = λ ts. g.S.TokenSink.adds c.args.out.now c.object_of_bool.new.out ts in
    let R : Bool → Type 0 = λ b. P (value_tokens (object (fields ((codes "boolValue", Some (boolean b)) ∷ [])))) in
    truth_value P v c.args.levels (seen_field c.args.field) fs typed e c.in-2.is (subst R c.truth_of.ensures c.object_of_bool.ensures)

pub value_of-returns-in-3 : goal.value_of-returns-in-3
value_of-returns-in-3 g t c v fs typed e =
    let P : List Token → Type 0 = λ ts. g.S.TokenSink.adds c.args.out.now c.object_of_integer.new.out ts in
    int_value P v c.args.levels (seen_field c.args.field) fs typed e c.in-3.is c.integer_of.result c.integer_of.ensures c.object_of_integer.ensures

pub value_of-returns-in-4 : goal.value_of-returns-in-4
value_of-returns-in-4 g t c v fs typed e =
    let P : List Token → Type 0 = λ ts. g.S.TokenSink.adds c.args.out.now c.object_of_double.new.out ts in
    let R : Float → Type 0 = λ x. P (value_tokens (object (fields ((codes "doubleValue", Some (double_data x)) ∷ [])))) in
    double_value P v c.args.levels (seen_field c.args.field) fs typed e c.in-4.is (subst R c.double_of.ensures c.object_of_double.ensures)

pub value_of-returns-in-5 : goal.value_of-returns-in-5
value_of-returns-in-5 g t c v fs typed e =
    let P : List Token → Type 0 = λ ts. g.S.TokenSink.adds c.args.out.now c.array.new.out ts in
    let L : List ℕ → Type 0 = λ m. length m < 2 ^ 64 in
    let room : length (bytes_in (Some (seen_field c.args.field).value)) < 2 ^ 64 = subst L c.bytes_of-bytes.ensures.bytes c.bytes_of-bytes.ensures.room in
    array_value P v c.args.levels (seen_field c.args.field) fs typed e c.in-5.is room
    (λ vs are. let R : List ℕ → Type 0 = λ m. AreIn wire.value_fields (ValueIsTyped c.args.levels) 1 m vs in c.array.ensures vs (subst R (sym c.bytes_of-bytes.ensures.bytes) are))

pub value_of-returns-in-6 : goal.value_of-returns-in-6
value_of-returns-in-6 g t c v fs typed e =
    let P : List Token → Type 0 = λ ts. g.S.TokenSink.adds c.args.out.now c.list_of_pairs.new.out ts in
    let L : List ℕ → Type 0 = λ m. length m < 2 ^ 64 in
    let room : length (bytes_in (Some (seen_field c.args.field).value)) < 2 ^ 64 = subst L c.bytes_of-bytes.ensures.bytes c.bytes_of-bytes.ensures.room in
    pairs_value P v c.args.levels (seen_field c.args.field) fs typed e c.in-6.is room
    (λ ps are. let R : List ℕ → Type 0 = λ m. AreIn wire.pair_fields (PairIsTyped c.args.levels) 1 m ps in c.list_of_pairs.ensures ps (subst R (sym c.bytes_of-bytes.ensures.bytes) are))

pub value_of-returns-in_default : goal.value_of-returns-in_default
value_of-returns-in_default g t c v fs typed e =
    let P : List Token → Type 0 = λ ts. g.S.TokenSink.adds c.args.out.now c.object_of_bytes.new.out ts in
    let R : List ℕ → Type 0 = λ s. P (value_tokens (object (fields ((codes "bytesValue", Some (string (encode_of standard s))) ∷ [])))) in
    bytes_value P v c.args.levels (seen_field c.args.field) fs typed e
    (λ (q : c.args.field.number ≡ 1). omega arith)
    (λ (q : c.args.field.number ≡ 2). omega arith)
    (λ (q : c.args.field.number ≡ 3). omega arith)
    (λ (q : c.args.field.number ≡ 4). omega arith)
    (λ (q : c.args.field.number ≡ 5). omega arith)
    (λ (q : c.args.field.number ≡ 6). omega arith)
    (subst R c.bytes_of-bytes.ensures.bytes c.object_of_bytes.ensures)
