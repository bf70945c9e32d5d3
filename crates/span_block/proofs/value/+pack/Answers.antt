use Rattle.std.proofs.lemmas.Result.{err_from_is_err_and}
use Rattle.protobuf_writer.specs.Defaults.{text_field, message_field}
use Rattle.protobuf_writer.proofs.Adding.{nothing, then}
use Rattle.otlp_protobuf_encode.specs.Writing.{value_fields}
use Rattle.otlp_protobuf_encode.proofs.Values.{fields-Empty, fields-pair}
use Rattle.span_block.specs.Fits.{ValueFits, PairFits}
use Rattle.otlp_types.specs.declared.value.AnyValue.{Array, KvList, Bytes}
use Rattle.std.specs.List.{AllByRecursion}
use Rattle.otlp_protobuf_encode.specs.Faults.{base64_fault}
use Rattle.std.proofs.Common.{◌≡◌, None}
use Rattle.span_block.proofs.Lists.{refuses_by}
use Rattle.span_block.proofs.Values.{typed_at, empty_typed, str_typed, truth_typed, int_typed, double_typed, array_typed, kv_list_typed, bytes_typed, at_level, from_level, at_no_level, empty_fits, str_fits, truth_fits, int_fits, double_fits, array_fits, kv_list_fits, bytes_fits, array_below, kv_list_below, bytes_below, empty_holds, str_holds, truth_holds, int_holds, double_holds, array_holds, kv_list_holds, bytes_holds, pair_holds}
use Rattle.span_block.proofs.value.+pack.Goals as goal

pub AnyValuePacked::pack-returns-in_default-clause-refused : goal.AnyValuePacked::pack-returns-in_default-clause-refused
AnyValuePacked::pack-returns-in_default-clause-refused t c = at_no_level c.args.levels c.args.self.now c.in_default.ensures

pub AnyValuePacked::pack-returns-in_err-list_message-in-Array-clause-refused : goal.AnyValuePacked::pack-returns-in_err-list_message-in-Array-clause-refused
AnyValuePacked::pack-returns-in_err-list_message-in-Array-clause-refused t c =
    let p = err_from_is_err_and c.from_residual-in_err-list_message-in-Array.result c.from_residual-in_err-list_message-in-Array.ensures.1 in
    rw (p.1, p.2, c.in-Array.is) (refuses_by (AllByRecursion (ValueFits c.in-Some.below) c.in-Array.values) (ValueFits c.args.levels (Array c.in-Array.values)) c.in_err-list_message-in-Array.field-0.0 (λ f. array_below c.in-Some.below c.in-Array.values (from_level c.args.levels c.in-Some.below (Array c.in-Array.values) c.in-Some.ensures f)) c.in_err-list_message-in-Array.ensures.refused)

pub AnyValuePacked::pack-returns-in_err-list_message-in-KvList-clause-refused : goal.AnyValuePacked::pack-returns-in_err-list_message-in-KvList-clause-refused
AnyValuePacked::pack-returns-in_err-list_message-in-KvList-clause-refused t c =
    let p = err_from_is_err_and c.from_residual-in_err-list_message-in-KvList.result c.from_residual-in_err-list_message-in-KvList.ensures.1 in
    rw (p.1, p.2, c.in-KvList.is) (refuses_by (AllByRecursion (PairFits c.in-Some.below) c.in-KvList.pairs) (ValueFits c.args.levels (KvList c.in-KvList.pairs)) c.in_err-list_message-in-KvList.field-0.0 (λ f. kv_list_below c.in-Some.below c.in-KvList.pairs (from_level c.args.levels c.in-Some.below (KvList c.in-KvList.pairs) c.in-Some.ensures f)) c.in_err-list_message-in-KvList.ensures.refused)

pub AnyValuePacked::pack-returns-in_err-pack_base64-in-Bytes-clause-refused : goal.AnyValuePacked::pack-returns-in_err-pack_base64-in-Bytes-clause-refused
AnyValuePacked::pack-returns-in_err-pack_base64-in-Bytes-clause-refused t c =
    let p = err_from_is_err_and c.from_residual-in_err-pack_base64-in-Bytes.result c.from_residual-in_err-pack_base64-in-Bytes.ensures.1 in
    rw (p.1, p.2, c.in-Bytes.is) (refuses_by (base64_fault c.in-Bytes.text ≡ None) (ValueFits c.args.levels (Bytes c.in-Bytes.text)) c.in_err-pack_base64-in-Bytes.field-0.0 (λ f. bytes_below c.in-Some.below c.in-Bytes.text (from_level c.args.levels c.in-Some.below (Bytes c.in-Bytes.text) c.in-Some.ensures f)) c.in_err-pack_base64-in-Bytes.ensures.refused)

pub AnyValuePacked::pack-returns-in-Empty-clause-bytes : goal.AnyValuePacked::pack-returns-in-Empty-clause-bytes
AnyValuePacked::pack-returns-in-Empty-clause-bytes t c = rw (c.in-Empty.is, fields-Empty) (nothing c.args.out.now.items)

pub AnyValuePacked::pack-returns-in-Empty-clause-holds : goal.AnyValuePacked::pack-returns-in-Empty-clause-holds
AnyValuePacked::pack-returns-in-Empty-clause-holds t c = rw c.in-Empty.is empty_holds

pub AnyValuePacked::pack-returns-in-Empty-clause-fits : goal.AnyValuePacked::pack-returns-in-Empty-clause-fits
AnyValuePacked::pack-returns-in-Empty-clause-fits t c = rw c.in-Empty.is (at_level c.args.levels c.in-Some.below _ c.in-Some.ensures (empty_fits c.in-Some.below))

pub AnyValuePacked::pack-returns-in_ok-pack_string_value-in-Str-clause-holds : goal.AnyValuePacked::pack-returns-in_ok-pack_string_value-in-Str-clause-holds
AnyValuePacked::pack-returns-in_ok-pack_string_value-in-Str-clause-holds t c = rw c.in-Str.is (str_holds c.in-Str.text c.pack_string_value.ensures.text)

pub AnyValuePacked::pack-returns-in_ok-pack_string_value-in-Str-clause-fits : goal.AnyValuePacked::pack-returns-in_ok-pack_string_value-in-Str-clause-fits
AnyValuePacked::pack-returns-in_ok-pack_string_value-in-Str-clause-fits t c = rw c.in-Str.is (at_level c.args.levels c.in-Some.below _ c.in-Some.ensures (str_fits c.in-Some.below c.in-Str.text))

pub AnyValuePacked::pack-returns-in_ok-write_varint-in-Bool-clause-holds : goal.AnyValuePacked::pack-returns-in_ok-write_varint-in-Bool-clause-holds
AnyValuePacked::pack-returns-in_ok-write_varint-in-Bool-clause-holds t c = rw c.in-Bool.is (truth_holds c.in-Bool.truth)

pub AnyValuePacked::pack-returns-in_ok-write_varint-in-Bool-clause-fits : goal.AnyValuePacked::pack-returns-in_ok-write_varint-in-Bool-clause-fits
AnyValuePacked::pack-returns-in_ok-write_varint-in-Bool-clause-fits t c = rw c.in-Bool.is (at_level c.args.levels c.in-Some.below _ c.in-Some.ensures (truth_fits c.in-Some.below c.in-Bool.truth))

pub AnyValuePacked::pack-returns-in_ok-pack_int_value-in-Int-clause-holds : goal.AnyValuePacked::pack-returns-in_ok-pack_int_value-in-Int-clause-holds
AnyValuePacked::pack-returns-in_ok-pack_int_value-in-Int-clause-holds t c = rw c.in-Int.is (int_holds c.in-Int.number c.pack_int_value.ensures.range)

pub AnyValuePacked::pack-returns-in_ok-pack_int_value-in-Int-clause-fits : goal.AnyValuePacked::pack-returns-in_ok-pack_int_value-in-Int-clause-fits
AnyValuePacked::pack-returns-in_ok-pack_int_value-in-Int-clause-fits t c = rw c.in-Int.is (at_level c.args.levels c.in-Some.below _ c.in-Some.ensures (int_fits c.in-Some.below c.in-Int.number))

pub AnyValuePacked::pack-returns-in_ok-pack_double_value-in-Double-clause-holds : goal.AnyValuePacked::pack-returns-in_ok-pack_double_value-in-Double-clause-holds
AnyValuePacked::pack-returns-in_ok-pack_double_value-in-Double-clause-holds t c = rw c.in-Double.is (double_holds c.in-Double.double c.pack_double_value.ensures.range c.pack_double_value.ensures.back)

pub AnyValuePacked::pack-returns-in_ok-pack_double_value-in-Double-clause-fits : goal.AnyValuePacked::pack-returns-in_ok-pack_double_value-in-Double-clause-fits
AnyValuePacked::pack-returns-in_ok-pack_double_value-in-Double-clause-fits t c = rw c.in-Double.is (at_level c.args.levels c.in-Some.below _ c.in-Some.ensures (double_fits c.in-Some.below c.in-Double.double))

pub AnyValuePacked::pack-returns-in_ok-list_message-in-Array-clause-holds : goal.AnyValuePacked::pack-returns-in_ok-list_message-in-Array-clause-holds
AnyValuePacked::pack-returns-in_ok-list_message-in-Array-clause-holds t c = rw c.in-Array.is (array_holds c.in-Array.values c.in_ok-list_message-in-Array.ensures.holds)

pub AnyValuePacked::pack-returns-in_ok-list_message-in-Array-clause-fits : goal.AnyValuePacked::pack-returns-in_ok-list_message-in-Array-clause-fits
AnyValuePacked::pack-returns-in_ok-list_message-in-Array-clause-fits t c = rw c.in-Array.is (at_level c.args.levels c.in-Some.below _ c.in-Some.ensures (array_fits c.in-Some.below c.in-Array.values c.in_ok-list_message-in-Array.ensures.fits))

pub AnyValuePacked::pack-returns-in_ok-list_message-in-KvList-clause-holds : goal.AnyValuePacked::pack-returns-in_ok-list_message-in-KvList-clause-holds
AnyValuePacked::pack-returns-in_ok-list_message-in-KvList-clause-holds t c = rw c.in-KvList.is (kv_list_holds c.in-KvList.pairs c.in_ok-list_message-in-KvList.ensures.holds)

pub AnyValuePacked::pack-returns-in_ok-list_message-in-KvList-clause-fits : goal.AnyValuePacked::pack-returns-in_ok-list_message-in-KvList-clause-fits
AnyValuePacked::pack-returns-in_ok-list_message-in-KvList-clause-fits t c = rw c.in-KvList.is (at_level c.args.levels c.in-Some.below _ c.in-Some.ensures (kv_list_fits c.in-Some.below c.in-KvList.pairs c.in_ok-list_message-in-KvList.ensures.fits))

pub AnyValuePacked::pack-returns-in_ok-pack_base64-in-Bytes-clause-holds : goal.AnyValuePacked::pack-returns-in_ok-pack_base64-in-Bytes-clause-holds
AnyValuePacked::pack-returns-in_ok-pack_base64-in-Bytes-clause-holds t c = rw c.in-Bytes.is (bytes_holds c.in-Bytes.text c.in_ok-pack_base64-in-Bytes.ensures.back)

pub AnyValuePacked::pack-returns-in_ok-pack_base64-in-Bytes-clause-fits : goal.AnyValuePacked::pack-returns-in_ok-pack_base64-in-Bytes-clause-fits
AnyValuePacked::pack-returns-in_ok-pack_base64-in-Bytes-clause-fits t c = rw c.in-Bytes.is (at_level c.args.levels c.in-Some.below _ c.in-Some.ensures (bytes_fits c.in-Some.below c.in-Bytes.text c.in_ok-pack_base64-in-Bytes.ensures.fits))

pub KeyValuePacked::pack-returns-clause-bytes : goal.KeyValuePacked::pack-returns-clause-bytes
KeyValuePacked::pack-returns-clause-bytes t c =
    rw (fields-pair c.args.self.now) (then c.args.out.now.items c.pack_text.new.out.items c.pack_set_value.new.out.items (text_field 1 c.args.self.now.key) (message_field 2 (value_fields c.args.self.now.value)) c.in_ok-pack_text.ensures.bytes c.in_ok-pack_set_value.ensures.bytes)

pub KeyValuePacked::pack-returns-clause-holds : goal.KeyValuePacked::pack-returns-clause-holds
KeyValuePacked::pack-returns-clause-holds t c = pair_holds c.args.self.now c.pack_text.ensures.text c.in_ok-pack_set_value.ensures.holds

pub pack_set_value-returns-then-not-is_set-clause-bytes : goal.pack_set_value-returns-then-not-is_set-clause-bytes
pack_set_value-returns-then-not-is_set-clause-bytes t c = rw (c.is_set.ensures.unset c.if-not-is_set.true, fields-Empty) (nothing c.args.out.now.items)

pub pack_set_value-returns-then-not-is_set-clause-holds : goal.pack_set_value-returns-then-not-is_set-clause-holds
pack_set_value-returns-then-not-is_set-clause-holds t c = rw (c.is_set.ensures.unset c.if-not-is_set.true) empty_holds

pub AnyValuePacked::pack-returns-in-Empty-clause-typed : goal.AnyValuePacked::pack-returns-in-Empty-clause-typed
AnyValuePacked::pack-returns-in-Empty-clause-typed t c = rw c.in-Empty.is (typed_at c.args.levels c.in-Some.below _ c.in-Some.ensures (empty_typed c.in-Some.below))

pub AnyValuePacked::pack-returns-in_ok-pack_string_value-in-Str-clause-typed : goal.AnyValuePacked::pack-returns-in_ok-pack_string_value-in-Str-clause-typed
AnyValuePacked::pack-returns-in_ok-pack_string_value-in-Str-clause-typed t c = rw c.in-Str.is (typed_at c.args.levels c.in-Some.below _ c.in-Some.ensures (str_typed c.in-Some.below c.in-Str.text c.pack_string_value.ensures.text))

pub AnyValuePacked::pack-returns-in_ok-write_varint-in-Bool-clause-typed : goal.AnyValuePacked::pack-returns-in_ok-write_varint-in-Bool-clause-typed
AnyValuePacked::pack-returns-in_ok-write_varint-in-Bool-clause-typed t c = rw c.in-Bool.is (typed_at c.args.levels c.in-Some.below _ c.in-Some.ensures (truth_typed c.in-Some.below c.in-Bool.truth))

pub AnyValuePacked::pack-returns-in_ok-pack_int_value-in-Int-clause-typed : goal.AnyValuePacked::pack-returns-in_ok-pack_int_value-in-Int-clause-typed
AnyValuePacked::pack-returns-in_ok-pack_int_value-in-Int-clause-typed t c = rw c.in-Int.is (typed_at c.args.levels c.in-Some.below _ c.in-Some.ensures (int_typed c.in-Some.below c.in-Int.number c.pack_int_value.ensures.range))

pub AnyValuePacked::pack-returns-in_ok-pack_double_value-in-Double-clause-typed : goal.AnyValuePacked::pack-returns-in_ok-pack_double_value-in-Double-clause-typed
AnyValuePacked::pack-returns-in_ok-pack_double_value-in-Double-clause-typed t c = rw c.in-Double.is (typed_at c.args.levels c.in-Some.below _ c.in-Some.ensures (double_typed c.in-Some.below c.in-Double.double c.pack_double_value.ensures.range c.pack_double_value.ensures.back))

pub AnyValuePacked::pack-returns-in_ok-list_message-in-Array-clause-typed : goal.AnyValuePacked::pack-returns-in_ok-list_message-in-Array-clause-typed
AnyValuePacked::pack-returns-in_ok-list_message-in-Array-clause-typed t c = rw c.in-Array.is (typed_at c.args.levels c.in-Some.below _ c.in-Some.ensures (array_typed c.in-Some.below c.in-Array.values c.in_ok-list_message-in-Array.ensures.typed))

pub AnyValuePacked::pack-returns-in_ok-list_message-in-KvList-clause-typed : goal.AnyValuePacked::pack-returns-in_ok-list_message-in-KvList-clause-typed
AnyValuePacked::pack-returns-in_ok-list_message-in-KvList-clause-typed t c = rw c.in-KvList.is (typed_at c.args.levels c.in-Some.below _ c.in-Some.ensures (kv_list_typed c.in-Some.below c.in-KvList.pairs c.in_ok-list_message-in-KvList.ensures.typed))

pub AnyValuePacked::pack-returns-in_ok-pack_base64-in-Bytes-clause-typed : goal.AnyValuePacked::pack-returns-in_ok-pack_base64-in-Bytes-clause-typed
AnyValuePacked::pack-returns-in_ok-pack_base64-in-Bytes-clause-typed t c = rw c.in-Bytes.is (typed_at c.args.levels c.in-Some.below _ c.in-Some.ensures (bytes_typed c.in-Some.below c.in-Bytes.text c.in_ok-pack_base64-in-Bytes.ensures.back))
