use Rattle.protobuf_writer.specs.Defaults.{text_field, message_field}
use Rattle.protobuf_writer.proofs.Adding.{nothing, then}
use Rattle.otlp_protobuf_encode.specs.Writing.{value_fields}
use Rattle.otlp_protobuf_encode.proofs.Values.{fields-Empty, fields-pair}
use Rattle.otlp_protobuf_encode.proofs.ValuesBack.{empty-back, str-back, truth-value-back, int-back, double-back, bytes-value-back, array-back, kv_list-back, pair-back}
use Rattle.otlp_protobuf_encode.proofs.value.+write.Goals as goal

pub AnyValueWritten::write-returns-in-Empty-clause-bytes : goal.AnyValueWritten::write-returns-in-Empty-clause-bytes
AnyValueWritten::write-returns-in-Empty-clause-bytes t c = rw (c.in-Empty.is, fields-Empty) (nothing c.args.out.now.items)

pub KeyValueWritten::write-returns-clause-bytes : goal.KeyValueWritten::write-returns-clause-bytes
KeyValueWritten::write-returns-clause-bytes t c =
    rw (fields-pair c.args.self.now) (then c.args.out.now.items c.write_string.new.out.items c.write_set_value.new.out.items (text_field 1 c.args.self.now.key) (message_field 2 (value_fields c.args.self.now.value)) c.in_ok-write_string.ensures.bytes c.in_ok-write_set_value.ensures.bytes)

pub write_set_value-returns-then-not-is_set-clause-bytes : goal.write_set_value-returns-then-not-is_set-clause-bytes
write_set_value-returns-then-not-is_set-clause-bytes t c = rw (c.is_set.ensures.unset c.if-not-is_set.true, fields-Empty) (nothing c.args.out.now.items)

pub AnyValueWritten::write-returns-in-Empty-clause-back : goal.AnyValueWritten::write-returns-in-Empty-clause-back
AnyValueWritten::write-returns-in-Empty-clause-back t c = rw c.in-Empty.is empty-back

pub KeyValueWritten::write-returns-clause-back : goal.KeyValueWritten::write-returns-clause-back
KeyValueWritten::write-returns-clause-back t c = pair-back c.args.self.now c.write_string.ensures.text c.in_ok-write_set_value.ensures.back

pub write_set_value-returns-then-not-is_set-clause-back : goal.write_set_value-returns-then-not-is_set-clause-back
write_set_value-returns-then-not-is_set-clause-back t c = rw (c.is_set.ensures.unset c.if-not-is_set.true) empty-back

pub AnyValueWritten::write-returns-in_ok-write_string_value-in-Str-clause-back : goal.AnyValueWritten::write-returns-in_ok-write_string_value-in-Str-clause-back
AnyValueWritten::write-returns-in_ok-write_string_value-in-Str-clause-back t c = rw c.in-Str.is (str-back c.in-Str.text c.write_string_value.ensures.text)

pub AnyValueWritten::write-returns-in_ok-write_varint-in-Bool-clause-back : goal.AnyValueWritten::write-returns-in_ok-write_varint-in-Bool-clause-back
AnyValueWritten::write-returns-in_ok-write_varint-in-Bool-clause-back t c = rw c.in-Bool.is (truth-value-back c.in-Bool.truth)

pub AnyValueWritten::write-returns-in_ok-write_int_value-in-Int-clause-back : goal.AnyValueWritten::write-returns-in_ok-write_int_value-in-Int-clause-back
AnyValueWritten::write-returns-in_ok-write_int_value-in-Int-clause-back t c = rw c.in-Int.is (int-back c.in-Int.number c.write_int_value.ensures.range)

pub AnyValueWritten::write-returns-in_ok-write_double_value-in-Double-clause-back : goal.AnyValueWritten::write-returns-in_ok-write_double_value-in-Double-clause-back
AnyValueWritten::write-returns-in_ok-write_double_value-in-Double-clause-back t c = rw c.in-Double.is (double-back c.in-Double.double c.write_double_value.ensures.range c.write_double_value.ensures.back)

pub AnyValueWritten::write-returns-in_ok-list_message-in-Array-clause-back : goal.AnyValueWritten::write-returns-in_ok-list_message-in-Array-clause-back
AnyValueWritten::write-returns-in_ok-list_message-in-Array-clause-back t c = rw c.in-Array.is (array-back c.in-Array.values c.in_ok-list_message-in-Array.ensures.back)

pub AnyValueWritten::write-returns-in_ok-list_message-in-KvList-clause-back : goal.AnyValueWritten::write-returns-in_ok-list_message-in-KvList-clause-back
AnyValueWritten::write-returns-in_ok-list_message-in-KvList-clause-back t c = rw c.in-KvList.is (kv_list-back c.in-KvList.pairs c.in_ok-list_message-in-KvList.ensures.back)

pub AnyValueWritten::write-returns-in_ok-write_base64-in-Bytes-clause-back : goal.AnyValueWritten::write-returns-in_ok-write_base64-in-Bytes-clause-back
AnyValueWritten::write-returns-in_ok-write_base64-in-Bytes-clause-back t c = rw c.in-Bytes.is (bytes-value-back c.in-Bytes.text c.in_ok-write_base64-in-Bytes.ensures.back)
