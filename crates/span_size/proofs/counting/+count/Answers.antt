use Rattle.std.proofs.Common.{codes, refl}
use Rattle.serde_json.specs.Data.{object}
use Rattle.otlp_json.specs.Writing.{value_fields}
use Rattle.otlp_json.proofs.ValuesBack.{pair_table, fields-Empty, fields-Str, fields-Truth, fields-Int, fields-Double, fields-Bytes, fields-Array, fields-KvList, fields-pair}
use Rattle.span_size.proofs.Counts.{nothing, then}
use Rattle.span_size.proofs.Objects.{field-of, object-added}
use Rattle.span_size.proofs.counting.+count.Goals as goal

pub AnyValueHasSize::count-returns-in-Empty : goal.AnyValueHasSize::count-returns-in-Empty
AnyValueHasSize::count-returns-in-Empty t c = rw (c.in-Empty.is, fields-Empty) c.object_of_none.ensures

pub AnyValueHasSize::count-returns-in-Str : goal.AnyValueHasSize::count-returns-in-Str
AnyValueHasSize::count-returns-in-Str t c = rw (c.in-Str.is, fields-Str c.in-Str.text) c.object_of_text.ensures

pub AnyValueHasSize::count-returns-in-Bool : goal.AnyValueHasSize::count-returns-in-Bool
AnyValueHasSize::count-returns-in-Bool t c = rw (c.in-Bool.is, fields-Truth c.in-Bool.b) c.object_of_bool.ensures

pub AnyValueHasSize::count-returns-in-Int : goal.AnyValueHasSize::count-returns-in-Int
AnyValueHasSize::count-returns-in-Int t c = rw (c.in-Int.is, fields-Int c.in-Int.n) c.object_of_integer.ensures

pub AnyValueHasSize::count-returns-in-Double : goal.AnyValueHasSize::count-returns-in-Double
AnyValueHasSize::count-returns-in-Double t c = rw (c.in-Double.is, fields-Double c.in-Double.x) c.object_of_double.ensures

pub AnyValueHasSize::count-returns-in-Array : goal.AnyValueHasSize::count-returns-in-Array
AnyValueHasSize::count-returns-in-Array t c = rw (c.in-Array.is, fields-Array c.in-Array.values) c.object_of_list.ensures

pub AnyValueHasSize::count-returns-in-KvList : goal.AnyValueHasSize::count-returns-in-KvList
AnyValueHasSize::count-returns-in-KvList t c = rw (c.in-KvList.is, fields-KvList c.in-KvList.pairs) c.object_of_list-in-KvList.ensures

pub AnyValueHasSize::count-returns-in-Bytes : goal.AnyValueHasSize::count-returns-in-Bytes
AnyValueHasSize::count-returns-in-Bytes t c = rw (c.in-Bytes.is, fields-Bytes c.in-Bytes.text) c.object_of_text-in-Bytes.ensures

pub KeyValueHasSize::count-returns : goal.KeyValueHasSize::count-returns
KeyValueHasSize::count-returns t c = rw (fields-pair c.args.self.now) (object-added (pair_table c.args.self.now) refl (then c.begin_nested.ensures.object (then c.text.ensures (then c.count_set_value.ensures c.end_nested.ensures.object))))

pub count_set_value-returns-then-not-is_set : goal.count_set_value-returns-then-not-is_set
count_set_value-returns-then-not-is_set t c = rw (c.is_set.ensures.unset c.if-not-is_set.true, fields-Empty) (nothing c.args.out.now)

pub count_set_value-returns : goal.count_set_value-returns
count_set_value-returns t c = field-of (codes "value") _ (object (value_fields c.args.value.now)) (c.is_set.ensures.set c.if-not-is_set.false) c.key.ensures c.count.ensures
