use Rattle.std.proofs.Common.{◌≡◌, ◌-◌, Some, None, refl, sym, ◌∙◌, arith, rules, w64, subst, option_map}
use mir.Val.{to_z, of_z}
use Rattle.serde_json.specs.Find.{as_str, as_bool}
use Rattle.otlp_types.specs.declared.value.AnyValue.{Str, Bool as Truth, Int, Array, KvList, Bytes}
use Rattle.otlp_reading.specs.Kinds.{message, i64_value}
use Rattle.otlp_reading.specs.Reading.{value_to, key_value}
use Rattle.otlp_stream.specs.Taking.{TakesAs, held}
use Rattle.otlp_stream.proofs.Sieving.{WithinSieved-start, WithinSieved-next, sieved_array, all_none, all_read, held_map, value_empty, value_one, pair_key, pair_both}
use Rattle.std.proofs.lemmas.Result.{IfOk-weaker}
use Rattle.otlp_stream.proofs.values.+value.Goals as goal

pub all_values-items-init : goal.all_values-items-init
all_values-items-init t c = WithinSieved-start (value_to c.args.keeps_doubles c.args.levels) (c.args.depth - 1) c.begin_array.new.reader c.none-found.result c.none-found.ensures

pub all_values-returns-then-take_end_array : goal.all_values-returns-then-take_end_array
all_values-returns-then-take_end_array t c =
    sieved_array (value_to c.args.keeps_doubles c.args.levels) _ c.args.depth c.args.reader.now c.begin_array.new.reader c.items.reader c.take_end_array.new.self c.in_ok-begin_array.ensures.deep c.in_ok-begin_array.ensures.begins c.items.invariant (grind arith)

pub all_values-items-preserved : goal.all_values-items-preserved
all_values-items-preserved t c =
    WithinSieved-next (value_to c.args.keeps_doubles c.args.levels) (c.args.depth - 1) _ c.items.reader c.take_end_array.new.self c.value_to.new.reader _ _ _ c.items.invariant (grind arith) (grind arith) c.in_ok-value_to.ensures c.in_ok-take.ensures.kept c.in_ok-take.ensures.discarded

pub key_values-items-init : goal.key_values-items-init
key_values-items-init t c = WithinSieved-start (message (key_value (value_to c.args.keeps_doubles c.args.levels))) (c.args.depth - 1) c.begin_array.new.reader c.none-found.result c.none-found.ensures

pub key_values-returns-then-take_end_array : goal.key_values-returns-then-take_end_array
key_values-returns-then-take_end_array t c =
    sieved_array (message (key_value (value_to c.args.keeps_doubles c.args.levels))) _ c.args.depth c.args.reader.now c.begin_array.new.reader c.items.reader c.take_end_array.new.self c.in_ok-begin_array.ensures.deep c.in_ok-begin_array.ensures.begins c.items.invariant (grind arith)

pub key_values-items-preserved : goal.key_values-items-preserved
key_values-items-preserved t c =
    WithinSieved-next (message (key_value (value_to c.args.keeps_doubles c.args.levels))) (c.args.depth - 1) _ c.items.reader c.take_end_array.new.self c.pair.new.reader _ _ _ c.items.invariant (grind arith) (grind arith) c.in_ok-pair.ensures c.in_ok-take.ensures.kept c.in_ok-take.ensures.discarded

pub array-returns-then-not-branch : goal.array-returns-then-not-branch
array-returns-then-not-branch t c =
    all_none Array (value_to c.args.keeps_doubles c.args.levels) c.args.depth _ _ _ c.in_ok-begin_object.ensures.deep c.in_ok-begin_object.ensures.begins c.new.result c.new.ensures (grind arith)

pub array-returns-in-Some : goal.array-returns-in-Some
array-returns-in-Some t c =
    all_read Array (value_to c.args.keeps_doubles c.args.levels) c.args.depth _ _ _ c.in_ok-begin_object.ensures.deep c.in_ok-begin_object.ensures.begins _ _ c.in_ok-found.found _ (grind arith) c.in_ok-found.ensures c.in_ok-end_object.ensures (sym c.in-Some.is ∙ c.whole.ensures)

pub array-returns-in-None : goal.array-returns-in-None
array-returns-in-None t c =
    all_read Array (value_to c.args.keeps_doubles c.args.levels) c.args.depth _ _ _ c.in_ok-begin_object.ensures.deep c.in_ok-begin_object.ensures.begins _ _ c.in_ok-found.found _ (grind arith) c.in_ok-found.ensures c.in_ok-end_object.ensures (sym c.in-None.is ∙ c.whole.ensures)

pub kv_list-returns-then-not-branch : goal.kv_list-returns-then-not-branch
kv_list-returns-then-not-branch t c =
    all_none KvList (message (key_value (value_to c.args.keeps_doubles c.args.levels))) c.args.depth _ _ _ c.in_ok-begin_object.ensures.deep c.in_ok-begin_object.ensures.begins c.new.result c.new.ensures (grind arith)

pub kv_list-returns-in-Some : goal.kv_list-returns-in-Some
kv_list-returns-in-Some t c =
    all_read KvList (message (key_value (value_to c.args.keeps_doubles c.args.levels))) c.args.depth _ _ _ c.in_ok-begin_object.ensures.deep c.in_ok-begin_object.ensures.begins _ _ c.in_ok-found.found _ (grind arith) c.in_ok-found.ensures c.in_ok-end_object.ensures (sym c.in-Some.is ∙ c.whole.ensures)

pub kv_list-returns-in-None : goal.kv_list-returns-in-None
kv_list-returns-in-None t c =
    all_read KvList (message (key_value (value_to c.args.keeps_doubles c.args.levels))) c.args.depth _ _ _ c.in_ok-begin_object.ensures.deep c.in_ok-begin_object.ensures.begins _ _ c.in_ok-found.found _ (grind arith) c.in_ok-found.ensures c.in_ok-end_object.ensures (sym c.in-None.is ∙ c.whole.ensures)

pub value_by-returns-in_ok-held_text-in-Str : goal.value_by-returns-in_ok-held_text-in-Str
value_by-returns-in_ok-held_text-in-Str t c =
    rw c.in-Str.is (held_map as_str (λ s. Some (Str s)) c.args.depth _ _ _ (c.in_ok-held_text-in-Str.ensures c.args.depth))

pub value_by-returns-in_ok-held_bool-in-Bool : goal.value_by-returns-in_ok-held_bool-in-Bool
value_by-returns-in_ok-held_bool-in-Bool t c =
    rw c.in-Bool.is (held_map as_bool (λ b. Some (Truth b)) c.args.depth _ _ _ (c.in_ok-held_bool-in-Bool.ensures c.args.depth))

pub value_by-returns-in_ok-held_text-in-Bytes : goal.value_by-returns-in_ok-held_text-in-Bytes
value_by-returns-in_ok-held_text-in-Bytes t c =
    rw c.in-Bytes.is (held_map as_str (λ s. Some (Bytes s)) c.args.depth _ _ _ (c.in_ok-held_text-in-Bytes.ensures c.args.depth))

pub value_to-returns-in_default : goal.value_to-returns-in_default
value_to-returns-in_default t c =
    value_empty c.args.keeps_doubles c.args.levels c.if-levels-eq0.false c.args.depth _ _ _ c.in_ok-begin_object.ensures.deep c.in_ok-begin_object.ensures.begins (grind arith)

pub value_to-returns : goal.value_to-returns
value_to-returns t c =
    value_one c.args.keeps_doubles c.args.levels c.if-levels-eq0.false c.args.depth _ _ _ c.in_ok-begin_object.ensures.deep c.in_ok-begin_object.ensures.begins c.in-Some-named.key c.in-Some.name.now _ _ _
    c.in-Some-named.ensures (rw c.in-Some.is at c.in_ok-name.ensures.value) c.in_ok-value.ensures c.in_ok-end_object.ensures

pub pair-returns-then-not-branch-2 : goal.pair-returns-then-not-branch-2
pair-returns-then-not-branch-2 t c =
    pair_key c.args.keeps_doubles c.args.levels c.args.depth _ _ _ c.in_ok-begin_object.ensures.deep c.in_ok-begin_object.ensures.begins _ _ _ (grind arith) (c.in_ok-key.ensures (c.args.depth - 1)) (grind arith)

pub pair-returns-in-Some : goal.pair-returns-in-Some
pair-returns-in-Some t c =
    pair_both c.args.keeps_doubles c.args.levels c.args.depth _ _ _ c.in_ok-begin_object.ensures.deep c.in_ok-begin_object.ensures.begins _ _ _ _ c.in_ok-key.key c.in_ok-value.value _ (grind arith) (c.in_ok-key.ensures (c.args.depth - 1)) (grind arith)
    c.in_ok-value.ensures c.in_ok-end_object.ensures (rw c.in-Some.is refl)

pub pair-returns-in-None : goal.pair-returns-in-None
pair-returns-in-None t c =
    pair_both c.args.keeps_doubles c.args.levels c.args.depth _ _ _ c.in_ok-begin_object.ensures.deep c.in_ok-begin_object.ensures.begins _ _ _ _ c.in_ok-key.key c.in_ok-value.value _ (grind arith) (c.in_ok-key.ensures (c.args.depth - 1)) (grind arith)
    c.in_ok-value.ensures c.in_ok-end_object.ensures (rw c.in-None.is refl)

pub value_by-returns-in_ok-held_i64-in-Int : goal.value_by-returns-in_ok-held_i64-in-Int
value_by-returns-in_ok-held_i64-in-Int t c =
    let n = c.in_ok-held_i64-in-Int.field-0 in
    let z : n ≡ to_z w64 (of_z w64 n) = search rules in
    rw c.in-Int.is (subst (λ m. TakesAs (held (λ d. option_map (λ k. Some (Int k)) (i64_value d))) c.args.depth c.args.reader.now c.held_i64.new.reader (Some (Int m))) z
    (held_map i64_value (λ k. Some (Int k)) c.args.depth _ _ n (c.in_ok-held_i64-in-Int.ensures c.args.depth)))

pub value_by-returns-in-Double : goal.value_by-returns-in-Double
value_by-returns-in-Double t c = rw c.in-Double.is (IfOk-weaker c.held_double.result _ _ (λ x h. h c.args.depth) c.held_double.ensures)
