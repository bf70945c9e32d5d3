use Rattle.std.proofs.Common.{rules}
use Rattle.std.proofs.lemmas.Result.{err_from_is_err_and}
use Rattle.otlp_protobuf.specs.Values.{array_step, list_step, pair_step, value_step, value_to, no_pair}
use Rattle.otlp_protobuf.proofs.Merging.{Merges-next, Merges-refused, Merges-fault, Merges-done}
use Rattle.otlp_protobuf.proofs.Levels.{value_to-zero, value_to-step}
use Rattle.otlp_protobuf.proofs.value.+value.Goals as goal

pub array-returns-in_err-array_with : goal.array-returns-in_err-array_with
array-returns-in_err-array_with t c =
    let p = err_from_is_err_and c.from_residual-in_err-array_with.result c.from_residual-in_err-array_with.ensures.1 in
    rw (p.1, p.2) (Merges-refused (array_step (value_to c.args.levels)) c.args.items.now c.args.bytes.now c.fields.items c.fields.fields c.next.new.self c.in_ok-field.field-0 c.in-Some.field c.in_err-array_with.field-0.0 c.fields.invariant c.in_ok-field.ensures.first c.in-Some.is c.in_err-array_with.ensures)

pub array-fields-preserved : goal.array-fields-preserved
array-fields-preserved t c = Merges-next (array_step (value_to c.args.levels)) c.args.items.now c.args.bytes.now c.fields.items c.fields.fields c.next.new.self c.in_ok-field.field-0 c.in-Some.field c.array_with.new.items c.fields.invariant c.in_ok-field.ensures.first c.in-Some.is c.in_ok-array_with.ensures

pub array-returns : goal.array-returns
array-returns t c = Merges-done (array_step (value_to c.args.levels)) c.args.items.now c.args.bytes.now c.fields.items c.fields.fields c.next.new.self c.in_ok-field.field-0 c.fields.invariant c.in_ok-field.ensures.first c.in_default.is

pub list-returns-in_err-list_with : goal.list-returns-in_err-list_with
list-returns-in_err-list_with t c =
    let p = err_from_is_err_and c.from_residual-in_err-list_with.result c.from_residual-in_err-list_with.ensures.1 in
    rw (p.1, p.2) (Merges-refused (list_step (value_to c.args.levels)) c.args.pairs.now c.args.bytes.now c.fields.pairs c.fields.fields c.next.new.self c.in_ok-field.field-0 c.in-Some.field c.in_err-list_with.field-0.0 c.fields.invariant c.in_ok-field.ensures.first c.in-Some.is c.in_err-list_with.ensures)

pub list-fields-preserved : goal.list-fields-preserved
list-fields-preserved t c = Merges-next (list_step (value_to c.args.levels)) c.args.pairs.now c.args.bytes.now c.fields.pairs c.fields.fields c.next.new.self c.in_ok-field.field-0 c.in-Some.field c.list_with.new.pairs c.fields.invariant c.in_ok-field.ensures.first c.in-Some.is c.in_ok-list_with.ensures

pub list-returns : goal.list-returns
list-returns t c = Merges-done (list_step (value_to c.args.levels)) c.args.pairs.now c.args.bytes.now c.fields.pairs c.fields.fields c.next.new.self c.in_ok-field.field-0 c.fields.invariant c.in_ok-field.ensures.first c.in_default.is

pub pair-returns-in_err-pair_with : goal.pair-returns-in_err-pair_with
pair-returns-in_err-pair_with t c =
    let p = err_from_is_err_and c.from_residual-in_err-pair_with.result c.from_residual-in_err-pair_with.ensures.1 in
    rw (p.1, p.2) (Merges-refused (pair_step (value_to c.args.levels)) no_pair c.args.bytes.now c.fields.pair c.fields.fields c.next.new.self c.in_ok-field.field-0 c.in-Some.field c.in_err-pair_with.field-0.0 c.fields.invariant c.in_ok-field.ensures.first c.in-Some.is c.in_err-pair_with.ensures)

pub pair-fields-preserved : goal.pair-fields-preserved
pair-fields-preserved t c = Merges-next (pair_step (value_to c.args.levels)) no_pair c.args.bytes.now c.fields.pair c.fields.fields c.next.new.self c.in_ok-field.field-0 c.in-Some.field c.pair_with.new.pair c.fields.invariant c.in_ok-field.ensures.first c.in-Some.is c.in_ok-pair_with.ensures

pub pair-returns : goal.pair-returns
pair-returns t c = Merges-done (pair_step (value_to c.args.levels)) no_pair c.args.bytes.now c.fields.pair c.fields.fields c.next.new.self c.in_ok-field.field-0 c.fields.invariant c.in_ok-field.ensures.first c.in_default.is

pub value_fields-returns-in_err-value_with : goal.value_fields-returns-in_err-value_with
value_fields-returns-in_err-value_with t c =
    let p = err_from_is_err_and c.from_residual-in_err-value_with.result c.from_residual-in_err-value_with.ensures.1 in
    rw (p.1, p.2) (Merges-refused (value_step (value_to c.args.levels)) c.args.value.now c.args.bytes.now c.fields.value c.fields.fields c.next.new.self c.in_ok-field.field-0 c.in-Some.field c.in_err-value_with.field-0.0 c.fields.invariant c.in_ok-field.ensures.first c.in-Some.is c.in_err-value_with.ensures)

pub value_fields-fields-preserved : goal.value_fields-fields-preserved
value_fields-fields-preserved t c = Merges-next (value_step (value_to c.args.levels)) c.args.value.now c.args.bytes.now c.fields.value c.fields.fields c.next.new.self c.in_ok-field.field-0 c.in-Some.field c.value_with.new.value c.fields.invariant c.in_ok-field.ensures.first c.in-Some.is c.in_ok-value_with.ensures

pub value_fields-returns : goal.value_fields-returns
value_fields-returns t c = Merges-done (value_step (value_to c.args.levels)) c.args.value.now c.args.bytes.now c.fields.value c.fields.fields c.next.new.self c.in_ok-field.field-0 c.fields.invariant c.in_ok-field.ensures.first c.in_default.is

pub value_to-returns-then-levels-eq0 : goal.value_to-returns-then-levels-eq0
value_to-returns-then-levels-eq0 t c = rw c.if-levels-eq0.true (value_to-zero c.args.value.now c.args.bytes.now)

pub value_to-returns : goal.value_to-returns
value_to-returns t c = rw (value_to-step c.args.levels c.args.value.now c.args.bytes.now c.if-levels-eq0.false) (search rules)

pub array-returns-in_err-field : goal.array-returns-in_err-field
array-returns-in_err-field t c =
    let p = err_from_is_err_and c.from_residual.result c.from_residual.ensures.1 in
    rw (p.1, p.2) (Merges-fault (array_step (value_to c.args.levels)) c.args.items.now c.args.bytes.now c.fields.items c.fields.fields c.next.new.self c.in_err-field.field-0.0 c.fields.invariant c.in_err-field.ensures.first)

pub list-returns-in_err-field : goal.list-returns-in_err-field
list-returns-in_err-field t c =
    let p = err_from_is_err_and c.from_residual.result c.from_residual.ensures.1 in
    rw (p.1, p.2) (Merges-fault (list_step (value_to c.args.levels)) c.args.pairs.now c.args.bytes.now c.fields.pairs c.fields.fields c.next.new.self c.in_err-field.field-0.0 c.fields.invariant c.in_err-field.ensures.first)

pub pair-returns-in_err-field : goal.pair-returns-in_err-field
pair-returns-in_err-field t c =
    let p = err_from_is_err_and c.from_residual.result c.from_residual.ensures.1 in
    rw (p.1, p.2) (Merges-fault (pair_step (value_to c.args.levels)) no_pair c.args.bytes.now c.fields.pair c.fields.fields c.next.new.self c.in_err-field.field-0.0 c.fields.invariant c.in_err-field.ensures.first)

pub value_fields-returns-in_err-field : goal.value_fields-returns-in_err-field
value_fields-returns-in_err-field t c =
    let p = err_from_is_err_and c.from_residual.result c.from_residual.ensures.1 in
    rw (p.1, p.2) (Merges-fault (value_step (value_to c.args.levels)) c.args.value.now c.args.bytes.now c.fields.value c.fields.fields c.next.new.self c.in_err-field.field-0.0 c.fields.invariant c.in_err-field.ensures.first)
