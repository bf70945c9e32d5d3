use Rattle.std.proofs.Common.{rules}
use Rattle.serde_json.specs.View.{view}
use Rattle.otlp_reading.specs.Kinds.{message}
use Rattle.otlp_reading.specs.Reading.{value_to, key_value}
use Rattle.otlp_reading.proofs.Each.{Sieves-next}
use Rattle.otlp_reading.proofs.Levels.{value_to-zero, value_to-step}
use Rattle.otlp_reading.proofs.value.+value.Goals as goal

pub value_to-returns-then-levels-eq0 : goal.value_to-returns-then-levels-eq0
value_to-returns-then-levels-eq0 t c = rw c.if-levels-eq0.true (value_to-zero c.args.keeps_doubles (view c.args.value.now))

pub value_to-returns-in_err-object : goal.value_to-returns-in_err-object
value_to-returns-in_err-object t c = rw (value_to-step c.args.keeps_doubles c.args.levels (view c.args.value.now) c.if-levels-eq0.false) (search rules)

pub value_to-returns-in_err-key : goal.value_to-returns-in_err-key
value_to-returns-in_err-key t c = rw (value_to-step c.args.keeps_doubles c.args.levels (view c.args.value.now) c.if-levels-eq0.false) (search rules)

pub value_to-returns-in-Some : goal.value_to-returns-in-Some
value_to-returns-in-Some t c = rw (value_to-step c.args.keeps_doubles c.args.levels (view c.args.value.now) c.if-levels-eq0.false) (search rules)

pub value_to-returns-in-None : goal.value_to-returns-in-None
value_to-returns-in-None t c = rw (value_to-step c.args.keeps_doubles c.args.levels (view c.args.value.now) c.if-levels-eq0.false) (search rules)

pub values-loop-item-preserved : goal.values-loop-item-preserved
values-loop-item-preserved t c =
    let l = c.loop-item in
    Sieves-next (value_to c.args.keeps_doubles c.args.levels) c.args.items.now l.item-index l.all.kept l.all.discarded c.item-item.result c.in_ok-value_to.field-0 _ _ l.invariant c.loop-item-test.true c.item-item.is
    c.in_ok-value_to.ensures c.in_ok-take.ensures.kept c.in_ok-take.ensures.discarded

pub key_values-loop-item-preserved : goal.key_values-loop-item-preserved
key_values-loop-item-preserved t c =
    let l = c.loop-item in
    Sieves-next (message (key_value (value_to c.args.keeps_doubles c.args.levels))) c.args.items.now l.item-index l.all.kept l.all.discarded c.item-item.result c.in_ok-key_value.field-0 _ _ l.invariant c.loop-item-test.true c.item-item.is
    c.in_ok-key_value.ensures c.in_ok-take.ensures.kept c.in_ok-take.ensures.discarded
