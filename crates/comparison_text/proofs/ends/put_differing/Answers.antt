use Rattle.std.proofs.Common.{◌≤◌, arith, length, map, string_bytes}
use Rattle.comparison_text.specs.Value.{differing_value}
use Rattle.comparison_text.proofs.Appended.{array-of, member-of}
use Rattle.comparison_text.proofs.InOrder.{item-next, items-end}
use Rattle.comparison_text.proofs.ends.put_differing.Goals as goal

pub loop-trace-preserved : goal.loop-trace-preserved
loop-trace-preserved c =
    item-next (differing_value (map string_bytes c.args.old.now) (map string_bytes c.args.new.now)) c.args.found.now c.begin_array.new.self c.loop-trace.out c.put_trace.new.out c.loop-trace.trace-index c.trace-item.result c.loop-trace-test.true c.trace-item.is
    c.loop-trace.invariant c.in_ok-put_trace.ensures.all

pub returns : goal.returns
returns c =
    let last = c.end_array.result in
    let new = c.end_array.new.self in
    let past : length c.args.found.now ≤ c.loop-trace.trace-index = omega (arith, c.loop-trace-test.false) in
    member-of last c.args.out.now c.key.new.self new _ _ c.in_ok-key.ensures.ok c.in_ok-key.ensures.room.0
    (array-of last c.key.new.self c.begin_array.new.self new _ c.in_ok-begin_array.ensures.ok c.in_ok-begin_array.ensures.room.0
    (items-end last (differing_value (map string_bytes c.args.old.now) (map string_bytes c.args.new.now)) c.args.found.now c.begin_array.new.self c.loop-trace.out new c.loop-trace.trace-index past c.loop-trace.invariant c.end_array.ensures))
