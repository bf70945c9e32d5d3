use Rattle.std.proofs.Common.{◌≤◌, ◌<◌, ◌^◌, arith, get_or, length, rules}
use Rattle.json.proofs.Printed.Decimals.{IsNumber-decimal}
use Rattle.decision_line.specs.Line.{count}
use Rattle.comparison_text.proofs.Appended.{array-of, member-of}
use Rattle.comparison_text.proofs.InOrder.{item-read, items-end}
use Rattle.comparison_text.proofs.putting.put_numbers.Goals as goal

pub loop-number-preserved : goal.loop-number-preserved
loop-number-preserved c =
    let place = c.loop-number.number-index in
    let fits : get_or c.args.numbers.now place 0 < 2 ^ 64 = search rules in
    item-read count c.args.numbers.now c.begin_array.new.self c.loop-number.out c.u64.new.self place 0 c.loop-number-test.true c.loop-number.invariant
    (c.in_ok-u64.ensures.ok, c.in_ok-u64.ensures.room.0, IsNumber-decimal _ fits)

pub returns : goal.returns
returns c =
    let last = c.end_array.result in
    let new = c.end_array.new.self in
    let past : length c.args.numbers.now ≤ c.loop-number.number-index = omega (arith, c.loop-number-test.false) in
    member-of last c.args.out.now c.key.new.self new _ _ c.in_ok-key.ensures.ok c.in_ok-key.ensures.room.0
    (array-of last c.key.new.self c.begin_array.new.self new _ c.in_ok-begin_array.ensures.ok c.in_ok-begin_array.ensures.room.0
    (items-end last count c.args.numbers.now c.begin_array.new.self c.loop-number.out new c.loop-number.number-index past c.loop-number.invariant c.end_array.ensures))
