use Rattle.std.proofs.Common.{◌≤◌, arith, length}
use Rattle.run_comparison.specs.Rows.{seen_policy}
use Rattle.comparison_text.specs.Value.{policy_value}
use Rattle.comparison_text.proofs.Appended.{array-of, member-of}
use Rattle.comparison_text.proofs.InOrder.{item-read, items-end}
use Rattle.comparison_text.proofs.kept.put_policies.Goals as goal

pub loop-row-preserved : goal.loop-row-preserved
loop-row-preserved c =
    item-read (λ row. policy_value (seen_policy row)) c.args.rows.now c.begin_array.new.self c.loop-row.out c.put_policy.new.out c.loop-row.row-index _ c.loop-row-test.true
    c.loop-row.invariant c.in_ok-put_policy.ensures.all

pub returns : goal.returns
returns c =
    let last = c.end_array.result in
    let new = c.end_array.new.self in
    let past : length c.args.rows.now ≤ c.loop-row.row-index = omega (arith, c.loop-row-test.false) in
    member-of last c.args.out.now c.key.new.self new _ _ c.in_ok-key.ensures.ok c.in_ok-key.ensures.room.0
    (array-of last c.key.new.self c.begin_array.new.self new _ c.in_ok-begin_array.ensures.ok c.in_ok-begin_array.ensures.room.0
    (items-end last (λ row. policy_value (seen_policy row)) c.args.rows.now c.begin_array.new.self c.loop-row.out new c.loop-row.row-index past c.loop-row.invariant c.end_array.ensures))
