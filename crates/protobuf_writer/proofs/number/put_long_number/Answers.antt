use Rattle.std.proofs.Common.{◌∙◌, arith}
use Rattle.protobuf_writer.proofs.Numbers.{Writes-step, Writes-end, Writes-small}
use Rattle.protobuf_writer.proofs.number.put_long_number.Goals as goal

pub returns-then-left-lt128 : goal.returns-then-left-lt128
returns-then-left-lt128 c =
    c.in_ok-push.ensures.items ∙ Writes-end c.args.out.now.items c.args.number c.loop-i.i c.loop-i.out.items c.loop-i.left c.loop-i.invariant (omega arith) (omega arith)

pub loop-i-preserved : goal.loop-i-preserved
loop-i-preserved c =
    rw c.in_ok-push-2.ensures.items (Writes-step c.args.out.now.items c.args.number c.loop-i.i c.loop-i.out.items c.loop-i.left c.loop-i.invariant (omega arith) (omega arith))

pub returns : goal.returns
returns c =
    c.in_ok-push-3.ensures.items
    ∙ Writes-end c.args.out.now.items c.args.number c.loop-i.i c.loop-i.out.items c.loop-i.left c.loop-i.invariant (omega arith) (Writes-small c.args.out.now.items c.args.number c.loop-i.i c.loop-i.out.items c.loop-i.left c.loop-i.invariant (omega arith))
