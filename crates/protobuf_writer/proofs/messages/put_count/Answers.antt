use Rattle.std.proofs.Common.{refl, arith}
use Rattle.protobuf_writer.proofs.Counting.{Counts-start, Counts-step, Counts-end, Counts-last}
use Rattle.protobuf_writer.proofs.messages.put_count.Goals as goal

pub loop-i-init : goal.loop-i-init
loop-i-init c = Counts-start c.args.out.now.items c.args.at c.args.count c.requires (omega arith)

pub returns-then-left-lt128 : goal.returns-then-left-lt128
returns-then-left-lt128 c = Counts-end c.args.out.now.items c.args.at c.args.count c.loop-i.i c.loop-i.out.items _ c.loop-i.left c.loop-i.invariant (omega arith) (omega arith) refl

pub loop-i-preserved : goal.loop-i-preserved
loop-i-preserved c = Counts-step c.args.out.now.items c.args.at c.args.count c.loop-i.i c.loop-i.out.items c.insert.new.self.items c.loop-i.left c.loop-i.invariant (omega arith) (omega arith) c.in_ok-insert.ensures.items

pub returns : goal.returns
returns c = Counts-last c.args.out.now.items c.args.at c.args.count c.loop-i.i c.loop-i.out.items _ c.loop-i.left c.loop-i.invariant (omega arith) refl
