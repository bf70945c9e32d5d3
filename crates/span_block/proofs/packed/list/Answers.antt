use Rattle.std.proofs.Common.{sym}
use Rattle.std.proofs.lemmas.Result.{err_from_is_err_and}
use Rattle.protobuf_writer.proofs.Adding.{nothing}
use Rattle.otlp_protobuf_encode.proofs.Lists.{one-more, all-more}
use Rattle.span_block.proofs.Lists.{refused_here}
use Rattle.span_block.proofs.packed.list.Goals as goal

pub loop-item-init : goal.loop-item-init
loop-item-init g c = record { written = nothing c.args.out.now.items; fits = tt; holds = tt; typed = tt }

pub loop-item-preserved : goal.loop-item-preserved
loop-item-preserved g c = record {
  written = one-more g.T.Packed.fields c.args.number c.as_slice-all.result.now c.loop-item.item-index c.item-item.result c.args.out.now.items c.loop-item.out.items c.message.new.out.items c.loop-item.invariant.written c.loop-item-test.true c.item-item.is c.in_ok-message.ensures.bytes;
  fits = all-more (g.T.Packed.fits c.args.levels) c.as_slice-all.result.now c.loop-item.item-index c.item-item.result c.loop-item.invariant.fits c.loop-item-test.true c.item-item.is c.in_ok-message.ensures.fits;
  holds = all-more g.T.Packed.holds c.as_slice-all.result.now c.loop-item.item-index c.item-item.result c.loop-item.invariant.holds c.loop-item-test.true c.item-item.is c.in_ok-message.ensures.holds;
  typed = all-more (g.T.Packed.typed c.args.levels) c.as_slice-all.result.now c.loop-item.item-index c.item-item.result c.loop-item.invariant.typed c.loop-item-test.true c.item-item.is c.in_ok-message.ensures.typed;
}

pub returns-in_err-message-clause-refused : goal.returns-in_err-message-clause-refused
returns-in_err-message-clause-refused g c =
    let p = err_from_is_err_and c.from_residual.result c.from_residual.ensures.1 in
    rw (p.1, p.2, sym c.as_slice-all.ensures) (refused_here (g.T.Packed.fits c.args.levels) c.as_slice-all.result.now c.loop-item.item-index c.item-item.result c.in_err-message.field-0.0 c.loop-item-test.true c.item-item.is c.in_err-message.ensures.refused)
