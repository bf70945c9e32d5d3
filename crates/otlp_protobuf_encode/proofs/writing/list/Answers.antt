use Rattle.std.proofs.Common.{refl, sym}
use Rattle.std.proofs.lemmas.Result.{err_from_is_err_and}
use Rattle.protobuf_writer.proofs.Adding.{nothing}
use Rattle.otlp_protobuf_encode.proofs.Lists.{one-more, none-more, tells-here, all-more, all-done}
use Rattle.otlp_protobuf_encode.proofs.writing.list.Goals as goal

pub loop-item-init : goal.loop-item-init
loop-item-init g c = record {
  written = nothing c.args.out.now.items;
  none = refl;
  back = tt;
}

pub loop-item-preserved : goal.loop-item-preserved
loop-item-preserved g c = record {
  written = one-more g.T.Written.fields c.args.number c.as_slice-all.result.now c.loop-item.item-index c.item-item.result c.args.out.now.items c.loop-item.out.items c.message.new.out.items c.loop-item.invariant.written c.loop-item-test.true c.item-item.is c.in_ok-message.ensures.bytes;
  none = none-more g.T.Written.fault c.as_slice-all.result.now c.loop-item.item-index c.item-item.result c.loop-item.invariant.none c.loop-item-test.true c.item-item.is c.in_ok-message.ensures.writable;
  back = all-more g.T.Written.reads_back c.as_slice-all.result.now c.loop-item.item-index c.item-item.result c.loop-item.invariant.back c.loop-item-test.true c.item-item.is c.in_ok-message.ensures.back;
}

pub returns-in_err-message-clause-fault : goal.returns-in_err-message-clause-fault
returns-in_err-message-clause-fault g c =
    let p = err_from_is_err_and c.from_residual.result c.from_residual.ensures.1 in
    rw (p.1, p.2, sym c.as_slice-all.ensures) (tells-here g.T.Written.fault c.as_slice-all.result.now c.loop-item.item-index c.item-item.result c.in_err-message.field-0.0 c.loop-item.invariant.none c.loop-item-test.true c.item-item.is c.in_err-message.ensures.fault)

pub returns-clause-back : goal.returns-clause-back
returns-clause-back g c = rw (sym c.as_slice-all.ensures) (all-done g.T.Written.reads_back c.as_slice-all.result.now c.loop-item.item-index c.loop-item-test.false c.loop-item.invariant.back)
