use Rattle.std.proofs.Common.{true, sym, ◌∙◌, ap, arith}
use Rattle.otlp_protobuf.specs.Reading.{request_of}
use Rattle.span_block.proofs.Alone.{read_alone}
use Rattle.span_block.proofs.block.SpanBlock.unpack.Goals as goal

pub returns-in-Ok : goal.returns-in-Ok
returns-in-Ok c =
    let v = c.in_ok-request.request in
    let s = c.args.self.now in
    c.only_span.ensures s
    (read_alone s v.items c.in-Ok.request c.message.ensures.fits c.message.ensures.holds (c.in_ok-request.ensures s c.message.ensures.bytes) (omega (arith, v.ok.0, v.small))
    (ap (request_of true) (sym c.as_slice.ensures.value) ∙ c.in-Ok.ensures.request))
