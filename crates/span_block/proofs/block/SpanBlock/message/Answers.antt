use Rattle.std.proofs.Common.{Some, Ok, ◌∙◌, ap, arith}
use Rattle.protobuf_wire.specs.Wire.{fields_of}
use Rattle.otlp_protobuf_encode.specs.Writing.{span_fields}
use Rattle.span_block.specs.Block.{span_of}
use Rattle.span_block.proofs.Blocks.{block_read, block_fields}
use Rattle.span_block.proofs.block.SpanBlock.message.Goals as goal

pub returns-clause-fields : goal.returns-clause-fields
returns-clause-fields c =
    let v = c.self.inside.bytes in
    ap fields_of c.as_slice.ensures.value ∙ block_fields v.items c.self.invariant (omega (arith, v.ok.0, v.small)) ∙ ap (λ s. Ok (span_fields s)) c.self.view_is

pub returns-clause-back : goal.returns-clause-back
returns-clause-back c =
    let v = c.self.inside.bytes in
    ap span_of c.as_slice.ensures.value ∙ block_read v.items c.self.invariant (omega (arith, v.ok.0, v.small)) ∙ ap Some c.self.view_is
