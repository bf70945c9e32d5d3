use Rattle.std.proofs.Common.{◌∙◌, ap}
use Rattle.otlp_protobuf_encode.specs.Writing.{span_fields}
use Rattle.otlp_protobuf.specs.Kinds.{int32}
use Rattle.span_block.proofs.Found.{signed_again, kind_found}
use Rattle.span_block.proofs.block.SpanBlock.kind.Goals as goal

pub returns : goal.returns
returns c =
    let s = c.args.self.now in
    signed_again c.int32.result s.kind (c.int32.ensures ∙ ap int32 (c.number_at.ensures (span_fields s) c.message.ensures.fields) ∙ kind_found s c.message.ensures.holds) c.message.ensures.holds.times.kind
