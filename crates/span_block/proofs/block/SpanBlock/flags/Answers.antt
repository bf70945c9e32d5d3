use Rattle.std.proofs.Common.{◌∙◌}
use Rattle.otlp_protobuf_encode.specs.Writing.{span_fields}
use Rattle.span_block.proofs.Found.{flags_found}
use Rattle.span_block.proofs.block.SpanBlock.flags.Goals as goal

pub returns : goal.returns
returns c =
    let s = c.args.self.now in
    c.fixed32_at.ensures (span_fields s) c.message.ensures.fields ∙ flags_found s
