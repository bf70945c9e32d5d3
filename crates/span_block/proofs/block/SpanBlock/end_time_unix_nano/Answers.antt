use Rattle.std.proofs.Common.{◌∙◌}
use Rattle.otlp_protobuf_encode.specs.Writing.{span_fields}
use Rattle.span_block.proofs.Found.{end_found}
use Rattle.span_block.proofs.block.SpanBlock.end_time_unix_nano.Goals as goal

pub returns : goal.returns
returns c =
    let s = c.args.self.now in
    c.fixed64_at.ensures (span_fields s) c.message.ensures.fields ∙ end_found s
