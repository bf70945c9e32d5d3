use Rattle.std.proofs.Common.{◌∙◌, ap}
use Rattle.otlp_protobuf.specs.Kinds.{int32}
use Rattle.otlp_protobuf_encode.specs.Writing.{status_fields}
use Rattle.span_block.proofs.Found.{signed_again, code_found}
use Rattle.span_block.proofs.block.SpanBlock.status_code.Goals as goal

pub returns : goal.returns
returns c =
    let s = c.args.self.now.status in
    signed_again c.int32.result s.code (c.int32.ensures ∙ ap int32 (c.number_at.ensures (status_fields s) c.status.ensures.fields) ∙ code_found s c.status.ensures.holds.code) c.status.ensures.holds.code
