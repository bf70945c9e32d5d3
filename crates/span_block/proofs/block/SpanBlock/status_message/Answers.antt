use Rattle.std.proofs.Common.{◌∙◌, sym, subst}
use Rattle.std.specs.Str.{IsUtf8}
use Rattle.otlp_protobuf_encode.specs.Writing.{status_fields}
use Rattle.span_block.proofs.Found.{status_message_found}
use Rattle.span_block.proofs.block.SpanBlock.status_message.Goals as goal

pub returns-clause-message : goal.returns-clause-message
returns-clause-message c =
    let s = c.args.self.now.status in
    c.bytes_at.ensures.found (status_fields s) c.status.ensures.fields ∙ status_message_found s

pub returns-clause-text : goal.returns-clause-text
returns-clause-text c =
    let s = c.args.self.now.status in
    subst IsUtf8 (sym (c.bytes_at.ensures.found (status_fields s) c.status.ensures.fields ∙ status_message_found s)) c.status.ensures.holds.message
