use Rattle.std.proofs.Common.{◌∙◌, sym, subst}
use Rattle.std.specs.Str.{IsUtf8}
use Rattle.otlp_protobuf_encode.specs.Writing.{span_fields}
use Rattle.span_block.proofs.Found.{name_found}
use Rattle.span_block.proofs.block.SpanBlock.name.Goals as goal

pub returns-clause-name : goal.returns-clause-name
returns-clause-name c =
    let s = c.args.self.now in
    c.bytes_at.ensures.found (span_fields s) c.message.ensures.fields ∙ name_found s

pub returns-clause-text : goal.returns-clause-text
returns-clause-text c =
    let s = c.args.self.now in
    subst IsUtf8 (sym (c.bytes_at.ensures.found (span_fields s) c.message.ensures.fields ∙ name_found s)) c.message.ensures.holds.head.name
