use Rattle.std.proofs.Common.{◌∙◌, sym, subst}
use Rattle.std.specs.Str.{IsUtf8}
use Rattle.otlp_protobuf_encode.specs.Writing.{span_fields}
use Rattle.span_block.proofs.Found.{state_found}
use Rattle.span_block.proofs.block.SpanBlock.trace_state.Goals as goal

pub returns-clause-state : goal.returns-clause-state
returns-clause-state c =
    let s = c.args.self.now in
    c.bytes_at.ensures.found (span_fields s) c.message.ensures.fields ∙ state_found s

pub returns-clause-text : goal.returns-clause-text
returns-clause-text c =
    let s = c.args.self.now in
    subst IsUtf8 (sym (c.bytes_at.ensures.found (span_fields s) c.message.ensures.fields ∙ state_found s)) c.message.ensures.holds.head.trace_state
