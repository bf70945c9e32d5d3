use Rattle.otlp_protobuf_encode.specs.Writing.{span_fields}
use Rattle.span_block.proofs.Found.{status_fields_read}
use Rattle.span_block.proofs.block.SpanBlock.status.Goals as goal

pub returns-clause-fields : goal.returns-clause-fields
returns-clause-fields c =
    let s = c.args.self.now in
    status_fields_read s c.bytes_at.result.now c.message.ensures.holds.parts.status (c.bytes_at.ensures.found (span_fields s) c.message.ensures.fields) c.bytes_at.ensures.room
