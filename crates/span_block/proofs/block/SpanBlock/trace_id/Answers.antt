use Rattle.std.proofs.Common.{◌∙◌, ap}
use Rattle.otlp_protobuf_encode.specs.Writing.{span_fields}
use Rattle.span_ids.specs.Id.{id_from}
use Rattle.span_block.proofs.Found.{trace_found}
use Rattle.span_block.proofs.block.SpanBlock.trace_id.Goals as goal

pub returns : goal.returns
returns c =
    let s = c.args.self.now in
    c.from_bytes.ensures ∙ ap (id_from 16) (c.bytes_at.ensures.found (span_fields s) c.message.ensures.fields) ∙ trace_found s c.message.ensures.fits.ids
