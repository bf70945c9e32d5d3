use Rattle.std.proofs.Common.{◌∙◌}
use Rattle.otlp_protobuf_encode.specs.Writing.{pair_fields}
use Rattle.span_block.proofs.PairsLeft.{key_found, value_shown}
use Rattle.span_block.proofs.shown.attribute.Goals as goal

pub returns : goal.returns
returns c = λ p read holds. record {
  key = c.bytes_at.ensures.found (pair_fields p) read ∙ key_found p;
  value = value_shown p c.bytes_at-2.result.now c.scalar.result holds (c.bytes_at-2.ensures.found (pair_fields p) read) c.bytes_at-2.ensures.room c.scalar.ensures;
}
