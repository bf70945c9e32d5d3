use Rattle.std.proofs.Common.{◌∙◌}
use Rattle.otlp_protobuf_encode.proofs.Decoded.{hex_is}
use Rattle.span_block.proofs.Texts.{hex_refused}
use Rattle.span_block.proofs.kinds.hex_bytes.Goals as goal

pub returns-in-Ok-clause-bytes : goal.returns-in-Ok-clause-bytes
returns-in-Ok-clause-bytes c = hex_is c.args.text.now c.as_bytes.result.now c.in-Ok.bytes.items (c.as_bytes.ensures.value ∙ c.as_str.ensures) c.in-Ok.ensures.ok

pub returns-in_default : goal.returns-in_default
returns-in_default c = record {
  bytes = tt;
  refused = hex_refused c.args.text.now c.as_bytes.result.now c.in-Err.error (c.as_bytes.ensures.value ∙ c.as_str.ensures) c.in_default.not-OutOfMemory c.in-Err.ensures.err;
}
