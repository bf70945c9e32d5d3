use Rattle.std.proofs.Common.{refl, sym, ◌∙◌}
use Rattle.otlp_protobuf_encode.proofs.Decoded.{base64_is}
use Rattle.span_block.proofs.Texts.{base64_refused}
use Rattle.span_block.proofs.kinds.base64_bytes.Goals as goal

pub returns-in-Ok-clause-bytes : goal.returns-in-Ok-clause-bytes
returns-in-Ok-clause-bytes c = base64_is c.args.text.now c.as_bytes.result.now c.in-Ok.bytes.items (c.as_bytes.ensures.value ∙ c.as_str.ensures) c.in-Ok.ensures.ok

pub returns-in-Err-DecodeError-clause-refused : goal.returns-in-Err-DecodeError-clause-refused
returns-in-Err-DecodeError-clause-refused c = base64_refused c.args.text.now c.as_bytes.result.now c.in-Err-DecodeError.field-0-0 (c.as_bytes.ensures.value ∙ c.as_str.ensures) (rw c.in-Err-DecodeError.field-0-is at c.in-Err-DecodeError.ensures.err)

pub returns-in-Ok-clause-back : goal.returns-in-Ok-clause-back
returns-in-Ok-clause-back c = sym (c.in-Ok.ensures.exact (refl, refl)) ∙ (c.as_bytes.ensures.value ∙ c.as_str.ensures)
