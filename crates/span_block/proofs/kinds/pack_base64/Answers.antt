use Rattle.otlp_protobuf_encode.proofs.Decoded.{base64_back}
use Rattle.span_block.proofs.kinds.pack_base64.Goals as goal

pub returns-clause-back : goal.returns-clause-back
returns-clause-back c = base64_back c.args.text.now c.in_ok-held.held.items c.in_ok-held.ensures.bytes c.in_ok-held.ensures.back
