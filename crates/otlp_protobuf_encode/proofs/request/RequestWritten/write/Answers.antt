use Rattle.otlp_protobuf_encode.proofs.RequestsBack.{request-back}
use Rattle.otlp_protobuf_encode.proofs.request.RequestWritten.write.Goals as goal

pub returns-clause-back : goal.returns-clause-back
returns-clause-back c = request-back c.args.self.now c.in_ok-list.ensures.back
