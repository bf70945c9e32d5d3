use Rattle.std.proofs.Common.{◌∙◌, ap, sym}
use Rattle.otlp_protobuf.specs.Kinds.{merged}
use Rattle.otlp_protobuf.specs.Reading.{request_step}
use Rattle.otlp_protobuf.proofs.RequestNests.{request_nests}
use Rattle.otlp_protobuf.proofs.decode.Goals as goal

pub returns-clause-nesting : goal.returns-clause-nesting
returns-clause-nesting c =
    request_nests c.args.keeps_doubles c.args.bytes.now c.merge.new.built
    (ap (λ p. merged (request_step c.args.keeps_doubles) p c.args.bytes.now) (sym c.start-request.ensures) ∙ c.in_ok-merge.ensures)
