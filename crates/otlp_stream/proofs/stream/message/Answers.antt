use Rattle.std.proofs.lemmas.Result.{IfOk-weaker}
use Rattle.otlp_stream.proofs.Streaming.{message_object, inner_object}
use Rattle.otlp_stream.proofs.stream.message.Goals as goal

pub returns-clause-item : goal.returns-clause-item
returns-clause-item g c =
    IfOk-weaker c.members.result _ _ (λ x m. message_object (g.B.Building.meaning c.args.keeps_doubles) x c.args.depth _ _ _ c.in_ok-begin_object.ensures.deep c.in_ok-begin_object.ensures.begins m) c.members.ensures

pub returns-clause-field : goal.returns-clause-field
returns-clause-field g c =
    IfOk-weaker c.members.result _ _ (λ x m. inner_object (g.B.Building.meaning c.args.keeps_doubles) x c.args.depth _ _ _ c.in_ok-begin_object.ensures.deep c.in_ok-begin_object.ensures.begins m) c.members.ensures
