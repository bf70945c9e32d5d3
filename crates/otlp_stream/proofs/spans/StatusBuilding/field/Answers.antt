use Rattle.otlp_stream.proofs.Named.{put_token_at}
use Rattle.otlp_stream.proofs.spans.StatusBuilding.field.Goals as goal

pub returns-in-message : goal.returns-in-message
returns-in-message c = put_token_at _ _ _ _ _ _ _ _ _ _ c.put.ensures c.in-message.is c.text.ensures (λ seen o e s. (e, s.1))

pub returns-in-code : goal.returns-in-code
returns-in-code c = put_token_at _ _ _ _ _ _ _ _ _ _ c.put-in-code.ensures c.in-code.is c.enumeration.ensures (λ seen o e s. (s.0, e))
