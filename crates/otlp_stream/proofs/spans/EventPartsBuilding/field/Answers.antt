use Rattle.otlp_stream.proofs.Named.{put_token_at}
use Rattle.otlp_stream.proofs.spans.EventPartsBuilding.field.Goals as goal

pub returns-in-timeUnixNano : goal.returns-in-timeUnixNano
returns-in-timeUnixNano c = put_token_at _ _ _ _ _ _ _ _ _ _ c.put.ensures c.in-timeUnixNano.is c.number_u64.ensures (λ seen o e s. (e, s.1, s.2))

pub returns-in-name : goal.returns-in-name
returns-in-name c = put_token_at _ _ _ _ _ _ _ _ _ _ c.put-in-name.ensures c.in-name.is c.text.ensures (λ seen o e s. (s.0, e, s.2))
