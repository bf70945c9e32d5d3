use Rattle.otlp_stream.proofs.Named.{put_token_at}
use Rattle.otlp_stream.proofs.requests.ScopePartsBuilding.field.Goals as goal

pub returns-in-name : goal.returns-in-name
returns-in-name c = put_token_at _ _ _ _ _ _ _ _ _ _ c.put.ensures c.in-name.is c.text.ensures (λ seen o e s. (e, s.1, s.2))

pub returns-in-version : goal.returns-in-version
returns-in-version c = put_token_at _ _ _ _ _ _ _ _ _ _ c.put-in-version.ensures c.in-version.is c.text-in-version.ensures (λ seen o e s. (s.0, e, s.2))
