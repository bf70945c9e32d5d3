use Rattle.otlp_stream.proofs.Named.{put_at, put_token_at}
use Rattle.otlp_stream.proofs.requests.ScopeSpansBuilding.field.Goals as goal

pub returns-in-scope : goal.returns-in-scope
returns-in-scope c = put_at _ _ _ _ _ _ _ _ _ _ c.put.ensures c.in-scope.is c.message.ensures.field (λ seen o e s. (e, s.1, s.2))

pub returns-in-spans : goal.returns-in-spans
returns-in-spans c = put_at _ _ _ _ _ _ _ _ _ _ c.put-in-spans.ensures c.in-spans.is c.list_of.ensures (λ seen o e s. (s.0, e, s.2))

pub returns-in-schemaUrl : goal.returns-in-schemaUrl
returns-in-schemaUrl c = put_token_at _ _ _ _ _ _ _ _ _ _ c.put-in-schemaUrl.ensures c.in-schemaUrl.is c.text.ensures (λ seen o e s. (s.0, s.1, e))
