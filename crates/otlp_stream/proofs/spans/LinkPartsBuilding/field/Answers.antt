use Rattle.otlp_stream.proofs.Named.{put_token_at}
use Rattle.otlp_stream.proofs.spans.LinkPartsBuilding.field.Goals as goal

pub returns-in-traceId : goal.returns-in-traceId
returns-in-traceId c = put_token_at _ _ _ _ _ _ _ _ _ _ c.put.ensures c.in-traceId.is c.text.ensures (λ seen o e s. (e, s.1, s.2, s.3, s.4))

pub returns-in-spanId : goal.returns-in-spanId
returns-in-spanId c = put_token_at _ _ _ _ _ _ _ _ _ _ c.put-in-spanId.ensures c.in-spanId.is c.text-in-spanId.ensures (λ seen o e s. (s.0, e, s.2, s.3, s.4))

pub returns-in-traceState : goal.returns-in-traceState
returns-in-traceState c = put_token_at _ _ _ _ _ _ _ _ _ _ c.put-in-traceState.ensures c.in-traceState.is c.text-in-traceState.ensures (λ seen o e s. (s.0, s.1, e, s.3, s.4))

pub returns-in-flags : goal.returns-in-flags
returns-in-flags c = put_token_at _ _ _ _ _ _ _ _ _ _ c.put-in-flags.ensures c.in-flags.is c.number_u32.ensures (λ seen o e s. (s.0, s.1, s.2, e, s.4))
