use Rattle.otlp_stream.proofs.Named.{put_at}
use Rattle.otlp_stream.proofs.requests.RequestBuilding.field.Goals as goal

pub returns-in-resourceSpans : goal.returns-in-resourceSpans
returns-in-resourceSpans c = put_at _ _ _ _ _ _ _ _ _ _ c.put.ensures c.in-resourceSpans.is c.list_of.ensures (λ seen o e s. e)
