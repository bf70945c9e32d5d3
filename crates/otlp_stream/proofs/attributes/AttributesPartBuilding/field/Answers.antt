use Rattle.otlp_stream.proofs.Named.{put_at, put_token_at}
use Rattle.otlp_stream.proofs.attributes.AttributesPartBuilding.field.Goals as goal

pub returns-in-attributes : goal.returns-in-attributes
returns-in-attributes c = put_at _ _ _ _ _ _ _ _ _ _ c.put.ensures c.in-attributes.is c.attributes.ensures (λ seen o e s. (e, s.1))

pub returns-in-droppedAttributesCount : goal.returns-in-droppedAttributesCount
returns-in-droppedAttributesCount c = put_token_at _ _ _ _ _ _ _ _ _ _ c.put-in-droppedAttributesCount.ensures c.in-droppedAttributesCount.is c.number_u32.ensures (λ seen o e s. (s.0, e))
