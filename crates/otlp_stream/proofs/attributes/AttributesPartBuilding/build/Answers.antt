use Rattle.std.proofs.Common.{refl}
use Rattle.otlp_stream.proofs.Built.{attributes_built}
use Rattle.otlp_stream.proofs.attributes.AttributesPartBuilding.build.Goals as goal

pub returns : goal.returns
returns c = λ keeps_doubles ms s. rw (attributes_built keeps_doubles ms c.args.self.attributes c.args.self.counted _ s.0 s.1 c.dropped-dropped_attributes_count.ensures) refl
