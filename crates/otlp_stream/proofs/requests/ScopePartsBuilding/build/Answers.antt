use Rattle.std.proofs.Common.{refl}
use Rattle.otlp_stream.proofs.Built.{attributes_of}
use Rattle.otlp_stream.proofs.requests.ScopePartsBuilding.build.Goals as goal

pub returns : goal.returns
returns c = λ keeps_doubles ms s. rw (s.0, s.1, attributes_of keeps_doubles ms c.build-rest.result (c.build-rest.ensures keeps_doubles ms s.2)) refl
