use Rattle.std.proofs.Common.{rules}
use Rattle.otlp_stream.proofs.spans.SpanPartsBuilding.start.Goals as goal

pub returns : goal.returns
returns c keeps_doubles = search (rules, c.start.ensures keeps_doubles)
