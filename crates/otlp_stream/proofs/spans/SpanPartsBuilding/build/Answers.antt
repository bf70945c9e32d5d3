use Rattle.otlp_stream.proofs.Built.{ids_built, attributes_of}
use Rattle.otlp_reading.proofs.Spans.{span_of}
use Rattle.otlp_stream.proofs.spans.SpanPartsBuilding.build.Goals as goal

pub returns : goal.returns
returns c = λ keeps_doubles ms s. span_of keeps_doubles _ ms (record {
  ids = ids_built ms c.args.self.trace c.args.self.id c.args.self.parent c.valid_ids-span.result s.0 s.1 s.2 c.valid_ids-span.ensures;
  state = s.3;
  flags = s.4;
  name = s.5;
  kind = s.6;
  start = s.7;
  end = s.8;
  events = s.9;
  dropped_events = s.10;
  links = s.11;
  dropped_links = s.12;
  status = s.13;
  all = attributes_of keeps_doubles ms c.build-rest.result (c.build-rest.ensures keeps_doubles ms s.14);
})
