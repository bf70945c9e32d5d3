use Rattle.std.proofs.Common.{codes}
use Rattle.otlp_json.specs.Writing.{double_data}
use Rattle.span_size.proofs.Objects.{one-added}
use Rattle.span_size.proofs.counting.object_of_double.Goals as goal

pub returns : goal.returns
returns c = one-added (codes "doubleValue") (double_data c.args.x.now) c.begin_nested.ensures.object c.key.ensures c.double.ensures c.end_nested.ensures.object
