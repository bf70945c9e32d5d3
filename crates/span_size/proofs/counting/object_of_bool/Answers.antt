use Rattle.std.proofs.Common.{codes}
use Rattle.serde_json.specs.Data.{boolean}
use Rattle.span_size.proofs.Objects.{one-added}
use Rattle.span_size.proofs.counting.object_of_bool.Goals as goal

pub returns : goal.returns
returns c = one-added (codes "boolValue") (boolean c.args.b) c.begin_nested.ensures.object c.key.ensures c.boolean.ensures c.end_nested.ensures.object
