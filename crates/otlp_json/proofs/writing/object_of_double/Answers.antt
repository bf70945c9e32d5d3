use Rattle.std.proofs.Common.{codes}
use Rattle.otlp_json.specs.Writing.{double_data}
use Rattle.otlp_json.proofs.Adding.{one-added}
use Rattle.otlp_json.proofs.writing.object_of_double.Goals as goal

pub returns-clause-fields : goal.returns-clause-fields
returns-clause-fields c =
    one-added (codes "doubleValue") (double_data c.args.x.now) c.args.out.now c.begin_object.new.self c.key.new.self c.double.new.out c.end_object.new.self
    (c.begin_object.ensures.room.0, c.in_ok-begin_object.ensures.ok) (c.key.ensures.room.0, c.in_ok-key.ensures.ok) c.in_ok-double.ensures.data (c.end_object.ensures.room.0, c.in_ok-end_object.ensures.ok)
