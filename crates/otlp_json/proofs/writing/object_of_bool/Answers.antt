use Rattle.std.proofs.Common.{codes}
use Rattle.serde_json.specs.Data.{boolean}
use Rattle.otlp_json.proofs.Adding.{one-added}
use Rattle.otlp_json.proofs.writing.object_of_bool.Goals as goal

pub returns : goal.returns
returns c = one-added (codes "boolValue") (boolean c.args.b.now) c.args.out.now c.begin_object.new.self c.key.new.self c.boolean.new.self c.end_object.new.self
    (c.begin_object.ensures.room.0, c.in_ok-begin_object.ensures.ok) (c.key.ensures.room.0, c.in_ok-key.ensures.ok) (c.boolean.ensures.room.0, c.in_ok-boolean.ensures.ok) (c.end_object.ensures.room.0, c.in_ok-end_object.ensures.ok)
