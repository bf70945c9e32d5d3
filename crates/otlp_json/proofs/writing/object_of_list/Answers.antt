use Rattle.std.proofs.Common.{codes, [], ◌∷◌, map}
use Rattle.serde_json.specs.Data.{object}
use Rattle.otlp_json.specs.Writing.{list_field, fields}
use Rattle.otlp_json.proofs.Adding.{one-added, field-added}
use Rattle.otlp_json.proofs.writing.object_of_list.Goals as goal

pub returns-clause-fields : goal.returns-clause-fields
returns-clause-fields g c =
    let inner = field-added (codes "values") (list_field (map g.T.Written.fields c.args.items.now)) c.key.new.self c.begin_object-2.new.self c.list.new.out c.end_object.new.self
    (c.begin_object-2.ensures.room.0, c.in_ok-begin_object-2.ensures.ok) (rw c.as_slice.ensures at c.in_ok-list.ensures.field) (c.end_object.ensures.room.0, c.in_ok-end_object.ensures.ok) in
    one-added c.args.key.now (object (fields ((codes "values", list_field (map g.T.Written.fields c.args.items.now)) ∷ []))) c.args.out.now c.begin_object.new.self c.key.new.self c.end_object.new.self c.end_object-2.new.self
    (c.begin_object.ensures.room.0, c.in_ok-begin_object.ensures.ok) (c.key.ensures.room.0, c.in_ok-key.ensures.ok) inner (c.end_object-2.ensures.room.0, c.in_ok-end_object-2.ensures.ok)

pub returns-clause-back : goal.returns-clause-back
returns-clause-back g c = rw c.as_slice.ensures at c.in_ok-list.ensures.back
