use Rattle.std.proofs.Common.{codes, [], ◌∷◌, map}
use Rattle.serde_json.specs.Data.{object}
use Rattle.otlp_json.specs.Writing.{list_field, fields}
use Rattle.span_size.proofs.Objects.{one-added, field-added}
use Rattle.span_size.proofs.counting.object_of_list.Goals as goal

pub returns : goal.returns
returns g c =
    let items = list_field (map g.T.HasSize.fields c.args.items.now) in
    let inner = field-added (codes "values") items c.begin_nested-2.ensures.object (rw c.as_slice.ensures at c.list.ensures) c.end_nested.ensures.object in
    one-added c.args.key.now (object (fields ((codes "values", items) ∷ []))) c.begin_nested.ensures.object c.key.ensures inner c.end_nested-2.ensures.object
