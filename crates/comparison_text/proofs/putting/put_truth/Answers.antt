use Rattle.std.proofs.Common.{refl}
use Rattle.json.specs.Json.{boolean}
use Rattle.comparison_text.proofs.Appended.{member-of, value-one}
use Rattle.comparison_text.proofs.putting.put_truth.Goals as goal

pub returns : goal.returns
returns c =
    member-of c.boolean.result c.args.out.now c.key.new.self c.boolean.new.self _ _ c.in_ok-key.ensures.ok c.in_ok-key.ensures.room.0
    (value-one c.boolean.result c.key.new.self c.boolean.new.self (boolean c.args.truth) _ refl tt c.boolean.ensures)
