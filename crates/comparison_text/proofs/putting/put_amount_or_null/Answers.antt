use Rattle.std.proofs.Common.{ap, refl, sym}
use Rattle.json.specs.Json.{null}
use Rattle.comparison_text.specs.Value.{amount_or_null}
use Rattle.comparison_text.proofs.Appended.{member-of, puts-member-as, value-one}
use Rattle.comparison_text.proofs.putting.put_amount_or_null.Goals as goal

pub returns-in-Some : goal.returns-in-Some
returns-in-Some c =
    let last = c.put_amount_value.result in
    let new = c.put_amount_value.new.out in
    puts-member-as last c.args.out.now new c.args.name.now _ _ (ap amount_or_null (sym c.in-Some.is))
    (member-of last c.args.out.now c.key.new.self new _ _ c.in_ok-key.ensures.ok c.in_ok-key.ensures.room.0 c.put_amount_value.ensures)

pub returns-in-None : goal.returns-in-None
returns-in-None c =
    puts-member-as c.null.result c.args.out.now c.null.new.self c.args.name.now _ _ (ap amount_or_null (sym c.in-None.is))
    (member-of c.null.result c.args.out.now c.key.new.self c.null.new.self _ _ c.in_ok-key.ensures.ok c.in_ok-key.ensures.room.0
    (value-one c.null.result c.key.new.self c.null.new.self null _ refl tt c.null.ensures))
