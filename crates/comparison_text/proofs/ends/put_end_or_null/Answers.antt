use Rattle.std.proofs.Common.{ap, map, refl, string_bytes, sym}
use Rattle.json.specs.Json.{null}
use Rattle.comparison_text.specs.Value.{end_or_null}
use Rattle.comparison_text.proofs.Appended.{member-of, puts-member-as, value-one}
use Rattle.comparison_text.proofs.ends.put_end_or_null.Goals as goal

pub returns-in-Some : goal.returns-in-Some
returns-in-Some c =
    puts-member-as c.put_end.result c.args.out.now c.put_end.new.out c.args.member.now _ _ (ap (end_or_null (map string_bytes c.args.names.now)) (sym c.in-Some.is))
    (member-of c.put_end.result c.args.out.now c.key.new.self c.put_end.new.out _ _ c.in_ok-key.ensures.ok c.in_ok-key.ensures.room.0 c.put_end.ensures)

pub returns-in-None : goal.returns-in-None
returns-in-None c =
    puts-member-as c.null.result c.args.out.now c.null.new.self c.args.member.now _ _ (ap (end_or_null (map string_bytes c.args.names.now)) (sym c.in-None.is))
    (member-of c.null.result c.args.out.now c.key.new.self c.null.new.self _ _ c.in_ok-key.ensures.ok c.in_ok-key.ensures.room.0
    (value-one c.null.result c.key.new.self c.null.new.self null _ refl tt c.null.ensures))
