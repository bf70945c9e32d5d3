use Rattle.std.proofs.Common.{◌<◌, ◌^◌, refl, rules}
use Rattle.json.proofs.Printed.Decimals.{IsNumber-decimal}
use Rattle.decision_line.specs.Line.{count}
use Rattle.comparison_text.proofs.Appended.{member-of, value-one}
use Rattle.comparison_text.proofs.putting.put_number.Goals as goal

pub returns : goal.returns
returns c =
    let fits : c.args.number < 2 ^ 64 = search rules in
    member-of c.u64.result c.args.out.now c.key.new.self c.u64.new.self _ _ c.in_ok-key.ensures.ok c.in_ok-key.ensures.room.0
    (value-one c.u64.result c.key.new.self c.u64.new.self (count c.args.number) _ refl (IsNumber-decimal c.args.number fits) c.u64.ensures)
