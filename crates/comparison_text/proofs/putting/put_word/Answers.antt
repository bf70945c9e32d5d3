use Rattle.std.proofs.Common.{refl}
use Rattle.json.specs.Json.{string}
use Rattle.comparison_text.proofs.Appended.{member-of, value-one}
use Rattle.comparison_text.proofs.putting.put_word.Goals as goal

pub returns : goal.returns
returns c =
    member-of c.string.result c.args.out.now c.key.new.self c.string.new.self _ _ c.in_ok-key.ensures.ok c.in_ok-key.ensures.room.0
    (value-one c.string.result c.key.new.self c.string.new.self (string c.args.text.now) _ refl tt c.string.ensures)
