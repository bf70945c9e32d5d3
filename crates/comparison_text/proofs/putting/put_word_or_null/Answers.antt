use Rattle.std.proofs.Common.{List, ℕ, Bor, ap, refl, sym}
use Rattle.std.specs.Prelude.{Option, option_map}
use Rattle.json.specs.Json.{null, string}
use Rattle.decision_line.specs.Line.{name_or_null}
use Rattle.comparison_text.proofs.Appended.{member-of, puts-member-as, value-one}
use Rattle.comparison_text.proofs.putting.put_word_or_null.Goals as goal

pub returns-in-Some : goal.returns-in-Some
returns-in-Some c =
    puts-member-as c.string.result c.args.out.now c.string.new.self c.args.name.now _ _ (ap (λ (t : Option (Bor (List ℕ))). name_or_null (option_map (λ x. x.now) t)) (sym c.in-Some.is))
    (member-of c.string.result c.args.out.now c.key.new.self c.string.new.self _ _ c.in_ok-key.ensures.ok c.in_ok-key.ensures.room.0
    (value-one c.string.result c.key.new.self c.string.new.self (string c.in-Some.text.now) _ refl tt c.string.ensures))

pub returns-in-None : goal.returns-in-None
returns-in-None c =
    puts-member-as c.null.result c.args.out.now c.null.new.self c.args.name.now _ _ (ap (λ (t : Option (Bor (List ℕ))). name_or_null (option_map (λ x. x.now) t)) (sym c.in-None.is))
    (member-of c.null.result c.args.out.now c.key.new.self c.null.new.self _ _ c.in_ok-key.ensures.ok c.in_ok-key.ensures.room.0
    (value-one c.null.result c.key.new.self c.null.new.self null _ refl tt c.null.ensures))
