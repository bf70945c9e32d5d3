use Rattle.decision_json.proofs.Appended.{puts-one, puts-then}
use Rattle.decision_json.proofs.putting.put_text.Goals as goal

pub returns : goal.returns
returns c =
    puts-then c.string.result c.args.writer.now c.key.new.self c.string.new.self _ _ c.in_ok-key.ensures.ok c.in_ok-key.ensures.room.0
    (puts-one c.string.result c.key.new.self c.string.new.self _ c.string.ensures)
