use Rattle.decision_json.proofs.Appended.{puts-one, puts-then}
use Rattle.decision_json.proofs.putting.put_count.Goals as goal

pub returns-clause-tokens : goal.returns-clause-tokens
returns-clause-tokens c =
    puts-then c.u64.result c.args.writer.now c.key.new.self c.u64.new.self _ _ c.in_ok-key.ensures.ok c.in_ok-key.ensures.room.0
    (puts-one c.u64.result c.key.new.self c.u64.new.self _ c.u64.ensures)
