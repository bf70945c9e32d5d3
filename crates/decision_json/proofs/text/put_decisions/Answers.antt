use Rattle.decision_json.proofs.Appended.{puts-one, puts-then}
use Rattle.decision_json.proofs.text.put_decisions.Goals as goal

pub returns-clause-tokens : goal.returns-clause-tokens
returns-clause-tokens c =
    let last = c.end_object.result in
    let new = c.end_object.new.self in
    puts-then last c.args.writer.now c.begin_object.new.self new _ _ c.in_ok-begin_object.ensures.ok c.in_ok-begin_object.ensures.room.0
    (puts-then last c.begin_object.new.self c.put_count.new.writer new _ _ c.in_ok-put_count.ensures.tokens.all.0 c.in_ok-put_count.ensures.tokens.all.1
    (puts-then last c.put_count.new.writer c.put_count-2.new.writer new _ _ c.in_ok-put_count-2.ensures.tokens.all.0 c.in_ok-put_count-2.ensures.tokens.all.1
    (puts-then last c.put_count-2.new.writer c.key.new.self new _ _ c.in_ok-key.ensures.ok c.in_ok-key.ensures.room.0
    (puts-then last c.key.new.self c.begin_array.new.self new _ _ c.in_ok-begin_array.ensures.ok c.in_ok-begin_array.ensures.room.0
    (puts-then last c.begin_array.new.self c.put_all.new.writer new _ _ c.in_ok-put_all.ensures.tokens.all.0 c.in_ok-put_all.ensures.tokens.all.1
    (puts-one last c.put_all.new.writer new _ c.end_object.ensures))))))
