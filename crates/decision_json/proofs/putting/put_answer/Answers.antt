use Rattle.decision_json.proofs.Appended.{puts-one, puts-then, text-as}
use Rattle.decision_json.proofs.putting.put_answer.Goals as goal

pub returns : goal.returns
returns c =
    let last = c.end_object.result in
    let new = c.end_object.new.self in
    puts-then last c.args.writer.now c.begin_object.new.self new _ _ c.in_ok-begin_object.ensures.ok c.in_ok-begin_object.ensures.room.0
    (puts-then last c.begin_object.new.self c.put_text.new.writer new _ _ c.in_ok-put_text.ensures.all.0 c.in_ok-put_text.ensures.all.1
    (puts-then last c.put_text.new.writer c.put_text-2.new.writer new _ _ (text-as _ _ _ _ _ c.answer_word.ensures c.in_ok-put_text-2.ensures.all.0) c.in_ok-put_text-2.ensures.all.1
    (puts-one last c.put_text-2.new.writer new _ c.end_object.ensures)))
