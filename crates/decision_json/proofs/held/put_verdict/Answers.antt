use Rattle.decision_json.proofs.Appended.{puts-one, puts-then, text-as}
use Rattle.decision_json.proofs.held.put_verdict.Goals as goal

pub returns : goal.returns
returns c =
    let last = c.end_object.result in
    let new = c.end_object.new.self in
    puts-then last c.args.writer.now c.begin_state.new.writer new _ _ c.in_ok-begin_state.ensures.all.0 c.in_ok-begin_state.ensures.all.1
    (puts-then last c.begin_state.new.writer c.put_text.new.writer new _ _ (text-as _ _ _ _ _ c.kept_word.ensures c.in_ok-put_text.ensures.all.0) c.in_ok-put_text.ensures.all.1
    (puts-one last c.put_text.new.writer new _ c.end_object.ensures))
