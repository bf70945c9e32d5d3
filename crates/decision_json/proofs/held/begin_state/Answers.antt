use Rattle.decision_json.proofs.Appended.{puts-then}
use Rattle.decision_json.proofs.held.begin_state.Goals as goal

pub returns : goal.returns
returns c =
    puts-then c.put_text.result c.args.writer.now c.begin_object.new.self c.put_text.new.writer _ _ c.in_ok-begin_object.ensures.ok c.in_ok-begin_object.ensures.room.0
    c.put_text.ensures
