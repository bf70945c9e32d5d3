use Rattle.decision_json.proofs.Appended.{puts-one, puts-then}
use Rattle.decision_json.proofs.held.put_unknown.Goals as goal

pub returns : goal.returns
returns c =
    let last = c.end_object.result in
    let new = c.end_object.new.self in
    puts-then last c.args.writer.now c.begin_state.new.writer new _ _ c.in_ok-begin_state.ensures.all.0 c.in_ok-begin_state.ensures.all.1
    (puts-one last c.begin_state.new.writer new _ c.end_object.ensures)
