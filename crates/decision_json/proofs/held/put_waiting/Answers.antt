use Rattle.decision_json.proofs.Appended.{puts-one, puts-then}
use Rattle.decision_json.proofs.held.put_waiting.Goals as goal

pub returns-clause-tokens : goal.returns-clause-tokens
returns-clause-tokens c =
    let last = c.end_object.result in
    let new = c.end_object.new.self in
    puts-then last c.args.writer.now c.begin_state.new.writer new _ _ c.in_ok-begin_state.ensures.all.0 c.in_ok-begin_state.ensures.all.1
    (puts-then last c.begin_state.new.writer c.put_count.new.writer new _ _ c.in_ok-put_count.ensures.tokens.all.0 c.in_ok-put_count.ensures.tokens.all.1
    (puts-then last c.put_count.new.writer c.put_count-2.new.writer new _ _ c.in_ok-put_count-2.ensures.tokens.all.0 c.in_ok-put_count-2.ensures.tokens.all.1
    (puts-one last c.put_count-2.new.writer new _ c.end_object.ensures)))
