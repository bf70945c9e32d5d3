use Rattle.decision_json.proofs.Appended.{puts-then, trace-as}
use Rattle.decision_json.proofs.putting.begin_evicted.Goals as goal

pub returns-clause-tokens : goal.returns-clause-tokens
returns-clause-tokens c =
    let last = c.put_count-2.result in
    let new = c.put_count-2.new.writer in
    puts-then last c.args.writer.now c.begin_trace.new.writer new _ _ (trace-as _ _ _ _ c.bytes.ensures c.in_ok-begin_trace.ensures.all.0) c.in_ok-begin_trace.ensures.all.1
    (puts-then last c.begin_trace.new.writer c.put_text.new.writer new _ _ c.in_ok-put_text.ensures.all.0 c.in_ok-put_text.ensures.all.1
    (puts-then last c.put_text.new.writer c.put_count.new.writer new _ _ c.in_ok-put_count.ensures.tokens.all.0 c.in_ok-put_count.ensures.tokens.all.1
    c.put_count-2.ensures.tokens))
