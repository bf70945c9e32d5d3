use Rattle.std.proofs.Common.{append-nil, sym}
use Rattle.decision_json.proofs.Appended.{count-as, puts-as, puts-then, text-as, trace-as}
use Rattle.decision_json.proofs.putting.begin_decided.Goals as goal

pub returns-clause-tokens : goal.returns-clause-tokens
returns-clause-tokens c =
    let last = c.put_answers.result in
    let new = c.put_answers.new.writer in
    puts-then last c.args.writer.now c.begin_trace.new.writer new _ _ (trace-as _ _ _ _ c.bytes.ensures c.in_ok-begin_trace.ensures.all.0) c.in_ok-begin_trace.ensures.all.1
    (puts-then last c.begin_trace.new.writer c.put_text.new.writer new _ _ c.in_ok-put_text.ensures.all.0 c.in_ok-put_text.ensures.all.1
    (puts-then last c.put_text.new.writer c.put_count.new.writer new _ _ c.in_ok-put_count.ensures.tokens.all.0 c.in_ok-put_count.ensures.tokens.all.1
    (puts-then last c.put_count.new.writer c.put_text-2.new.writer new _ _ (text-as _ _ _ _ _ c.kept_word.ensures c.in_ok-put_text-2.ensures.all.0) c.in_ok-put_text-2.ensures.all.1
    (puts-then last c.put_text-2.new.writer c.put_text-3.new.writer new _ _ (text-as _ _ _ _ _ c.because_word-because.ensures c.in_ok-put_text-3.ensures.all.0) c.in_ok-put_text-3.ensures.all.1
    (puts-then last c.put_text-3.new.writer c.put_decider.new.writer new _ _ c.in_ok-put_decider.ensures.all.0 c.in_ok-put_decider.ensures.all.1
    (puts-then last c.put_decider.new.writer c.put_count-2.new.writer new _ _ c.in_ok-put_count-2.ensures.tokens.all.0 c.in_ok-put_count-2.ensures.tokens.all.1
    (puts-then last c.put_count-2.new.writer c.put_count-3.new.writer new _ _ (count-as _ _ _ _ _ c.saturating_sub-waited.ensures c.in_ok-put_count-3.ensures.tokens.all.0) c.in_ok-put_count-3.ensures.tokens.all.1
    (puts-then last c.put_count-3.new.writer c.put_text-4.new.writer new _ _ (text-as _ _ _ _ _ c.ended_word.ensures c.in_ok-put_text-4.ensures.all.0) c.in_ok-put_text-4.ensures.all.1
    (puts-then last c.put_text-4.new.writer c.key.new.self new _ _ c.in_ok-key.ensures.ok c.in_ok-key.ensures.room.0
    (puts-then last c.key.new.self c.begin_array.new.self new _ _ c.in_ok-begin_array.ensures.ok c.in_ok-begin_array.ensures.room.0
    (puts-as last c.begin_array.new.self new _ _ (sym (append-nil _)) c.put_answers.ensures)))))))))))
