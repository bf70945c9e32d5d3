use Rattle.std.proofs.Common.{◌++◌, ◌∙◌, ℕ, List, ap}
use Rattle.std.specs.Prelude.{decimal}
use Rattle.span_ids.specs.Id.{id_text}
use Rattle.decision_line.specs.Line.{verdict_word}
use Rattle.decision_line.proofs.Appended.{appends-as, appends-then, on-ok}
use Rattle.decision_line.proofs.Escapes.{verdict-plain}
use Rattle.decision_line.proofs.Back.{late-reads-back}
use Rattle.decision_line.proofs.Told.{late-told}
use Rattle.decision_line.proofs.line.append_late.Goals as goal

pub returns-clause-text : goal.returns-clause-text
returns-clause-text c =
    let late = c.args.late.now in
    appends-as c.put-2.result _ _ _ _ (late-told (id_text late.trace) (decimal late.moment) (verdict_word late.verdict) (decimal late.spans) (verdict-plain late.verdict))
    (appends-then c.put-2.result _ _ _ _ _ c.in_ok-put_trace.ensures.whole
    (appends-then c.put-2.result _ _ _ _ _ c.in_ok-put_number.ensures.text.whole
    (appends-then c.put-2.result _ _ _ _ _ (c.in_ok-put.ensures.whole ∙ ap (λ (x : List ℕ). c.put_number.new.line.items ++ x) c.verdict_member.ensures)
    (appends-then c.put-2.result _ _ _ _ _ c.in_ok-put_number-2.ensures.text.whole c.put-2.ensures))))

pub returns-clause-back : goal.returns-clause-back
returns-clause-back c = on-ok c.put-2.result (late-reads-back c.args.late.now c.put_number.ensures.range c.put_number-2.ensures.range)
