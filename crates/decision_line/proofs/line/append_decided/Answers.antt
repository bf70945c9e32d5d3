use Rattle.std.proofs.Common.{◌-◌, ◌++◌, ◌∙◌, ℕ, List, ap, map, string_bytes}
use Rattle.std.specs.Prelude.{codes, decimal, option_and_then, slice_get}
use Rattle.span_ids.specs.Id.{id_text}
use Rattle.decision_line.specs.Line.{cause_word, policy_items, verdict_word}
use Rattle.decision_line.proofs.Appended.{appends-as, appends-then, on-ok}
use Rattle.decision_line.proofs.Escapes.{cause-plain, verdict-plain}
use Rattle.decision_line.proofs.Back.{decided-reads-back}
use Rattle.decision_line.proofs.Told.{decided-told}
use Rattle.decision_line.proofs.line.append_decided.Goals as goal

pub returns-clause-text : goal.returns-clause-text
returns-clause-text c =
    let decision = c.args.decision.now in
    let names : List (List ℕ) = map string_bytes c.args.names.now in
    appends-as c.put-3.result _ _ _ _
    (decided-told (id_text decision.trace) (decimal decision.moment) (verdict_word decision.verdict) (option_and_then (λ place. slice_get names place) decision.decider)
    (cause_word decision.cause) (decimal decision.spans) (decimal (decision.moment - decision.opened)) (policy_items names c.args.said.now)
    (verdict-plain decision.verdict) (cause-plain decision.cause))
    (appends-then c.put-3.result _ _ _ _ _ c.in_ok-put_trace.ensures.whole
    (appends-then c.put-3.result _ _ _ _ _ c.in_ok-put_number.ensures.text.whole
    (appends-then c.put-3.result _ _ _ _ _ (c.in_ok-put.ensures.whole ∙ ap (λ (x : List ℕ). c.put_number.new.line.items ++ x) c.verdict_member.ensures)
    (appends-then c.put-3.result _ _ _ _ _ c.in_ok-put_decider.ensures.whole
    (appends-then c.put-3.result _ _ _ _ _ (c.in_ok-put_number-2.ensures.text.whole ∙ ap (λ (x : List ℕ). c.put_decider.new.line.items ++ (x ++ decimal decision.spans)) c.cause_member.ensures)
    (appends-then c.put-3.result _ _ _ _ _ (c.in_ok-put_number-3.ensures.text.whole ∙ ap (λ (n : ℕ). c.put_number-2.new.line.items ++ (codes ",\"waitedMs\":" ++ decimal n)) c.saturating_sub-waited.ensures)
    (appends-then c.put-3.result _ _ _ _ _ c.in_ok-put-2.ensures.whole
    (appends-then c.put-3.result _ _ _ _ _ c.in_ok-put_policies.ensures.whole c.put-3.ensures))))))))

pub returns-clause-back : goal.returns-clause-back
returns-clause-back c = on-ok c.put-3.result (decided-reads-back (map string_bytes c.args.names.now) c.args.said.now c.args.decision.now c.put_number.ensures.range c.put_number-2.ensures.range)
