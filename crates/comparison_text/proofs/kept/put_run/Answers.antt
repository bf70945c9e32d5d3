use Rattle.std.proofs.Common.{◌∙◌, ap, length}
use Rattle.decision_line.specs.Line.{count}
use Rattle.run_comparison.specs.Ends.{Traces}
use Rattle.run_comparison.specs.Policies.{PolicyAmounts}
use Rattle.run_comparison.specs.Services.{Services}
use Rattle.comparison_text.specs.Value.{amount_value}
use Rattle.comparison_text.proofs.Appended.{member-as, member-of, member-then, members-end, object-of}
use Rattle.comparison_text.proofs.kept.put_run.Goals as goal

pub returns : goal.returns
returns c =
    let last = c.end_object.result in
    let new = c.end_object.new.self in
    member-of last c.args.out.now c.key.new.self new _ _ c.in_ok-key.ensures.ok c.in_ok-key.ensures.room.0
    (object-of last c.key.new.self c.begin_object.new.self new _ c.in_ok-begin_object.ensures.ok c.in_ok-begin_object.ensures.room.0
    (member-then last c.begin_object.new.self c.put_word.new.out new _ _ _ c.in_ok-put_word.ensures.all
    (member-then last c.put_word.new.out c.put_amount.new.out new _ _ _ (member-as c.put_word.new.out c.put_amount.new.out _ _ _ (ap amount_value c.kept.ensures) c.in_ok-put_amount.ensures.all)
    (member-then last c.put_amount.new.out c.put_amount-2.new.out new _ _ _ (member-as c.put_amount.new.out c.put_amount-2.new.out _ _ _ (ap amount_value (c.without.ensures ∙ ap (λ (p : PolicyAmounts). p.without) c.policies.ensures)) c.in_ok-put_amount-2.ensures.all)
    (member-then last c.put_amount-2.new.out c.put_number.new.out new _ _ _ (member-as c.put_amount-2.new.out c.put_number.new.out _ _ _ (ap count (c.len.ensures ∙ ap (λ (t : Traces). length t.ends) c.traces.ensures)) c.in_ok-put_number.ensures.all)
    (member-then last c.put_number.new.out c.put_number-2.new.out new _ _ _ (member-as c.put_number.new.out c.put_number-2.new.out _ _ _ (ap count (c.beyond.ensures ∙ ap (λ (t : Traces). t.beyond) c.traces-2.ensures)) c.in_ok-put_number-2.ensures.all)
    (member-then last c.put_number-2.new.out c.put_number-3.new.out new _ _ _ (member-as c.put_number-2.new.out c.put_number-3.new.out _ _ _ (ap count (c.beyond-2.ensures ∙ ap (λ (s : Services). s.beyond) c.services.ensures)) c.in_ok-put_number-3.ensures.all)
    (members-end last c.put_number-3.new.out new c.end_object.ensures))))))))
