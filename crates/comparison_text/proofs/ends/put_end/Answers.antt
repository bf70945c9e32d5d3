use Rattle.std.proofs.Common.{ap}
use Rattle.json.specs.Json.{string}
use Rattle.decision_line.specs.Line.{name_or_null}
use Rattle.comparison_text.proofs.Appended.{member-as, member-then, members-end, object-of}
use Rattle.comparison_text.proofs.ends.put_end.Goals as goal

pub returns : goal.returns
returns c =
    let last = c.end_object.result in
    let new = c.end_object.new.self in
    object-of last c.args.out.now c.begin_object.new.self new _ c.in_ok-begin_object.ensures.ok c.in_ok-begin_object.ensures.room.0
    (member-then last c.begin_object.new.self c.put_word.new.out new _ _ _ (member-as c.begin_object.new.self c.put_word.new.out _ _ _ (ap string c.ended_word.ensures) c.in_ok-put_word.ensures.all)
    (member-then last c.put_word.new.out c.put_word_or_null.new.out new _ _ _ (member-as c.put_word.new.out c.put_word_or_null.new.out _ _ _ (ap name_or_null c.policy.ensures) c.in_ok-put_word_or_null.ensures.all)
    (member-then last c.put_word_or_null.new.out c.put_word_or_null-2.new.out new _ _ _ (member-as c.put_word_or_null.new.out c.put_word_or_null-2.new.out _ _ _ (ap name_or_null c.ended_cause.ensures) c.in_ok-put_word_or_null-2.ensures.all)
    (member-then last c.put_word_or_null-2.new.out c.put_number.new.out new _ _ _ c.in_ok-put_number.ensures.all
    (member-then last c.put_number.new.out c.put_number-2.new.out new _ _ _ c.in_ok-put_number-2.ensures.all
    (member-then last c.put_number-2.new.out c.put_truth.new.out new _ _ _ c.in_ok-put_truth.ensures.all
    (members-end last c.put_truth.new.out new c.end_object.ensures)))))))
