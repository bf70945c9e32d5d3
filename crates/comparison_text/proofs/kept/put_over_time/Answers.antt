use Rattle.std.proofs.Common.{ap}
use Rattle.decision_line.specs.Line.{count}
use Rattle.comparison_text.specs.Value.{array_of}
use Rattle.comparison_text.proofs.Appended.{member-as, member-of, member-then, members-end, object-of}
use Rattle.comparison_text.proofs.kept.put_over_time.Goals as goal

pub returns : goal.returns
returns c =
    let last = c.end_object.result in
    let new = c.end_object.new.self in
    member-of last c.args.out.now c.key.new.self new _ _ c.in_ok-key.ensures.ok c.in_ok-key.ensures.room.0
    (object-of last c.key.new.self c.begin_object.new.self new _ c.in_ok-begin_object.ensures.ok c.in_ok-begin_object.ensures.room.0
    (member-then last c.begin_object.new.self c.put_number.new.out new _ _ _ (member-as c.begin_object.new.self c.put_number.new.out _ _ _ (ap count c.begin.ensures) c.in_ok-put_number.ensures.all)
    (member-then last c.put_number.new.out c.put_number-2.new.out new _ _ _ (member-as c.put_number.new.out c.put_number-2.new.out _ _ _ (ap count c.width.ensures) c.in_ok-put_number-2.ensures.all)
    (member-then last c.put_number-2.new.out c.put_numbers.new.out new _ _ _ (member-as c.put_number-2.new.out c.put_numbers.new.out _ _ _ (ap (array_of count) c.counts.ensures) c.in_ok-put_numbers.ensures.all)
    (member-then last c.put_numbers.new.out c.put_numbers-2.new.out new _ _ _ (member-as c.put_numbers.new.out c.put_numbers-2.new.out _ _ _ (ap (array_of count) c.counts-2.ensures) c.in_ok-put_numbers-2.ensures.all)
    (members-end last c.put_numbers-2.new.out new c.end_object.ensures))))))
