use Rattle.comparison_text.proofs.Appended.{member-of, member-then, members-end, object-of}
use Rattle.comparison_text.proofs.kept.put_overlap.Goals as goal

pub returns : goal.returns
returns c =
    let last = c.end_object.result in
    let new = c.end_object.new.self in
    member-of last c.args.out.now c.key.new.self new _ _ c.in_ok-key.ensures.ok c.in_ok-key.ensures.room.0
    (object-of last c.key.new.self c.begin_object.new.self new _ c.in_ok-begin_object.ensures.ok c.in_ok-begin_object.ensures.room.0
    (member-then last c.begin_object.new.self c.put_number.new.out new _ _ _ c.in_ok-put_number.ensures.all
    (member-then last c.put_number.new.out c.put_number-2.new.out new _ _ _ c.in_ok-put_number-2.ensures.all
    (member-then last c.put_number-2.new.out c.put_number-3.new.out new _ _ _ c.in_ok-put_number-3.ensures.all
    (member-then last c.put_number-3.new.out c.put_number-4.new.out new _ _ _ c.in_ok-put_number-4.ensures.all
    (member-then last c.put_number-4.new.out c.put_number-5.new.out new _ _ _ c.in_ok-put_number-5.ensures.all
    (members-end last c.put_number-5.new.out new c.end_object.ensures)))))))
