use Rattle.comparison_text.proofs.Appended.{member-then, members-end, object-of}
use Rattle.comparison_text.proofs.kept.put_service.Goals as goal

pub returns : goal.returns
returns c =
    let last = c.end_object.result in
    let new = c.end_object.new.self in
    object-of last c.args.out.now c.begin_object.new.self new _ c.in_ok-begin_object.ensures.ok c.in_ok-begin_object.ensures.room.0
    (member-then last c.begin_object.new.self c.put_word.new.out new _ _ _ c.in_ok-put_word.ensures.all
    (member-then last c.put_word.new.out c.put_number.new.out new _ _ _ c.in_ok-put_number.ensures.all
    (member-then last c.put_number.new.out c.put_number-2.new.out new _ _ _ c.in_ok-put_number-2.ensures.all
    (members-end last c.put_number-2.new.out new c.end_object.ensures))))
