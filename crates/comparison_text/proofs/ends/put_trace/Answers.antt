use Rattle.std.proofs.Common.{◌≡◌, ap, rules}
use Rattle.json.specs.Json.{string}
use Rattle.span_ids.specs.Id.{id_text}
use Rattle.comparison_text.proofs.Appended.{member-as, member-then, members-end, object-of}
use Rattle.comparison_text.proofs.ends.put_trace.Goals as goal

pub returns : goal.returns
returns c =
    let is : c.as_str.result.now ≡ id_text c.args.trace.now.trace = search rules in
    let last = c.end_object.result in
    let new = c.end_object.new.self in
    object-of last c.args.out.now c.begin_object.new.self new _ c.in_ok-begin_object.ensures.ok c.in_ok-begin_object.ensures.room.0
    (member-then last c.begin_object.new.self c.put_word.new.out new _ _ _ (member-as c.begin_object.new.self c.put_word.new.out _ _ _ (ap string is) c.in_ok-put_word.ensures.all)
    (member-then last c.put_word.new.out c.put_end_or_null.new.out new _ _ _ c.in_ok-put_end_or_null.ensures.all
    (member-then last c.put_end_or_null.new.out c.put_end_or_null-2.new.out new _ _ _ c.in_ok-put_end_or_null-2.ensures.all
    (members-end last c.put_end_or_null-2.new.out new c.end_object.ensures))))
