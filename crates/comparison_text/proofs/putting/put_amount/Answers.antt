use Rattle.comparison_text.proofs.Appended.{member-of}
use Rattle.comparison_text.proofs.putting.put_amount.Goals as goal

pub returns : goal.returns
returns c =
    member-of c.put_amount_value.result c.args.out.now c.key.new.self c.put_amount_value.new.out _ _ c.in_ok-key.ensures.ok c.in_ok-key.ensures.room.0 c.put_amount_value.ensures
