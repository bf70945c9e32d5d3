use Rattle.line_writing.proofs.OneTurn.{whole_turn, part_turn}
use Rattle.line_writing.proofs.turn.write_turn.Goals as goal

pub returns-then-is_written : goal.returns-then-is_written
returns-then-is_written g c =
    whole_turn _ _ _ _ _ _ _ _ _ _ _ c.fill-filled.ensures c.write_to-is_written.ensures.taken (c.write_to-is_written.ensures.whole.0 c.if-is_written.true)

pub returns-else-is_written : goal.returns-else-is_written
returns-else-is_written g c =
    part_turn _ _ _ _ _ _ _ _ _ _ _ c.fill-filled.ensures c.write_to-is_written.ensures.taken c.write_to-is_written.result c.if-is_written.false c.write_to-is_written.ensures.whole
