use Rattle.std.proofs.Common.{ℕ, List, drop, get_or, arith}
use Rattle.protobuf_wire.proofs.Numbers.{short_number}
use Rattle.message_cursor.proofs.Fronts.{is_above}
use Rattle.message_cursor.proofs.front.is_above.Goals as goal

pub returns-then-found-wanted : goal.returns-then-found-wanted
returns-then-found-wanted c =
    let s : List ℕ = c.args.sent.now in
    is_above c.args.wanted s (get_or s 0 0) (drop 1 s) (omega arith) (short_number s (omega arith) (omega arith)) (omega arith)
