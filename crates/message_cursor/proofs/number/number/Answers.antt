use Rattle.std.proofs.Common.{ℕ, ◌∙◌, ◌-◌, List, length, drop, get_or, Ok, ap, sym, arith, length-drop}
use Rattle.std.proofs.lemmas.List.{take_all}
use Rattle.protobuf_wire.proofs.Numbers.{short_number}
use Rattle.message_cursor.proofs.number.number.Goals as goal

pub returns-then-bytes-lt128-clause-value : goal.returns-then-bytes-lt128-clause-value
returns-then-bytes-lt128-clause-value c =
    let s : List ℕ = c.args.bytes.now in
    short_number s (omega arith) (omega arith) ∙ ap (λ r. Ok (get_or s 0 0, r)) (sym (take_all (length s - 1) (drop 1 s) (omega (arith, length-drop 1 s))))
