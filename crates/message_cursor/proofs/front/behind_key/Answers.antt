use Rattle.std.proofs.Common.{◌≡◌, ◌+◌, ◌-◌, ◌*◌, ℕ, List, length, drop, get_or, Ok, ◌∙◌, ap, sym, arith, length-drop}
use Rattle.std.proofs.lemmas.List.{take_all}
use Rattle.protobuf_wire.proofs.Numbers.{short_number}
use Rattle.message_cursor.proofs.front.behind_key.Goals as goal

pub returns-then-key-tag-clause-tag : goal.returns-then-key-tag-clause-tag
returns-then-key-tag-clause-tag c =
    let s : List ℕ = c.args.sent.now in
    let key : get_or s 0 0 ≡ 8 * c.args.wanted + c.args.kind = omega arith in
    short_number s (omega arith) (omega arith) ∙ ap (λ n. Ok (n, drop 1 s)) key
    ∙ ap (λ r. Ok (8 * c.args.wanted + c.args.kind, r)) (sym (take_all (length s - 1) (drop 1 s) (omega (arith, length-drop 1 s))))
