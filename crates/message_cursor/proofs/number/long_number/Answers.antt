use Rattle.std.proofs.Common.{ℕ, ◌∙◌, ◌+◌, ◌-◌, ◌*◌, ◌%◌, ◌^◌, List, length, drop, get_or, Ok, ap, sym, refl, arith, length-drop}
use Rattle.std.proofs.lemmas.List.{take_all}
use Rattle.protobuf_wire.proofs.Numbers.{more_fits, Reads-start, Reads-step, Reads-cut, Reads-end, nine, Reads-long, Reads-last}
use Rattle.message_cursor.proofs.number.long_number.Goals as goal

pub loop-i-init : goal.loop-i-init
loop-i-init c = Reads-start c.args.bytes.now

pub returns-then-i-bytes-clause-value : goal.returns-then-i-bytes-clause-value
returns-then-i-bytes-clause-value c = Reads-cut c.args.bytes.now c.loop-i.i c.loop-i.value c.loop-i.invariant (omega arith) (omega arith)

pub overflow_add-value : goal.overflow_add-value
overflow_add-value c = omega (arith, more_fits c.loop-i.value (get_or c.args.bytes.now c.loop-i.i 0) c.loop-i.i c.loop-i.invariant.small (omega arith))

pub returns-then-byte-lt128-clause-value : goal.returns-then-byte-lt128-clause-value
returns-then-byte-lt128-clause-value c =
    let s : List ℕ = c.args.bytes.now in
    let v : ℕ = c.loop-i.value + (get_or s c.loop-i.i 0 % 128 * 2 ^ (7 * c.loop-i.i)) % 2 ^ 64 in
    Reads-end s c.loop-i.i c.loop-i.value (get_or s c.loop-i.i 0) c.loop-i.invariant (omega arith) (omega arith) refl (omega arith)
    ∙ ap (λ r. Ok (v, r)) (sym (take_all (length s - (c.loop-i.i + 1)) (drop (c.loop-i.i + 1) s) (omega (arith, length-drop (c.loop-i.i + 1) s))))

pub loop-i-preserved : goal.loop-i-preserved
loop-i-preserved c =
    Reads-step c.args.bytes.now c.loop-i.i c.loop-i.value _ c.loop-i.invariant (omega arith) (omega arith) refl (omega arith) (omega (arith, c.type_inv.bytes c.loop-i.i))

pub returns-then-bytes-eq9-clause-value : goal.returns-then-bytes-eq9-clause-value
returns-then-bytes-eq9-clause-value c = Reads-cut c.args.bytes.now c.loop-i.i c.loop-i.value c.loop-i.invariant (omega arith) (omega arith)

pub returns-then-last-ge128-clause-value : goal.returns-then-last-ge128-clause-value
returns-then-last-ge128-clause-value c = Reads-long c.args.bytes.now c.loop-i.value (nine c.args.bytes.now c.loop-i.i c.loop-i.value c.loop-i.invariant (omega arith)) (omega arith) (omega arith)

pub returns-clause-value : goal.returns-clause-value
returns-clause-value c =
    let s : List ℕ = c.args.bytes.now in
    let v : ℕ = c.loop-i.value + get_or s 9 0 % 2 * 9223372036854775808 in
    Reads-last s c.loop-i.value (nine s c.loop-i.i c.loop-i.value c.loop-i.invariant (omega arith)) (omega arith) (omega arith)
    ∙ ap (λ r. Ok (v, r)) (sym (take_all (length s - 10) (drop 10 s) (omega (arith, length-drop 10 s))))
