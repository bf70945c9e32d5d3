use Rattle.std.proofs.Common.{◌≡◌, ◌<◌, ◌^◌, ℕ, ℤ, List, length, Some, codes, pos, sym, ap, ◌∙◌, refl, subst, arith, lit<, ◌==◌, Ok}
use Rattle.std.specs.Int.{w64, cast_unsigned}
use Rattle.serde_json.specs.Data.{object}
use Rattle.protobuf_wire.specs.Wire.{fields_of}
use Rattle.otlp_protobuf.specs.Kinds.{int64}
use Rattle.otlp_protobuf_encode.specs.Writing as wire
use Rattle.otlp_json.specs.Tokens.{field_tokens}
use Rattle.otlp_json.specs.Writing.{message_field, status_fields, status_table, enum_field, text_field}
use Rattle.message_cursor.specs.Walk.{number_in, bytes_in}
use Rattle.message_cursor.proofs.Lefts.{all_left, next}
use Rattle.span_block.proofs.Fields.{status_read}
use Rattle.span_block.proofs.Found.{status_message_found}
use Rattle.span_size.proofs.Defaults.{no-status, status-of-code, status-of-message}
use Rattle.block_json.proofs.Adding.{absent, member, object-added}
use Rattle.block_json.proofs.Found.{code_found, signed_again, is_zero}
use Rattle.block_json.proofs.span.status.Goals.{else-code-eq0-via-then-code-eq0+else-is_empty, else-code-eq0-via-else-code-eq0}
use Rattle.block_json.proofs.span.status.Goals as goal

pub returns-then-is_empty : goal.returns-then-is_empty
returns-then-is_empty g c s is =
    let room : length c.args.message.now < 2 ^ 64 = omega arith in
    let read : fields_of c.args.message.now ≡ Ok (wire.status_fields s) = status_read s c.args.message.now is.holds.code is.written room in
    let all = all_left (wire.status_fields s) c.of-cursor.result.rest.now (ap fields_of c.of-cursor.ensures ∙ read) in
    let second = next bytes_in 0 2 (wire.status_fields s) _ _ _ all (lit< tt) c.bytes-text.ensures.asked in
    let third = next number_in 2 3 (wire.status_fields s) _ _ _ second.1 (lit< tt) c.number.ensures in
    let code : c.int64-code.result ≡ s.code = c.int64-code.ensures ∙ ap int64 third.0 ∙ code_found s is.holds.code in
    let text : c.bytes-text.result.now ≡ s.message = second.0 ∙ status_message_found s in
    let zero : s.code ≡ pos 0 = is_zero c.int64-code.result s.code code is.holds.code c.if-code-eq0.true in
    let empty = ap (λ (t : List ℕ). length t == 0) (sym text) ∙ sym c.is_empty.ensures ∙ c.if-is_empty.true in
    absent g.met.S.TokenSink.composes (codes "status") (message_field (status_fields s)) c.args.out.now (no-status s zero empty)

pub returns : goal.returns
returns g c s is =
    let room : length c.args.message.now < 2 ^ 64 = omega arith in
    let read : fields_of c.args.message.now ≡ Ok (wire.status_fields s) = status_read s c.args.message.now is.holds.code is.written room in
    let all = all_left (wire.status_fields s) c.of-cursor.result.rest.now (ap fields_of c.of-cursor.ensures ∙ read) in
    let second = next bytes_in 0 2 (wire.status_fields s) _ _ _ all (lit< tt) c.bytes-text.ensures.asked in
    let third = next number_in 2 3 (wire.status_fields s) _ _ _ second.1 (lit< tt) c.number.ensures in
    let code : c.int64-code.result ≡ s.code = c.int64-code.ensures ∙ ap int64 third.0 ∙ code_found s is.holds.code in
    let text : c.bytes-text.result.now ≡ s.message = second.0 ∙ status_message_found s in
    let some : message_field (status_fields s) ≡ Some (object (status_fields s)) = elim c.else-code-eq0.branch [
      | else-code-eq0-via-then-code-eq0+else-is_empty w ↦ status-of-message s (ap (λ (t : List ℕ). length t == 0) (sym text) ∙ sym w.is_empty.ensures ∙ w.if-is_empty.false)
      | else-code-eq0-via-else-code-eq0 w ↦ status-of-code s (λ zero. w.if-code-eq0.false (ap (cast_unsigned w64) (code ∙ zero)))
    ] in
    let P : ℤ → Type 0 = λ z. g.S.TokenSink.adds c.begin_object.new.self c.whole.new.out (field_tokens (codes "code") (enum_field z)) in
    let Q : List ℕ → Type 0 = λ t. g.S.TokenSink.adds c.whole.new.out c.text.new.out (field_tokens (codes "message") (text_field t)) in
    let h = g.met.S.TokenSink.composes in
    let inner = object-added h c.key.new.self c.end_object.new.self (status_table s) refl
    (h.then _ _ _ _ _ c.begin_object.ensures (h.then _ _ _ _ _ (subst P (signed_again c.int64-code.result s.code code is.holds.code) c.whole.ensures) (h.then _ _ _ _ _ (subst Q text c.text.ensures) c.end_object.ensures))) in
    member h (codes "status") (message_field (status_fields s)) (object (status_fields s)) c.args.out.now c.key.new.self c.end_object.new.self some c.key.ensures inner
