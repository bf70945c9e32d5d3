use Rattle.std.proofs.Common.{◌≡◌, ◌<◌, ◌^◌, ℕ, List, length, codes, refl, ap, ◌∙◌, subst, arith, lit<, Ok}
use Rattle.protobuf_wire.specs.Wire.{fields_of}
use Rattle.otlp_protobuf.specs.Kinds.{uint32}
use Rattle.otlp_protobuf.specs.Values.{most_levels}
use Rattle.otlp_protobuf_encode.specs.Writing as wire
use Rattle.otlp_json.specs.Tokens.{field_tokens}
use Rattle.otlp_json.specs.Writing.{event_table, text_field, u32_field, u64_field}
use Rattle.message_cursor.specs.Walk.{number_in, fixed64_in, bytes_in}
use Rattle.message_cursor.proofs.Lefts.{all_left, next}
use Rattle.span_block.specs.Typed.{PairIsTyped}
use Rattle.block_json.specs.Messages.{AreIn}
use Rattle.block_json.proofs.Adding.{object-added}
use Rattle.block_json.proofs.Groups.{in_fields, event_messages, event_read}
use Rattle.block_json.proofs.Found.{event_name, event_time, event_dropped}
use Rattle.block_json.proofs.span.event.Goals as goal

pub returns : goal.returns
returns g c e is =
    let h = g.met.S.TokenSink.composes in
    let fs = wire.event_fields e in
    let room : length c.args.message.now < 2 ^ 64 = omega arith in
    let read : fields_of c.args.message.now ≡ Ok (wire.event_fields e) = event_read e c.args.message.now is.holds is.written room in
    let all = all_left fs c.of-cursor.result.rest.now (ap fields_of c.of-cursor.ensures ∙ read) in
    let first = next fixed64_in 0 1 fs _ _ _ all (lit< tt) c.fixed64-time.ensures in
    let second = next bytes_in 1 2 fs _ _ _ first.1 (lit< tt) c.bytes-name.ensures.asked in
    let fourth = next number_in 2 4 fs _ _ _ second.1 (lit< tt) c.number.ensures in
    let are : AreIn wire.pair_fields (PairIsTyped most_levels) 3 c.bytes-name.new.self.rest.now e.attributes
    = in_fields wire.pair_fields (PairIsTyped most_levels) 3 c.bytes-name.new.self.rest.now second.1.remaining e.attributes second.1.read (second.1.several 3 (lit< tt) ∙ event_messages e) is.holds.attributes in
    let dropped = c.uint32-dropped.ensures ∙ ap uint32 fourth.0 ∙ event_dropped e is.holds.dropped_attributes in
    let name = second.0 ∙ event_name e in
    let time = first.0 ∙ event_time e in
    let D : ℕ → Type 0 = λ n. g.S.TokenSink.adds c.pairs.new.out c.count.new.out (field_tokens (codes "droppedAttributesCount") (u32_field n)) in
    let N : List ℕ → Type 0 = λ s. g.S.TokenSink.adds c.count.new.out c.text.new.out (field_tokens (codes "name") (text_field s)) in
    let T : ℕ → Type 0 = λ n. g.S.TokenSink.adds c.text.new.out c.time.new.out (field_tokens (codes "timeUnixNano") (u64_field n)) in
    object-added h c.args.out.now c.end_object.new.self (event_table e) refl
    (h.then _ _ _ _ _ c.begin_object.ensures (h.then _ _ _ _ _ (c.pairs.ensures e.attributes are) (h.then _ _ _ _ _ (subst D dropped c.count.ensures) (h.then _ _ _ _ _ (subst N name c.text.ensures) (h.then _ _ _ _ _ (subst T time c.time.ensures) c.end_object.ensures)))))
