use Rattle.std.proofs.Common.{◌≡◌, ◌<◌, ◌^◌, ℕ, List, length, codes, refl, ap, ◌∙◌, subst, arith, lit<, Ok}
use Rattle.hex.specs.Hex.{encode_lower}
use Rattle.protobuf_wire.specs.Wire.{fields_of}
use Rattle.otlp_protobuf.specs.Kinds.{uint32}
use Rattle.otlp_protobuf.specs.Values.{most_levels}
use Rattle.otlp_protobuf_encode.specs.Writing as wire
use Rattle.otlp_json.specs.Tokens.{field_tokens}
use Rattle.otlp_json.specs.Writing.{link_table, text_field, u32_field}
use Rattle.message_cursor.specs.Walk.{number_in, fixed32_in, bytes_in}
use Rattle.message_cursor.proofs.Lefts.{all_left, next}
use Rattle.span_block.specs.Typed.{PairIsTyped}
use Rattle.block_json.specs.Messages.{AreIn}
use Rattle.block_json.proofs.Adding.{object-added}
use Rattle.block_json.proofs.Groups.{in_fields, link_messages, link_read}
use Rattle.block_json.proofs.Found.{link_trace, link_span, link_state, link_dropped, link_flags}
use Rattle.block_json.proofs.span.link.Goals as goal

pub returns : goal.returns
returns g c l is =
    let h = g.met.S.TokenSink.composes in
    let fs = wire.link_fields l in
    let room : length c.args.message.now < 2 ^ 64 = omega arith in
    let read : fields_of c.args.message.now ≡ Ok (wire.link_fields l) = link_read l c.args.message.now is.holds is.written room in
    let all = all_left fs c.of-cursor.result.rest.now (ap fields_of c.of-cursor.ensures ∙ read) in
    let first = next bytes_in 0 1 fs _ _ _ all (lit< tt) c.bytes-trace_id.ensures.asked in
    let second = next bytes_in 1 2 fs _ _ _ first.1 (lit< tt) c.bytes-span_id.ensures.asked in
    let third = next bytes_in 2 3 fs _ _ _ second.1 (lit< tt) c.bytes-trace_state.ensures.asked in
    let fifth = next number_in 3 5 fs _ _ _ third.1 (lit< tt) c.number.ensures in
    let sixth = next fixed32_in 5 6 fs _ _ _ fifth.1 (lit< tt) c.fixed32-flags.ensures in
    let are : AreIn wire.pair_fields (PairIsTyped most_levels) 4 c.bytes-trace_state.new.self.rest.now l.attributes
    = in_fields wire.pair_fields (PairIsTyped most_levels) 4 c.bytes-trace_state.new.self.rest.now third.1.remaining l.attributes third.1.read (third.1.several 4 (lit< tt) ∙ link_messages l) is.holds.attributes in
    let dropped = c.uint32-dropped.ensures ∙ ap uint32 fifth.0 ∙ link_dropped l is.holds.dropped_attributes in
    let flags = sixth.0 ∙ link_flags l in
    let span = ap encode_lower second.0 ∙ link_span l is.holds.span_id in
    let trace = ap encode_lower first.0 ∙ link_trace l is.holds.trace_id in
    let state = third.0 ∙ link_state l in
    let D : ℕ → Type 0 = λ n. g.S.TokenSink.adds c.pairs.new.out c.count.new.out (field_tokens (codes "droppedAttributesCount") (u32_field n)) in
    let F : ℕ → Type 0 = λ n. g.S.TokenSink.adds c.count.new.out c.count-2.new.out (field_tokens (codes "flags") (u32_field n)) in
    let S : List ℕ → Type 0 = λ s. g.S.TokenSink.adds c.count-2.new.out c.hex.new.out (field_tokens (codes "spanId") (text_field s)) in
    let T : List ℕ → Type 0 = λ s. g.S.TokenSink.adds c.hex.new.out c.hex-2.new.out (field_tokens (codes "traceId") (text_field s)) in
    let U : List ℕ → Type 0 = λ s. g.S.TokenSink.adds c.hex-2.new.out c.text.new.out (field_tokens (codes "traceState") (text_field s)) in
    object-added h c.args.out.now c.end_object.new.self (link_table l) refl
    (h.then _ _ _ _ _ c.begin_object.ensures (h.then _ _ _ _ _ (c.pairs.ensures l.attributes are) (h.then _ _ _ _ _ (subst D dropped c.count.ensures) (h.then _ _ _ _ _ (subst F flags c.count-2.ensures) (h.then _ _ _ _ _ (subst S span c.hex.ensures) (h.then _ _ _ _ _ (subst T trace c.hex-2.ensures) (h.then _ _ _ _ _ (subst U state c.text.ensures) c.end_object.ensures)))))))
