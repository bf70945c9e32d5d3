use Rattle.std.proofs.Common.{[], ◌∷◌}
use Rattle.protobuf_wire.specs.Wire.{bytes}
use Rattle.protobuf_writer.specs.Defaults.{field, message_in}
use Rattle.span_block.proofs.Alone.{still_within, whole_request}
use Rattle.span_block.proofs.unpack.request_alone.Goals as goal

pub end_message-requires-2 : goal.end_message-requires-2
end_message-requires-2 c =
    still_within c.in_ok-resource_spans.resource_spans c.begin_message.new.out.items c.end_message.new.out.items (message_in 2 (field 2 (bytes c.args.block.now) ∷ []) ∷ []) c.in_ok-resource_spans.ensures.within
    (c.in_ok-end_message.ensures c.begin_message.new.out.items c.begin_message-2.new.out.items 2 (field 2 (bytes c.args.block.now) ∷ []) c.in_ok-scope_spans.ensures.begun c.in_ok-write_bytes.ensures)

pub returns : goal.returns
returns c = λ span is.
    whole_request c.new-out.result.items c.end_message-2.new.out.items c.args.block.now span c.new-out.ensures.items
    (c.in_ok-end_message-2.ensures c.new-out.result.items c.begin_message.new.out.items 1 (message_in 2 (field 2 (bytes c.args.block.now) ∷ []) ∷ []) c.in_ok-resource_spans.ensures.begun
    (c.in_ok-end_message.ensures c.begin_message.new.out.items c.begin_message-2.new.out.items 2 (field 2 (bytes c.args.block.now) ∷ []) c.in_ok-scope_spans.ensures.begun c.in_ok-write_bytes.ensures))
    is
