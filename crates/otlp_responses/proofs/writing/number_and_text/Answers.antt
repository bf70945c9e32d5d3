use Rattle.std.proofs.Common.{[], ◌∷◌, ◌∙◌, ap, rules}
use Rattle.protobuf_wire.specs.Wire.{varint, bytes}
use Rattle.protobuf_writer.specs.Writing.{message_bytes}
use Rattle.protobuf_writer.specs.Defaults.{field}
use Rattle.otlp_responses.proofs.Pairs.{two}
use Rattle.otlp_responses.proofs.writing.number_and_text.Goals as goal

pub returns : goal.returns
returns c =
    two c.new-out.result.items c.write_varint.new.out.items c.write_bytes.new.out.items (field 1 (varint c.args.number)) (field 2 (bytes c.as_bytes.result.now)) (search rules) c.in_ok-write_varint.ensures c.in_ok-write_bytes.ensures
    ∙ ap (λ t. message_bytes (field 1 (varint c.args.number) ∷ field 2 (bytes t) ∷ [])) c.as_bytes.ensures.value
