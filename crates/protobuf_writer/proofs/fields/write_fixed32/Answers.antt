use Rattle.std.proofs.Common.{◌++◌, ◌∙◌, ap}
use Rattle.protobuf_wire.specs.Wire.{fixed32}
use Rattle.protobuf_writer.proofs.Adding.{one}
use Rattle.protobuf_writer.proofs.fields.write_fixed32.Goals as goal

pub returns : goal.returns
returns c = one c.args.out.now.items c.put_tag.new.out.items c.extend_from_slice.new.self.items c.args.number (fixed32 c.args.value) c.in_ok-put_tag.ensures
    (c.in_ok-extend_from_slice.ensures.items ∙ ap (λ s. c.put_tag.new.out.items ++ s) c.to_le_bytes.ensures)
