use Rattle.std.proofs.Common.{◌∙◌, ap}
use Rattle.protobuf_wire.specs.Wire.{fields_of}
use Rattle.span_block.proofs.find.fixed32_at.Goals as goal

pub returns : goal.returns
returns c = λ fs e. (c.fixed32.ensures fs (ap fields_of c.of-cursor.ensures ∙ e)).found
