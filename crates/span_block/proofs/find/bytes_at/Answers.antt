use Rattle.std.proofs.Common.{◌∙◌, ap}
use Rattle.protobuf_wire.specs.Wire.{fields_of}
use Rattle.span_block.proofs.find.bytes_at.Goals as goal

pub returns-clause-found : goal.returns-clause-found
returns-clause-found c = λ fs e. (c.bytes.ensures.asked fs (ap fields_of c.of-cursor.ensures ∙ e)).found
