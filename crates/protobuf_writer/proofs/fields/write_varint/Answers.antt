use Rattle.protobuf_wire.specs.Wire.{varint}
use Rattle.protobuf_writer.proofs.Adding.{one}
use Rattle.protobuf_writer.proofs.fields.write_varint.Goals as goal

pub returns : goal.returns
returns c = one c.args.out.now.items c.put_tag.new.out.items c.put_number.new.out.items c.args.number (varint c.args.value) c.in_ok-put_tag.ensures c.in_ok-put_number.ensures
