use Rattle.protobuf_writer.proofs.Adding.{one-counted}
use Rattle.protobuf_writer.proofs.fields.write_bytes.Goals as goal

pub returns : goal.returns
returns c = one-counted c.args.out.now.items c.put_tag.new.out.items c.put_number.new.out.items c.extend_from_slice.new.self.items c.args.number c.args.value.now c.in_ok-put_tag.ensures c.in_ok-put_number.ensures c.in_ok-extend_from_slice.ensures.items
