use Rattle.protobuf_writer.proofs.Adding.{ended}
use Rattle.protobuf_writer.proofs.messages.end_message.Goals as goal

pub returns : goal.returns
returns c = λ start begun number fs begins adds. ended start begun c.args.out.now.items c.count_behind.new.out.items number c.args.at fs begins adds c.in_ok-count_behind.ensures
