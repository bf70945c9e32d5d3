use Rattle.std.proofs.Common.{codes}
use Rattle.otlp_json.specs.Writing.{double_data}
use Rattle.block_json.proofs.Adding.{one-added}
use Rattle.block_json.proofs.members.object_of_double.Goals as goal

pub returns : goal.returns
returns g c = one-added g.met.S.TokenSink.composes (codes "doubleValue") (double_data c.args.x) c.args.out.now c.begin_object.new.self c.key.new.self c.double.new.self c.end_object.new.self c.begin_object.ensures c.key.ensures c.double.ensures c.end_object.ensures
