use Rattle.std.proofs.Common.{codes}
use Rattle.serde_json.specs.Data.{boolean}
use Rattle.block_json.proofs.Adding.{one-added}
use Rattle.block_json.proofs.members.object_of_bool.Goals as goal

pub returns : goal.returns
returns g c = one-added g.met.S.TokenSink.composes (codes "boolValue") (boolean c.args.b) c.args.out.now c.begin_object.new.self c.key.new.self c.boolean.new.self c.end_object.new.self c.begin_object.ensures c.key.ensures c.boolean.ensures c.end_object.ensures
