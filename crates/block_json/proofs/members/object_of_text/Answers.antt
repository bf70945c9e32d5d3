use Rattle.std.proofs.Common.{codes}
use Rattle.serde_json.specs.Data.{string}
use Rattle.block_json.proofs.Adding.{one-added}
use Rattle.block_json.proofs.members.object_of_text.Goals as goal

pub returns : goal.returns
returns g c = one-added g.met.S.TokenSink.composes (codes "stringValue") (string c.args.text.now) c.args.out.now c.begin_object.new.self c.key.new.self c.string.new.self c.end_object.new.self c.begin_object.ensures c.key.ensures c.string.ensures c.end_object.ensures
