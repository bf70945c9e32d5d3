use Rattle.std.proofs.Common.{[], ◌∷◌}
use Rattle.json.specs.Token.{begin_object, end_object}
use Rattle.block_json.proofs.members.object_of_none.Goals as goal

pub returns : goal.returns
returns g c = g.met.S.TokenSink.composes.then c.args.out.now c.begin_object.new.self c.end_object.new.self (begin_object ∷ []) (end_object ∷ []) c.begin_object.ensures c.end_object.ensures
