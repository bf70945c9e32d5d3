use Rattle.std.proofs.Common.{◌≡◌, codes}
use mir.Val.{to_z, of_z}
use mir.Syntax.{w64}
use Rattle.std.proofs.lemmas.Int.{to_z-of_z}
use Rattle.std.specs.Fmt.{signed_decimal}
use Rattle.serde_json.specs.Data.{string}
use Rattle.block_json.proofs.Adding.{one-added}
use Rattle.block_json.proofs.members.object_of_integer.Goals as goal

pub returns : goal.returns
returns g c =
    let read : to_z w64 (of_z w64 c.args.n) ≡ c.args.n = to_z-of_z w64 c.args.n c.ranges.n in
    one-added g.met.S.TokenSink.composes (codes "intValue") (string (signed_decimal c.args.n)) c.args.out.now c.begin_object.new.self c.key.new.self c.quoted_i64.new.self c.end_object.new.self c.begin_object.ensures c.key.ensures (rw read at c.quoted_i64.ensures) c.end_object.ensures
