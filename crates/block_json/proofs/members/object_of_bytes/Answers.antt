use Rattle.std.proofs.Common.{codes}
use Rattle.base64.specs.Engines.{standard}
use Rattle.base64.specs.GeneralPurpose.{encode_of}
use Rattle.serde_json.specs.Data.{string}
use Rattle.block_json.proofs.Adding.{one-added}
use Rattle.block_json.proofs.members.object_of_bytes.Goals as goal

pub returns : goal.returns
returns g c = one-added g.met.S.TokenSink.composes (codes "bytesValue") (string (encode_of standard c.args.bytes.now)) c.args.out.now c.begin_object.new.self c.key.new.self c.base64.new.self c.end_object.new.self c.begin_object.ensures c.key.ensures c.base64.ensures c.end_object.ensures
