use Rattle.std.proofs.Common.{refl, true, false}
use Rattle.json.specs.Token.{boolean}
use Rattle.block_json.proofs.byte_sink.ByteSinkTokenSink.boolean.Goals as goal

pub returns-then-b : goal.returns-then-b
returns-then-b c = rw c.if-b.true (c.token.ensures (boolean true) (record { size = refl; begin = refl; end = refl }))

pub returns-else-b : goal.returns-else-b
returns-else-b c = rw c.if-b.false (c.token-else-b.ensures (boolean false) (record { size = refl; begin = refl; end = refl }))
