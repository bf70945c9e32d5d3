use Rattle.std.proofs.Common.{decimal, ap}
use Rattle.serde_json.specs.Data.{string}
use Rattle.otlp_json.specs.Writing.{u64_field}
use Rattle.span_size.proofs.Defaults.{some-u64}
use Rattle.block_json.proofs.Adding.{absent, member}
use Rattle.block_json.proofs.members.time.Goals as goal

pub returns-then-n-eq0 : goal.returns-then-n-eq0
returns-then-n-eq0 g c = absent g.met.S.TokenSink.composes c.args.name.now (u64_field c.args.n) c.args.out.now (ap u64_field c.if-n-eq0.true)

pub returns : goal.returns
returns g c = member g.met.S.TokenSink.composes c.args.name.now (u64_field c.args.n) (string (decimal c.args.n)) c.args.out.now c.key.new.self c.quoted_u64.new.self (some-u64 c.args.n c.if-n-eq0.false) c.key.ensures c.quoted_u64.ensures
