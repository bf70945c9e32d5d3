use Rattle.std.proofs.Common.{decimal}
use Rattle.serde_json.specs.Data.{string}
use Rattle.span_size.proofs.Counts.{nothing}
use Rattle.span_size.proofs.Objects.{field-of}
use Rattle.span_size.proofs.Defaults.{some-u64}
use Rattle.span_size.proofs.counting.u64.Goals as goal

pub returns-then-n-eq0 : goal.returns-then-n-eq0
returns-then-n-eq0 c = rw c.if-n-eq0.true (nothing c.args.out.now)

pub returns : goal.returns
returns c = field-of c.args.name.now _ (string (decimal c.args.n)) (some-u64 c.args.n c.if-n-eq0.false) c.key.ensures c.quoted_u64.ensures
