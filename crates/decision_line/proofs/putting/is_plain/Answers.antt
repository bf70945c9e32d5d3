use Rattle.std.proofs.Common.{true, arith}
use Rattle.json.proofs.Printed.Plain.{escape_on_plain}
use Rattle.decision_line.proofs.putting.is_plain.Goals as goal

pub returns : goal.returns
returns c = escape_on_plain true c.args.text.now (λ k low below. c.loop-byte.invariant k low (omega (arith, c.loop-byte-test.false)))
