use Rattle.std.proofs.Common.{rules}
use Rattle.otlp_json.proofs.MessagesBack.{status-back}
use Rattle.otlp_json.proofs.span.StatusWritten.write.Goals as goal

pub returns-clause-back : goal.returns-clause-back
returns-clause-back c = search (rules, status-back, c.enumeration.ensures.range)
