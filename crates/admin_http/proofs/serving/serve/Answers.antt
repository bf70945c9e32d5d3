use Rattle.admin_http.proofs.Harmless.{harmless}
use Rattle.admin_http.proofs.serving.serve.Goals as goal

pub returns-in-Ok-clause-numbers : goal.returns-in-Ok-clause-numbers
returns-in-Ok-clause-numbers g c e = harmless c.args.access c.in-Ok.ensures.0 c.in-Ok.asked e c.in-Ok.ensures.2
