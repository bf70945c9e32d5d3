use Rattle.std.proofs.Common.{sym}
use Rattle.std.specs.Prelude.{◌==◌}
use Rattle.http_text.proofs.FieldLemmas.{before_some, before_none}
use Rattle.http_text.proofs.fields.host_name.Goals as goal

pub returns-in-Some : goal.returns-in-Some
returns-in-Some c = sym (before_some (λ b. b == 58) c.args.host.now c.in-Some.at (sym c.in-Some.ensures.value))

pub returns-in-None : goal.returns-in-None
returns-in-None c = sym (before_none (λ b. b == 58) c.args.host.now (sym c.in-None.ensures.value))
