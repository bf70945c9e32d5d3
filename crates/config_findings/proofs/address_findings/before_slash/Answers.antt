use Rattle.std.proofs.Common.{rules}
use Rattle.config_findings.proofs.Slashes.{at_slash, no_slash}
use Rattle.config_findings.proofs.address_findings.before_slash.Goals as goal

pub returns-in-Some : goal.returns-in-Some
returns-in-Some c =
    let found = at_slash c.args.text.now c.in-Some.at (search rules) (search rules) (search rules) in rw found

pub returns-in-None : goal.returns-in-None
returns-in-None c =
    let none = no_slash c.args.text.now (search rules) in rw none
