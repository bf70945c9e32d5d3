use Rattle.script_laws.proofs.Played.{scripts_grant}
use Rattle.script_laws.proofs.laws.scripts_grant_in_any_window.Goals as goal

pub returns : goal.returns
returns c = scripts_grant
