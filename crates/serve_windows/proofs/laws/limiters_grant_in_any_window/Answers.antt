use Rattle.serve_windows.proofs.Seats.{limiters_grant}
use Rattle.serve_windows.proofs.laws.limiters_grant_in_any_window.Goals as goal

pub returns : goal.returns
returns c = limiters_grant
