use Rattle.rate_windows.proofs.Windows.{any-window-of-seats}
use Rattle.rate_windows.proofs.laws.seats_grant_in_any_window.Goals as goal

pub returns : goal.returns
returns c = any-window-of-seats
